-- Each call's zones still to come are those of the call that it makes, and what is left to try falls.
-- Assumes nothing.
use mathlib.Core.Path.{◌≡◌, sym, ◌∙◌, ap, subst}
use mathlib.Core.Bool.{true, false}
use mathlib.Core.List.{List, ◌++◌}
use Prim.Native.Nat.{ℕ, suc, ◌-◌, ◌≤◌, ◌<◌}
use native.Mathlib.Omega.{arith}
use borrow.Author.Tests.{ltb-true, ltb-false}
use Rattle.std.proofs.Common.{is_lt, nat_cmp}
use Rattle.std.proofs.lemmas.Bool.Decides.{nat_tests}
use Rattle.zone_walk.specs.declared.Walk.{Walk}
use Rattle.zone_walk.specs.Zone.{Zone}
use Rattle.zone_walk.specs.Walk.{place_at, first_multiplier_at, last_multiplier_at, least_at, greatest_at}
use Rattle.zone_walk.specs.Walk.{Kept, opened, after, tries, Opens, TriesMultiplier, WentOn}
use Rattle.zone_walk.proofs.Steps.{falls_opening, falls_next, falls_open, falls_back}
use Rattle.zone_walk.proofs.Steps.{past_last, none_under, go_back, at_first, job_opened, pushed, first_tries}
use Rattle.zone_walk.proofs.Steps.{back_tries, next_tries, push_opens, went_on, stands, ended}
use Rattle.zone_walk.proofs.Walk.+open_job_try_multiplier.Goals as goal

-- the job's first multiplier begins its zones
opening : (w : Walk) (i m : ℕ) → i < w.intervals.n → m ≡ first_multiplier_at w i → opened w i ++ after w i ≡ tries w i m ++ after w i
opening w i m h e = ap (λ (l : List Zone). l ++ after w i) (job_opened w i h ∙ ap (tries w i) (sym e))

pub open_job-returns-then-i-self : goal.open_job-returns-then-i-self
open_job-returns-then-i-self t c =
    let w = c.args.self.now in
    let all = subst (Opens w) c.if-i-self.true c.requires in
    subst (λ (i : ℕ). WentOn (opened w i ++ after w i) w true) (sym c.if-i-self.true) (stands w all)

pub open_job-try_multiplier-requires : goal.open_job-try_multiplier-requires
open_job-try_multiplier-requires t c =
    let x = c.args in
    let w = x.self.now in
    let first = first_tries w x.i _ c.requires (omega (arith, c.requires.to)) c.first_multiplier-m.ensures in
    let less = falls_opening w.places x.i c.first_multiplier-m.result first.m_from in
    (omega (arith, c.decreases, less), first)

pub open_job-returns : goal.open_job-returns
open_job-returns t c =
    went_on (opening c.args.self.now c.args.i _ (omega (arith, c.requires.to)) c.first_multiplier-m.ensures) c.try_multiplier.ensures

-- what is known at the job before, and that there is one
from_prev : {w : Walk} {i m : ℕ} → TriesMultiplier w i m → i ≡ suc (i - 1)
from_prev r = omega (arith, r.opens.from)

at_prev : {w : Walk} {i m : ℕ} → TriesMultiplier w i m → Kept (place_at w (i - 1))
at_prev {i = i} r = r.opens.each (i - 1) (omega (arith, r.opens.from))

less : {a b : ℕ} → true ≡ is_lt (nat_cmp a b) → a < b
less h = grind (arith, nat_tests)

not_less : {a b : ℕ} → false ≡ is_lt (nat_cmp a b) → b ≤ a
not_less h = grind (arith, nat_tests)

pub try_multiplier-returns-then-prev-eq0 : goal.try_multiplier-returns-then-prev-eq0
try_multiplier-returns-then-prev-eq0 t c =
    let x = c.args in
    let w = x.self.now in
    let far : last_multiplier_at w x.i < x.m = ltb-true _ _ (sym c.if-past_last.ensures) in
    ended w (past_last w x.i x.m (at_prev c.requires).multiplier_from far ∙ at_first w x.i (x.i - 1) (from_prev c.requires) c.if-prev-eq0.true)

pub try_multiplier-try_multiplier-requires : goal.try_multiplier-try_multiplier-requires
try_multiplier-try_multiplier-requires t c =
    let x = c.args in
    let prev = x.i - 1 in
    let w = x.self.now in
    let back = back_tries w x.i prev c.requires.opens (from_prev c.requires) c.if-prev-eq0.false in
    let b = c.requires.opens.each (prev - 1) (omega (arith, from_prev c.requires, c.requires.opens.from)) in
    let less = falls_back w.places x.i x.m prev (place_at w (prev - 1)).multiplier (from_prev c.requires) c.requires.m_to (omega (arith, (at_prev c.requires).multiplier_to)) b.multiplier_from in
    (omega (arith, c.decreases, less), back)

pub try_multiplier-returns-then-past_last : goal.try_multiplier-returns-then-past_last
try_multiplier-returns-then-past_last t c =
    let x = c.args in
    let w = x.self.now in
    let far : last_multiplier_at w x.i < x.m = ltb-true _ _ (sym c.if-past_last.ensures) in
    let past = past_last w x.i x.m (at_prev c.requires).multiplier_from far in
    went_on (past ∙ go_back w x.i (x.i - 1) (from_prev c.requires) c.if-prev-eq0.false) c.try_multiplier.ensures

pub try_multiplier-try_multiplier-requires-then-lt : goal.try_multiplier-try_multiplier-requires-then-lt
try_multiplier-try_multiplier-requires-then-lt t c =
    let x = c.args in
    let w = x.self.now in
    let last : x.m ≤ last_multiplier_at w x.i = ltb-false _ _ (sym c.if-past_last.ensures) in
    let less = falls_next w.places x.i x.m _ (at_prev c.requires).multiplier_from c.requires.m_to in
    (omega (arith, c.decreases, less), next_tries w x.i x.m c.requires last)

pub try_multiplier-returns-then-lt : goal.try_multiplier-returns-then-lt
try_multiplier-returns-then-lt t c =
    let x = c.args in
    let w = x.self.now in
    let last : x.m ≤ last_multiplier_at w x.i = ltb-false _ _ (sym c.if-past_last.ensures) in
    let none : c.narrow-range.result.greatest.0 < c.narrow-range.result.least.0 = less c.if-lt.ensures in
    let empty : greatest_at w x.i x.m < least_at w x.i x.m = omega arith in
    went_on (none_under w x.i x.m (at_prev c.requires).multiplier_from last empty) c.try_multiplier-then-lt.ensures

pub try_multiplier-open_job-requires : goal.try_multiplier-open_job-requires
try_multiplier-open_job-requires t c =
    let x = c.args in
    let w = x.self.now in
    let r = c.narrow-range in
    let last : x.m ≤ last_multiplier_at w x.i = ltb-false _ _ (sym c.if-past_last.ensures) in
    let some : r.result.least.0 ≤ r.result.greatest.0 = not_less c.if-lt.ensures in
    let less = falls_open w.places x.i (record { multiplier = x.m; range = r.result }) (omega (arith, c.requires, w.bounded.to)) (omega (arith, c.requires, w.bounded.to, w.sized)) c.requires.m_to in
    (omega (arith, c.decreases, less), push_opens w x.i _ _ _ _ (omega (arith, c.requires)) c.requires last r.ensures.least r.ensures.greatest some)

pub try_multiplier-returns : goal.try_multiplier-returns
try_multiplier-returns t c =
    let x = c.args in
    let w = x.self.now in
    let r = c.narrow-range in
    let last : x.m ≤ last_multiplier_at w x.i = ltb-false _ _ (sym c.if-past_last.ensures) in
    let some : r.result.least.0 ≤ r.result.greatest.0 = not_less c.if-lt.ensures in
    went_on (pushed w x.i _ _ _ _ (omega (arith, c.requires)) c.requires.opens c.requires.inside r.ensures.least r.ensures.greatest last some) c.open_job.ensures
