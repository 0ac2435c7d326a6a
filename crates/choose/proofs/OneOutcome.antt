-- Two best lists are no worse than one another, so they agree in loss, need and every period; each other case leaves one answer.
-- Assumes nothing.
use mathlib.Core.Path.{◌≡◌, refl, sym, ap, ap₂}
use mathlib.Core.List.{List, [], ◌∷◌}
use Prim.Native.Nat.{ℕ}
use native.Mathlib.Omega.{arith}
use Rattle.std.specs.Prelude.{Result, Ok, Err}
use Rattle.model.specs.declared.Seconds.{Seconds}
use Rattle.model.specs.declared.PagesPerHour.{PagesPerHour}
use Rattle.model.specs.declared.Job.{Job}
use Rattle.model.specs.declared.Profile.{Profile}
use Rattle.model.specs.declared.Refusal.{Refusal}
use Rattle.model.specs.declared.Refusal.TheVariants.{Budget}
use Rattle.model.specs.Model.{seconds, pages_per_hour, need, loss, NotAfter, NoWorse, Best}
use Rattle.model.proofs.ProfileFirst.{one_first}
use Rattle.choose.specs.declared.Choice.{Choice}
use Rattle.choose.specs.Choice.{answered, LeastBudget, Outcome, given, none_permitted, none_fit, Chosen}
use Rattle.choose.proofs.choose.Reads as choose-contract

-- two lists of which neither comes after the other are one list
pub not_after_both : (ts us : List Seconds) → NotAfter ts us → NotAfter us ts → ts ≡ us
not_after_both [] [] h k = refl
not_after_both [] (u ∷ us) h k = absurd k
not_after_both (t ∷ ts) [] h k = absurd h
not_after_both (t ∷ ts) (u ∷ us) h k =
    let e : t.0 ≡ u.0 = omega arith in
    ap₂ (λ (a : ℕ) (rest : List Seconds). seconds a ∷ rest) e (not_after_both ts us (h.1 e) (k.1 (sym e)))

pub no_worse_both : {js : List Job} {ts us : List Seconds} → NoWorse js ts us → NoWorse js us ts → ts ≡ us
no_worse_both {js} {ts} {us} h k =
    let l : loss js ts ≡ loss js us = omega arith in
    let here = h.need_next l in
    let there = k.need_next (sym l) in
    let n : (need js ts).0 ≡ (need js us).0 = omega arith in
    not_after_both ts us (h.list_last l n) (k.list_last (sym l) (sym n))

pub one_best : {js : List Job} {b : PagesPerHour} {ts us : List Seconds} → Best js b ts → Best js b us → ts ≡ us
one_best h k = no_worse_both (h.first _ k.permitted k.fits) (k.first _ h.permitted h.fits)

pub one_least_budget : {js : List Job} {m k : PagesPerHour} → LeastBudget js m → LeastBudget js k → m ≡ k
one_least_budget {js} {m} {k} one other =
    let a = one.fewest k other.enough.0 other.enough.1 other.enough.2 in
    let b = other.fewest m one.enough.0 one.enough.1 one.enough.2 in
    let e : m.0 ≡ k.0 = omega arith in
    ap pages_per_hour e

pub one_outcome : {js : List Job} {b : PagesPerHour} {r s : Result Choice Refusal} → Outcome js b r → Outcome js b s → r ≡ s
one_outcome {js} (given x) (given y) = ap (λ (ts : List Seconds). Ok (answered js ts)) (one_best x y)
one_outcome (given x) (none_permitted no-list) = absurd (no-list _ x.permitted)
one_outcome (given x) (none_fit l unfit) = absurd (unfit _ x.permitted x.fits)
one_outcome (none_permitted no-list) (given y) = absurd (no-list _ y.permitted)
one_outcome (none_permitted no-list) (none_permitted no-list') = refl
one_outcome (none_permitted no-list) (none_fit l unfit) = absurd (no-list _ l.enough.1)
one_outcome (none_fit l unfit) (given y) = absurd (unfit _ y.permitted y.fits)
one_outcome (none_fit l unfit) (none_permitted no-list) = absurd (no-list _ l.enough.1)
one_outcome (none_fit l unfit) (none_fit l' unfit') = ap (λ (m : PagesPerHour). Err (Budget m)) (one_least_budget l l')

pub chosen_one : (p : Profile) (b : PagesPerHour) {r s : Result Choice Refusal} → Chosen p b r → Chosen p b s → r ≡ s
chosen_one p b one other = one_first one_outcome one other

-- Any two outcomes that a function's own contract allows for the same arguments are equal: `Post` is what the checker makes of its
-- clauses, so a contract that says less breaks this.

pub choose_one_outcome : (κs : _) (a : _) (r s : Result Choice Refusal) (e e' : _) → choose-contract.Post κs a r e → choose-contract.Post κs a s e' → r ≡ s
choose_one_outcome κs a r s e e' one other = chosen_one _ _ one other
