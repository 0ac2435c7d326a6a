-- Of the lists that need less than a row, none loses less than the row after it: so each row is the best below the need of the row before it.
-- Assumes nothing.
use mathlib.Core.Path.{◌≡◌, refl, ◌∙◌, ap, subst}
use mathlib.Core.Logic.{⊎_elim}
use mathlib.Core.List.{List, [], ◌∷◌, Memᴰ}
use Prim.Native.Nat.{ℕ, suc, ◌-◌, ◌*◌, ◌≤◌, ◌<◌}
use native.Mathlib.Omega.{arith}
use native.Mathlib.Decide.{dec_lt}
use lib.ListN.{length}
use Rattle.model.specs.declared.Seconds.{Seconds}
use Rattle.model.specs.declared.PagesPerHour.{PagesPerHour}
use Rattle.model.specs.declared.Job.{Job}
use Rattle.model.specs.Model.{pages_per_hour, Permitted, need, loss, NotAfter, NoWorse}
use Rattle.model.specs.Valid.{ValidJobs}
use Rattle.model.specs.Most.{most_loss}
use Rattle.model.proofs.Bounds.{job_loss_bound}
use Rattle.walk.specs.Walk.{start, walk}
use Rattle.table_stairs.specs.Stairs.{Stair, Stairs, no_bound, no_stairs, enter}
use Rattle.table_climb.specs.Next.{Answer, NextAnswers, AnswersUnder}
use Rattle.table_stairs.specs.Ordered.{Staircase}
use Rattle.table_climb.specs.Collected.{Plan, Served, Collected}
use Rattle.table_climb.proofs.Fold.{still_served, walk_collects}

less_loss : {js : List Job} (ts us : List Seconds) → loss js ts < loss js us → NoWorse js ts us
less_loss ts us h = record { loss_first = omega arith; need_next = λ e. absurd (omega arith); list_last = λ e d. absurd (omega arith) }

-- The end of a staircase, from the first row that needs less than `limit` on.
record End (js : List Job) (b bound limit : ℕ) (rows : List Stair) : Type 0 where
  order : Staircase rows
  plans : (r : Stair) → Memᴰ r rows → Plan js b r
  bounded : (r : Stair) → Memᴰ r rows → r.its_loss < bound
  limited : (r : Stair) → Memᴰ r rows → r.its_need < limit
  serves : (us : List Seconds) → Permitted js us → (need js us).0 < limit → loss js us < bound → Served js rows us

module _ (js : List Job) (b bound limit : ℕ) (r : Stair) (rows : List Stair) (end : End js b bound limit (r ∷ rows)) where
  here : Memᴰ r (r ∷ rows)
  here = mathlib.Core.List.Memᴰ.head refl

  its_loss_is : r.its_loss ≡ loss js r.periods
  its_loss_is = (end.plans r here).loss_is

  served_by_first : (us : List Seconds) (a : Served js (r ∷ rows) us) → a.by.row ≡ r → NoWorse js r.periods us
  served_by_first us a e =
      let n : a.by.row.its_need ≡ (need js r.periods).0 = ap (λ (s : Stair). s.its_need) e ∙ (end.plans r here).need_is in
      let l : a.by.row.its_loss ≡ loss js r.periods = ap (λ (s : Stair). s.its_loss) e ∙ its_loss_is in
      record {
        loss_first = omega (arith, a.by.loses);
        need_next = λ d. omega (arith, a.by.needs);
        list_last = λ d k. subst (λ (s : Stair). NotAfter s.periods us) e (a.first (n ∙ k) (l ∙ d));
      }

  -- what a later row serves, and what reaches the bound, loses more
  no_worse : (us : List Seconds) → Permitted js us → (need js us).0 < limit → Dec (loss js us < bound) → NoWorse js r.periods us
  no_worse us h low (no high) = less_loss r.periods us (omega (arith, end.bounded r here, its_loss_is))
  no_worse us h low (yes less) =
      let a = end.serves us h low less in
      let later : Memᴰ a.by.row rows → NoWorse js r.periods us = λ m. less_loss r.periods us (omega (arith, (end.order.0 a.by.row m).loses, a.by.loses, its_loss_is)) in
      ⊎_elim (served_by_first us a) later (mathlib.Core.List.Memᴰ.cases_cons a.by.stands)

  answer : Answer js limit r
  answer =
      let p = end.plans r here in
      let low = end.limited r here in
      record {
        budget = pages_per_hour (limit - 1);
        greatest = omega arith;
        best = record { permitted = p.permitted; fits = omega arith; first = λ us h fits. no_worse us h (omega arith) (dec_lt (loss js us) bound) };
        need_is = p.need_is;
        loss_is = p.loss_is;
      }

  after : End js b bound r.its_need rows
  after = record {
    order = end.order.1;
    plans = λ s m. end.plans s (mathlib.Core.List.Memᴰ.tail m);
    bounded = λ s m. end.bounded s (mathlib.Core.List.Memᴰ.tail m);
    limited = λ s m. (end.order.0 s m).needs;
    serves = serves;
  }
    where
      -- not by the first row, which needs too much
      serves : (us : List Seconds) → Permitted js us → (need js us).0 < r.its_need → loss js us < bound → Served js rows us
      serves us h low less =
          let a = end.serves us h (omega (arith, end.limited r here)) less in
          let too_much : a.by.row ≡ r → ⊥ = λ e. omega (arith, ap (λ (s : Stair). s.its_need) e, a.by.needs) in
          still_served rows a (⊎_elim (λ e. absurd (too_much e)) (λ m. m) (mathlib.Core.List.Memᴰ.cases_cons a.by.stands))

answers : (js : List Job) (b bound limit : ℕ) (rows : List Stair) → End js b bound limit rows → NextAnswers js limit rows
answers js b bound limit [] end = tt
answers js b bound limit (r ∷ rows) end = (answer js b bound limit r rows end, answers js b bound r.its_need rows (after js b bound limit r rows end))

loss_bound : (js : List Job) (ts : List Seconds) → ValidJobs js → loss js ts ≤ most_loss * length js
unfolding loss
loss_bound [] ts v = omega arith
loss_bound (j ∷ js) [] v = omega arith
loss_bound (j ∷ js) (t ∷ ts) v = omega (arith, job_loss_bound j t v.0, loss_bound js ts v.1)

-- no loss of eight jobs reaches the bound that is none
loss_small : (js : List Job) (ts : List Seconds) → ValidJobs js → length js ≤ 8 → loss js ts < no_bound
loss_small js ts v few = omega (arith, loss_bound js ts v)

no_row : (rows : List Stair) {r : Stair} → length rows ≡ 0 → Memᴰ r rows → ⊥
no_row [] e m = mathlib.Core.List.Memᴰ.not-nil m
no_row (x ∷ rows) e m = omega arith

collected : (js : List Job) (b : PagesPerHour) (s : Stairs) → ValidJobs js → length js ≤ 8 → Collected js b.0 s → AnswersUnder js b s.rows
collected js b s v few c = record {
  next = answers js b.0 s.bound (suc b.0) s.rows (record {
    order = c.law.ordered.order;
    plans = c.law.plans;
    bounded = c.law.ordered.bounded;
    limited = λ r m. omega (arith, (c.law.plans r m).fits);
    serves = λ us h low. c.serves us h (omega arith);
  });
  none = λ e us h fits. no_row s.rows e (c.serves us h fits (omega (arith, c.law.unbound e, loss_small js us v few))).by.stands;
}

-- The rows of the walk are the next answers.
pub walk_stairs : (js : List Job) (most : ℕ) (b : PagesPerHour) → ValidJobs js → length js ≤ 8 → 1 ≤ most → AnswersUnder js b (walk (enter most b.0) js start no_stairs).rows
walk_stairs js most b v few pos = collected js b (walk (enter most b.0) js start no_stairs) v few (walk_collects js most b.0 v pos)
