-- A need and a job's loss fit the machine's numbers, and a job's loss by its numbers is the job's loss.
-- Assumes nothing.
use mathlib.Core.Path.{◌≡◌, refl, sym, ◌∙◌, ap}
use mathlib.Core.Bool.{Bool, true, false, cond}
use Prim.Native.Nat.{ℕ, ◌+◌, ◌*◌, ◌-◌, ◌≤◌}
use native.Mathlib.Omega.{arith}
use native.Mathlib.Nat.{le_refl, mul-le-mul, div-le_of_le-mul}
use lib.Dec.{eqb}
use Rattle.model.specs.declared.Seconds.{Seconds}
use Rattle.model.specs.declared.PagesPerHour.{PagesPerHour}
use Rattle.model.specs.declared.ExactNeed.{ExactNeed}
use Rattle.model.specs.declared.Job.{Job}
use Rattle.model.specs.Model.{pages_per_hour, cost, per_hour, rounded_up, rate, job_loss}
use Rattle.model.specs.Rounding.{round_up}
use Rattle.model.specs.Most.{most_rate, most_need, most_loss}
use Rattle.model.specs.Valid.{ValidJob}
use Rattle.model.proofs.Bounds.{cost_bound, rate_bound, rate_falls, square}
use Rattle.model.proofs.Rounding.{round_up_le}
use Rattle.model.proofs.Exact.{rounded_up_is}
use Rattle.step.specs.Step.{hourly, loss_at, LossFits, need_at, NeedFits}

-- the loss of one job fits 64 bits
module _ {w : ℕ} {fastest : PagesPerHour} {pages : ℕ} {t : Seconds} (h : LossFits w fastest pages t) where
  pub square_fits : (fastest.0 - (hourly pages t).0) * (fastest.0 - (hourly pages t).0) ≤ most_rate * most_rate
  square_fits =
      let d : fastest.0 - (hourly pages t).0 ≤ most_rate = omega (arith, h.fastest_to) in
      mul-le-mul d d

  pub loss_fits : w * ((fastest.0 - (hourly pages t).0) * (fastest.0 - (hourly pages t).0)) ≤ most_loss
  loss_fits = mul-le-mul h.weight_to square_fits

pub loss_is : (w : ℕ) (fastest : PagesPerHour) (pages : ℕ) (t : Seconds) →
    w * ((fastest.0 - (hourly pages t).0) * (fastest.0 - (hourly pages t).0)) ≡ loss_at w fastest pages t
unfolding loss_at
loss_is w fastest pages t = ap (λ (x : ℕ). w * x) (sym (square (fastest.0 - (hourly pages t).0)))

pub loss_at_to : {w : ℕ} {fastest : PagesPerHour} {pages : ℕ} {t : Seconds} → LossFits w fastest pages t → loss_at w fastest pages t ≤ most_loss
loss_at_to {w} {fastest} {pages} {t} h = rw (← loss_is w fastest pages t) (loss_fits h)

module _ (written : ℕ) (t : Seconds) where
  -- a need by its pages is a fraction rounded up
  pub need_at_is : 1 ≤ t.0 → need_at written t ≡ round_up (3600 * written) t.0
  unfolding need_at
  need_at_is = rounded_up_is written t

  -- and the exact one, rounded up
  pub need_rounded : {q : ExactNeed} {r : PagesPerHour} → q ≡ per_hour written t → r ≡ rounded_up q → r ≡ pages_per_hour (need_at written t)
  unfolding need_at rounded_up
  need_rounded exact up = up ∙ ap rounded_up exact

-- whole pages are no more than the need
pub whole_under : (q : ExactNeed) {r : PagesPerHour} → r ≡ rounded_up q → q.whole.0 ≤ r.0
unfolding rounded_up
whole_under q up = rw up (go (eqb q.remainder.0 0))
  where
    go : (none : Bool) → q.whole.0 ≤ cond none q.whole.0 (q.whole.0 + 1)
    go true = le_refl _
    go false = omega arith

-- a need and its whole pages fit 32 bits
module _ {written : ℕ} {t : Seconds} (h : NeedFits written t) where
  pub need_to : need_at written t ≤ most_need
  need_to = rw (need_at_is written t h.from) ((round_up_le (3600 * written) most_need h.from).1 (omega arith))

  pub whole_to : (per_hour written t).whole.0 ≤ most_need
  whole_to = div-le_of_le-mul t.0 (omega arith)

  -- so it may be rounded up
  pub may_round : {q : ExactNeed} → q ≡ per_hour written t → q.whole.0 ≤ most_need
  may_round exact = rw exact whole_to

-- a job's own numbers
module _ (j : Job) (t : Seconds) where
  pub numbers_fit : ValidJob j → j.lo.0 ≤ t.0 → LossFits j.stiffness (rate j j.lo) (cost j) t
  unfolding rate
  numbers_fit v above =
      record {
        weight_to = v.stiffness_to;
        fastest_to = rate_bound j j.lo.0 v;
        pages_to = cost_bound j v;
        from = omega (arith, v.lo_from);
        slower = rate_falls j v.lo_from above;
      }

  pub loss_by_numbers : loss_at j.stiffness (rate j j.lo) (cost j) t ≡ job_loss j t
  unfolding rate job_loss loss_at
  loss_by_numbers = refl
