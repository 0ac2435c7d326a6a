-- A job runs at most once a second, so with one job more the pages and the loss stay within bounds.
-- Assumes nothing.
use mathlib.Core.Path.{◌≡◌, ap}
use Prim.Native.Nat.{ℕ, ◌+◌, ◌*◌, ◌/◌, ◌≤◌}
use native.Mathlib.Omega.{arith}
use native.Mathlib.Nat.{le_refl, le_trans, mul-le-mul_right}
use Rattle.model.specs.declared.Seconds.{Seconds}
use Rattle.model.specs.declared.Job.{Job}
use Rattle.model.specs.Model.{seconds, Allowed, job_loss}
use Rattle.model.specs.Most.{most_pages, most_rate}
use Rattle.model.specs.Valid.{ValidJob}
use Rattle.model.proofs.Bounds.{job_loss_bound, need_bound as cycle-need-bound}
use Rattle.model.proofs.Rounding.{multiple_is}
use Rattle.step.specs.Step.{load, carried, need_at, NeedFits, Bounded}
use Rattle.step.proofs.Fits.{need_at_is}

pub load_bound : (greatest : ℕ) (j : Job) → ValidJob j → load greatest j ≤ most_pages
unfolding load
load_bound greatest j v = omega arith

pub start_bounded : Bounded 0 (seconds 1) 0 0
start_bounded = record { pages_to = le_refl 0; lost_to = le_refl 0 }

module _ {i : ℕ} {before : Seconds} {written lost : ℕ} (h : Bounded i before written lost) where
  pub next_bounded : (greatest : ℕ) (j : Job) (t : Seconds) → ValidJob j → Allowed j before t → Bounded (i + 1) t (carried written before t (load greatest j)) (lost + job_loss j t)
  next_bounded greatest j t v a =
      let k = t.0 / before.0 in
      let is : t.0 ≡ k * before.0 = multiple_is t.0 before.0 a.multiple in
      let on : written * k ≤ most_pages * i * before.0 * k = mul-le-mul_right k h.pages_to in
      let same : most_pages * i * t.0 ≡ most_pages * i * (k * before.0) = ap (λ (x : ℕ). most_pages * i * x) is in
      let pos : 1 ≤ t.0 = omega arith in
      let own = load_bound greatest j v in
      let here = job_loss_bound j t v in
      record { pages_to = omega arith; lost_to = omega arith }

  -- for eight jobs 1,887,379,200
  pub need_bound : 1 ≤ before.0 → need_at written before ≤ most_rate * i
  need_bound pos = rw (need_at_is written before pos) (cycle-need-bound written before.0 i pos (let p = h.pages_to in omega arith))

  -- the pages of eight jobs are few enough to be carried on
  pub bounded_fits : i ≤ 8 → 1 ≤ before.0 → before.0 ≤ 3600 → NeedFits written before
  bounded_fits few from to =
      let k : most_pages * i ≤ 8 * most_pages = omega arith in
      record { from = from; to = to; written_to = le_trans h.pages_to (mul-le-mul_right before.0 k) }
