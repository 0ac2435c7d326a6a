-- One turn of the loop that sums a loss floor: the job at hand adds what it loses.
-- Assumes nothing.
use mathlib.Core.Path.{◌≡◌, sym, ◌∙◌, ap, subst}
use mathlib.Core.List.{List, [], ◌∷◌}
use Prim.Native.Nat.{ℕ, ◌+◌, ◌*◌, ◌≤◌, ◌<◌, max, zero-le}
use native.Mathlib.Omega.{arith}
use native.Mathlib.Numerals.{add-one}
use lib.ListN.{length, get_or, drop}
use lib.Seq.{drop-cons}
use Rattle.model.specs.declared.Seconds.{Seconds}
use Rattle.model.specs.declared.Job.{Job}
use Rattle.model.specs.Most.{most_loss}
use Rattle.model.proofs.Bounds.{job_loss_bound}
use Rattle.model.specs.Model.{seconds, no_job, job_loss}
use Rattle.walk.specs.declared.JobNumbers.{JobNumbers}
use Rattle.walk.specs.declared.Numbers.{Numbers}
use Rattle.walk.specs.Walk.{loss_floor}
use Rattle.walk.specs.Numbers.{numbers_at, HoldsJob, Held}
use Rattle.walk.specs.Steps.{loss_held, LossHeldFits, Later}
use Rattle.walk.proofs.Held.{held_from, job_loss_fits, job_loss_is}
use Rattle.std.proofs.lemmas.List.{drop_all}

-- The sum is the floor of k jobs from place i on: with that of the jobs after them it is the floor of all.
pub record FloorTo (m : Numbers) (i : ℕ) (t : Seconds) (floor k : ℕ) : Type 0 where
  pub small : floor ≤ most_loss * k
  pub is : (greatest : ℕ) (js : List Job) → Held m i greatest js → floor + loss_floor (drop k js) t.0 ≡ loss_floor js t.0

-- before the first turn
pub none_summed : {m : Numbers} {i : ℕ} {t : Seconds} → FloorTo m i t 0 0
none_summed {t = t} = record { small = zero-le; is = λ greatest js h. omega arith }

-- The job at the place that comes next.
record Coming (m : Numbers) (i k : ℕ) (js : List Job) : Type 0 where
  greatest : ℕ
  job : Job
  is : drop k js ≡ job ∷ drop (k + 1) js
  holds : HoldsJob m (i + k) greatest job (drop (k + 1) js)

module _ {m : Numbers} {i : ℕ} where
  coming : {greatest : ℕ} (k : ℕ) (js : List Job) → i + k < m.n → Held m i greatest js → Coming m i k js
  coming k js less h =
      let few : k < length js = omega (arith, h.count) in
      let later = held_from k js (omega arith) h in
      let opens : drop k js ≡ get_or js k no_job ∷ drop (k + 1) js = drop-cons js k no_job few ∙ ap (λ (x : ℕ). get_or js k no_job ∷ drop x js) (sym (add-one k)) in
      record { greatest = later.0; job = get_or js k no_job; is = opens; holds = (subst (Held m (i + k) later.0) opens later.1).jobs.0 }

  -- past the last job
  pub all_summed : {t : Seconds} {floor k : ℕ} → FloorTo m i t floor k → m.n ≤ i + k → {greatest : ℕ} (js : List Job) → Held m i greatest js → floor ≡ loss_floor js t.0
  unfolding loss_floor
  all_summed {t} {floor} {k} f past {greatest = g} js h =
      let none : drop k js ≡ [] = drop_all k js (omega (arith, h.count)) in
      let whole = f.is g js h in
      omega (arith, ap (λ (ks : List Job). loss_floor ks t.0) none)

  module _ {t : Seconds} (l : Later m i t) {floor k : ℕ} (f : FloorTo m i t floor k) (less : i + k < m.n) {x : JobNumbers} (here : x ≡ numbers_at m (i + k)) {u : Seconds} (longer : u.0 ≡ max x.lo.0 t.0) where
    is_longer : {greatest : ℕ} {j : Job} {js : List Job} → HoldsJob m (i + k) greatest j js → u.0 ≡ max j.lo.0 t.0
    is_longer h = longer ∙ ap (λ (y : JobNumbers). max y.lo.0 t.0) here ∙ ap (λ (y : ℕ). max y t.0) h.shortest

    loses : {greatest : ℕ} {j : Job} {js : List Job} → HoldsJob m (i + k) greatest j js → loss_held x u ≡ job_loss j u
    loses h = rw here (job_loss_is h u (omega (arith, is_longer h)))

    pub floor_fits : LossHeldFits x u
    floor_fits = let c = coming k l.js less l.held in rw here (job_loss_fits c.holds u (omega (arith, is_longer c.holds)))

    small : floor + loss_held x u ≤ most_loss * (k + 1)
    small =
        let c = coming k l.js less l.held in
        omega (arith, f.small, loses c.holds, job_loss_bound c.job u c.holds.valid)

    pub sum_fits : floor + loss_held x u ≤ most_loss * 8
    sum_fits = omega (arith, small, l.held.most)

    pub one_summed : FloorTo m i t (floor + loss_held x u) (k + 1)
    unfolding loss_floor
    one_summed = record { small = small; is = more }
      where
        more : (greatest : ℕ) (js : List Job) → Held m i greatest js → floor + loss_held x u + loss_floor (drop (k + 1) js) t.0 ≡ loss_floor js t.0
        more g js h =
            let c = coming k js less h in
            let own : loss_held x u ≡ job_loss c.job (seconds (max c.job.lo.0 t.0)) = loses c.holds ∙ ap (λ (y : ℕ). job_loss c.job (seconds y)) (is_longer c.holds) in
            let opened : loss_floor (drop k js) t.0 ≡ job_loss c.job (seconds (max c.job.lo.0 t.0)) + loss_floor (drop (k + 1) js) t.0 = ap (λ (ks : List Job). loss_floor ks t.0) c.is in
            let whole = f.is g js h in
            omega arith
