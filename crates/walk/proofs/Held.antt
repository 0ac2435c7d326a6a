-- What stands for the jobs is what the definitions compute from them, and it fits the machine's numbers.
-- Assumes nothing.
use mathlib.Core.Path.{◌≡◌, refl, subst}
use mathlib.Core.List.{List, [], ◌∷◌, Memᴰ}
use Prim.Native.Nat.{ℕ, zero, suc, ◌+◌, ◌≤◌, ◌<◌, max}
use native.Mathlib.Omega.{arith}
use native.Mathlib.Decide.{ℕ_discrete}
use lib.ListN.{length, drop}
use Rattle.model.specs.declared.Seconds.{Seconds}
use Rattle.model.specs.declared.Job.{Job}
use Rattle.model.specs.Model.{job_loss}
use Rattle.model.specs.Valid.{ValidJobs}
use Rattle.walk.specs.declared.Numbers.{Numbers}
use Rattle.walk.specs.Numbers.{numbers_at, HoldsJob, Held}
use Rattle.walk.specs.Steps.{loss_held, LossHeldFits}
use Rattle.step.proofs.Fits.{numbers_fit, loss_by_numbers}

-- The job at place i, with the jobs after it.
pub record Opened (m : Numbers) (i greatest : ℕ) (js : List Job) : Type 0 where
  pub job : Job
  pub rest : List Job
  pub is : js ≡ job ∷ rest
  pub holds : HoldsJob m i greatest job rest
  pub later : Held m (i + 1) (max greatest job.metadata) rest

-- The job at some later place.
pub record JobAt (m : Numbers) (k : ℕ) (js : List Job) : Type 0 where
  pub greatest : ℕ
  pub job : Job
  pub rest : List Job
  pub member : Memᴰ job js
  pub holds : HoldsJob m k greatest job rest

module _ {m : Numbers} where
  pub held_next : {i greatest : ℕ} (j : Job) (js : List Job) → Held m i greatest (j ∷ js) → Held m (i + 1) (max greatest j.metadata) js
  held_next j js h =
      let c = h.count in
      record { count = omega arith; most = h.most; jobs = h.jobs.1 }

  pub held_open : {i greatest : ℕ} (js : List Job) → i < m.n → Held m i greatest js → Opened m i greatest js
  held_open [] less h = let c = h.count in absurd (omega arith)
  held_open (j ∷ js) less h = record { job = j; rest = js; is = refl; holds = h.jobs.0; later = held_next j js h }

  pub held_none : {greatest : ℕ} (js : List Job) → Held m m.n greatest js → js ≡ []
  held_none [] h = refl
  held_none (j ∷ js) h = let c = h.count in absurd (omega arith)

  pub held_valid : {i greatest : ℕ} (js : List Job) → Held m i greatest js → ValidJobs js
  held_valid [] h = tt
  held_valid {i = i} (j ∷ js) h = (h.jobs.0.valid, held_valid {i = i + 1} js (held_next j js h))

  pub held_at : {i greatest : ℕ} (k : ℕ) (js : List Job) → i ≤ k → k < m.n → Held m i greatest js → JobAt m k js
  held_at k [] from to h = let c = h.count in absurd (omega arith)
  held_at {i} {greatest = g} k (j ∷ js) from to h = go (ℕ_discrete i k) (λ f. held_at {i = i + 1} k js f to (held_next j js h))
    where
      go : Dec (i ≡ k) → (i + 1 ≤ k → JobAt m k js) → JobAt m k (j ∷ js)
      go (yes e) ih = record { greatest = g; job = j; rest = js; member = Memᴰ.head refl; holds = subst (λ (x : ℕ). HoldsJob m x g j js) e h.jobs.0 }
      go (no d) ih = let r = ih (omega arith) in record { greatest = r.greatest; job = r.job; rest = r.rest; member = Memᴰ.tail r.member; holds = r.holds }

  -- the jobs from a later place on
  pub held_from : {i greatest : ℕ} (k : ℕ) (js : List Job) → k ≤ length js → Held m i greatest js → (later : ℕ) × Held m (i + k) later (drop k js)
  held_from {i} {greatest = g} zero js to h = (g, let on : i ≡ i + 0 = omega arith in subst (λ (x : ℕ). Held m x g js) on h)
  held_from (suc k) [] to h = absurd (omega arith)
  held_from {i} (suc k) (j ∷ js) to h =
      let r = held_from {i = i + 1} k js (omega arith) (held_next j js h) in
      let on : i + 1 + k ≡ i + suc k = omega arith in
      (r.0, subst (λ (x : ℕ). Held m x r.0 (drop k js)) on r.1)

  module _ {i greatest : ℕ} {j : Job} {js : List Job} (h : HoldsJob m i greatest j js) (t : Seconds) (on : j.lo.0 ≤ t.0) where
    pub job_loss_fits : LossHeldFits (numbers_at m i) t
    job_loss_fits = rw (h.stiff, h.fastest, h.for_loss) (numbers_fit j t h.valid on)

    pub job_loss_is : loss_held (numbers_at m i) t ≡ job_loss j t
    job_loss_is = rw (h.stiff, h.fastest, h.for_loss) (loss_by_numbers j t)
