-- The numbers of a profile, made from the last job back, are those of its jobs.
-- Assumes nothing.
use mathlib.Core.Path.{◌≡◌, refl, sym, ◌∙◌, ap, ap₂}
use mathlib.Core.List.{List}
use Prim.Native.Nat.{ℕ, zero, suc, ◌+◌, ◌*◌, ◌-◌, ◌/◌, ◌≤◌, ◌<◌, zero-le}
use native.Mathlib.Omega.{arith}
use native.Mathlib.Decide.{ℕ_discrete}
use lib.ListN.{length, get_or, set}
use lib.Seq.{get_or-set_same, get_or-set_other}
use Rattle.model.specs.declared.PagesPerHour.{PagesPerHour}
use Rattle.model.specs.declared.Profile.{Profile}
use Rattle.model.specs.Model.{pages_per_hour, no_job, entries, jobs_of, cost, rate}
use Rattle.model.specs.Most.{most_need}
use Rattle.model.specs.Valid.{ValidJobs, Valid}
use Rattle.model.proofs.Entries.{entries_step, entries_end, length_entries}
use Rattle.model.proofs.Validity.{job_valid_at}
use Rattle.step.specs.Step.{greatest_before, load_at, hourly}
use Rattle.step.proofs.Along.{greatest_next}
use Rattle.walk.specs.declared.JobNumbers.{JobNumbers}
use Rattle.walk.specs.declared.Numbers.{Numbers}
use Rattle.walk.specs.Walk.{least_needs}
use Rattle.walk.specs.Numbers.{job_at, needs_from, numbers_of, no_numbers, NumbersFrom, HoldsJob, HoldsJobs, Held}
use Rattle.walk.proofs.Bounds.{least_needs_bound}

-- the jobs past the last one need nothing
pub none_needed : (p : Profile) → needs_from p p.n ≡ 0
unfolding least_needs
none_needed p = ap (least_needs (greatest_before p p.n)) (entries_end no_job p.jobs p.n p.n (omega arith))

-- from the place k back to the one before
module _ (p : Profile) (k : ℕ) (pos : 0 < k) (to : k ≤ p.n) where
  again : k - 1 + 1 ≡ k
  again = omega arith

  -- what the jobs from there on need
  needs_step : needs_from p (k - 1) ≡ 3600 * load_at p (k - 1) / (job_at p (k - 1)).hi.0 + needs_from p k
  unfolding least_needs
  needs_step =
      let here = 3600 * load_at p (k - 1) / (job_at p (k - 1)).hi.0 in
      ap (least_needs (greatest_before p (k - 1))) (entries_step no_job p.jobs (k - 1) p.n (omega arith))
      ∙ ap (λ (g : ℕ). here + least_needs g (entries no_job p.jobs (k - 1 + 1) (p.n - (k - 1 + 1)))) (sym (greatest_next p (k - 1)))
      ∙ ap (λ (x : ℕ). here + needs_from p x) again

  module _ {own needs : ℕ} (its_load : own ≡ load_at p (k - 1)) (had : needs ≡ needs_from p k) where
    pub one_needed : {slow : PagesPerHour} → slow ≡ hourly own (job_at p (k - 1)).hi → slow.0 + needs ≡ needs_from p (k - 1)
    one_needed is = ap₂ (λ (a : PagesPerHour) (b : ℕ). a.0 + b) (is ∙ ap (λ (x : ℕ). hourly x (job_at p (k - 1)).hi) its_load) had ∙ sym needs_step

    -- the numbers of the job there
    module _ {pages : ℕ} {fast : PagesPerHour} (its_cost : pages ≡ cost (job_at p (k - 1))) (its_rate : fast ≡ rate (job_at p (k - 1)) (job_at p (k - 1)).lo) where
      abbrev new : JobNumbers
      new = let j = job_at p (k - 1) in record { lo = j.lo; hi = j.hi; load = own; cost = pages; fastest = fast; later = pages_per_hour needs; stiffness = j.stiffness }

      new_is : new ≡ numbers_of p (k - 1)
      new_is = let its_needs : needs ≡ needs_from p (k - 1 + 1) = rw again had in rw (its_load, its_cost, its_rate, its_needs) refl

      pub one_more : {n : ℕ} {jobs : List JobNumbers} → n ≤ length jobs → NumbersFrom p k (record { n = n; jobs = jobs }) → NumbersFrom p (k - 1) (record { n = n; jobs = set jobs (k - 1) new })
      one_more {n} {jobs} room h = record { count = h.count; are = filled }
        where
          place : k - 1 < length jobs
          place = omega (arith, h.count)

          filled : (i : ℕ) → k - 1 ≤ i → i < p.n → get_or (set jobs (k - 1) new) i no_numbers ≡ numbers_of p i
          filled i from less = go (ℕ_discrete i (k - 1))
            where
              go : Dec (i ≡ k - 1) → get_or (set jobs (k - 1) new) i no_numbers ≡ numbers_of p i
              go (yes e) = rw e (get_or-set_same jobs (k - 1) new no_numbers place ∙ new_is)
              go (no d) = get_or-set_other jobs (k - 1) i new no_numbers d ∙ h.are i (omega arith) less

module _ {p : Profile} (v : Valid p) where
  valid_later : (m k : ℕ) → k + m ≡ p.n → ValidJobs (entries no_job p.jobs k m)
  unfolding entries
  valid_later zero k e = tt
  valid_later (suc m) k e = (job_valid_at p k v (omega arith), valid_later m (k + 1) (omega arith))

  pub needs_to : (k : ℕ) → k ≤ p.n → needs_from p k ≤ most_need
  needs_to k to =
      let b = least_needs_bound (greatest_before p k) (entries no_job p.jobs k (p.n - k)) (valid_later (p.n - k) k (omega arith)) in
      let l = length_entries no_job p.jobs k (p.n - k) in
      let n≤ = v.n_to in
      omega arith

  -- the numbers so made hold the jobs
  module _ {m : Numbers} (h : NumbersFrom p 0 m) where
    holds_from : (k i : ℕ) → i + k ≡ p.n → HoldsJobs m i (greatest_before p i) (entries no_job p.jobs i k)
    unfolding entries
    holds_from zero i e = tt
    holds_from (suc k) i e = (here, rw (← greatest_next p i) (holds_from k (i + 1) (omega arith)))
      where
        rest : p.n - (i + 1) ≡ k
        rest = omega arith

        here : HoldsJob m i (greatest_before p i) (job_at p i) (entries no_job p.jobs (i + 1) k)
        here =
            let less : i < p.n = omega arith in
            let is = h.are i zero-le less in
            record {
              valid = job_valid_at p i v less;
              shortest = ap (λ (x : JobNumbers). x.lo.0) is;
              longest = ap (λ (x : JobNumbers). x.hi.0) is;
              for_need = ap (λ (x : JobNumbers). x.load) is;
              for_loss = ap (λ (x : JobNumbers). x.cost) is;
              fastest = ap (λ (x : JobNumbers). x.fastest) is;
              later = ap (λ (x : JobNumbers). x.later.0) is ∙ ap₂ (λ (g x : ℕ). least_needs g (entries no_job p.jobs (i + 1) x)) (greatest_next p i) rest;
              stiff = ap (λ (x : JobNumbers). x.stiffness) is;
            }

    pub all_held : Held m 0 0 (jobs_of p)
    unfolding greatest_before
    all_held =
        let l = length_entries no_job p.jobs 0 p.n in
        record { count = omega (arith, h.count); most = omega (arith, h.count, v.n_to); jobs = holds_from p.n 0 (omega arith) }
