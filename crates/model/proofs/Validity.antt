-- A profile given as values is judged sound exactly when it is valid: each test that did not hold is a bound, and the other way round.
-- Assumes nothing.
use mathlib.Core.Path.{◌≡◌, refl, sym, ◌∙◌, subst}
use mathlib.Core.List.{List, [], ◌∷◌}
use Prim.Native.Nat.{ℕ, zero, suc, ◌+◌, ◌≤◌, ◌<◌}
use native.Mathlib.Nat.{zero-add, add-zero, not-suc-le-zero, le_of_suc-le-suc}
use lib.ListN.{get_or}
use lib.Dec.{eqb, ltb}
use native.Mathlib.Omega.{arith}
use borrow.Author.Tests.{eqb-false, ltb-false, le-ltb, ne_eqb}
use Rattle.std.specs.Prelude.{Ok}
use Rattle.model.specs.declared.Job.{Job}
use Rattle.model.specs.declared.Profile.{Profile}
use Rattle.model.specs.Model.{sound, no_job, entries, jobs_of, refuse_if, first_refused, judge_interval_and_stiffness, judge_job, verdict_of}
use Rattle.model.specs.Valid.{ValidJob, ValidJobs, Valid}
use Rattle.model.proofs.Verdicts.{test_passed, neither, both_sound, sound_passes}

-- what 5 and 6 leave
pub record InRange (j : Job) : Type 0 where
  pub lo_from : 1 ≤ j.lo.0
  pub lo_to : j.lo.0 ≤ j.hi.0
  pub hi_to : j.hi.0 ≤ 3600
  pub stiffness_from : 1 ≤ j.stiffness
  pub stiffness_to : j.stiffness ≤ 32

pub in_range : (j : Job) (k : ℕ) → judge_interval_and_stiffness j k ≡ sound → InRange j
unfolding judge_interval_and_stiffness
in_range j k e =
    let a = test_passed _ _ _ e in
    let f = neither (eqb j.stiffness 0) (test_passed _ _ _ a.1).0 in
    let b = neither (eqb j.lo.0 0) a.0 in
    let d = neither (ltb j.hi.0 j.lo.0) b.1 in
    let lo-pos : (j.lo.0 ≡ 0 → ⊥) = eqb-false _ _ b.0 in
    let lo≤hi : j.lo.0 ≤ j.hi.0 = ltb-false _ _ d.0 in
    let hi≤ : j.hi.0 ≤ 3600 = ltb-false _ _ d.1 in
    let w-pos : (j.stiffness ≡ 0 → ⊥) = eqb-false _ _ f.0 in
    let w≤ : j.stiffness ≤ 32 = ltb-false _ _ f.1 in
    omega arith

pub in_range_sound : (j : Job) (k : ℕ) → InRange j → judge_interval_and_stiffness j k ≡ sound
unfolding judge_interval_and_stiffness refuse_if
in_range_sound j k r =
    simp (ne_eqb j.lo.0 0 (omega arith), le-ltb j.hi.0 j.lo.0 r.lo_to, le-ltb 3600 j.hi.0 r.hi_to, ne_eqb j.stiffness 0 (omega arith), le-ltb 32 j.stiffness r.stiffness_to)

job_valid : (j : Job) (k : ℕ) → judge_job j k ≡ sound → ValidJob j
unfolding judge_job
job_valid j k e =
    let a = both_sound (judge_interval_and_stiffness j k) e in
    let r = in_range j k a.0 in
    let d = neither (ltb 32767 j.«data») (test_passed _ _ _ a.1).0 in
    let d≤ : j.«data» ≤ 32767 = ltb-false _ _ d.0 in
    let g≤ : j.metadata ≤ 32767 = ltb-false _ _ d.1 in
    omega arith

job_sound : (j : Job) (k : ℕ) → ValidJob j → judge_job j k ≡ sound
unfolding judge_job refuse_if
job_sound j k v =
    sound_passes {v = judge_interval_and_stiffness j k} _ refl (in_range_sound j k (omega arith)) ∙ simp (le-ltb 32767 j.«data» v.data_to, le-ltb 32767 j.metadata v.metadata_to)

jobs_valid : (js : List Job) (k : ℕ) → first_refused judge_job k js ≡ sound → ValidJobs js
unfolding first_refused
jobs_valid [] k e = tt
jobs_valid (j ∷ js) k e =
    let a = both_sound (judge_job j (k + 1)) e in
    (job_valid j (k + 1) a.0, jobs_valid js (k + 1) a.1)

jobs_sound : (js : List Job) (k : ℕ) → ValidJobs js → first_refused judge_job k js ≡ sound
unfolding first_refused
jobs_sound [] k v = refl
jobs_sound (j ∷ js) k v = sound_passes {v = judge_job j (k + 1)} _ refl (job_sound j (k + 1) v.0) ∙ jobs_sound js (k + 1) v.1

pub sound_valid : (p : Profile) → verdict_of p ≡ sound → Valid p
unfolding verdict_of
sound_valid p e =
    let a = test_passed _ _ _ e in
    let b = neither (eqb p.n 0) a.0 in
    let n_pos : (p.n ≡ 0 → ⊥) = eqb-false _ _ b.0 in
    let n≤ : p.n ≤ 8 = ltb-false _ _ b.1 in
    record { n_from = omega arith; n_to = n≤; jobs = jobs_valid (jobs_of p) 0 a.1 }

-- the same of a profile that was judged, as an entry point finds it
pub judged_valid : {p : Profile} {none : Unit {0}} → Ok none ≡ verdict_of p → Valid p
judged_valid {p} e = sound_valid p (sym e)

pub valid_sound : (p : Profile) → Valid p → verdict_of p ≡ sound
unfolding verdict_of refuse_if
valid_sound p v = simp (ne_eqb p.n 0 (omega arith), le-ltb 8 p.n v.n_to) (jobs_sound (jobs_of p) 0 v.jobs)

-- each job of a valid profile is valid
valid_entry : (xs : List Job) (i k n : ℕ) → ValidJobs (entries no_job xs i n) → k < n → ValidJob (get_or xs (i + k) no_job)
unfolding entries
valid_entry xs i k zero v h = absurd (not-suc-le-zero h)
valid_entry xs i zero (suc n) v h = rw (add-zero i) v.0
valid_entry xs i (suc k) (suc n) v h =
    let place : i + 1 + k ≡ i + suc k = omega arith in
    subst (λ (m : ℕ). ValidJob (get_or xs m no_job)) place (valid_entry xs (i + 1) k n v.1 (le_of_suc-le-suc h))

pub job_valid_at : (p : Profile) (k : ℕ) → Valid p → k < p.n → ValidJob (get_or p.jobs k no_job)
job_valid_at p k v h = rw (zero-add k) at (valid_entry p.jobs 0 k p.n v.jobs h)
