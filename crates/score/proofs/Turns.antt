-- The turns of the loop over the jobs: what is known before each, and what each way out of it says.
-- Assumes nothing.
use mathlib.Core.Path.{◌≡◌, sym, ◌∙◌, subst}
use mathlib.Core.List.{List, ◌∷◌}
use mathlib.Core.Bool.{false, true≢false}
use Prim.Native.Nat.{ℕ, ◌+◌, ◌≤◌, ◌<◌}
use native.Mathlib.Nat.{sub-zero, zero-add}
use native.Mathlib.Omega.{arith}
use lib.ListN.{get_or}
use Rattle.std.specs.Prelude.{Ok, Err}
use Rattle.model.specs.declared.Seconds.{Seconds}
use Rattle.model.specs.declared.Profile.{Profile}
use Rattle.model.specs.declared.Refusal.TheVariants.{Periods}
use Rattle.model.specs.Model.{seconds, no_job, jobs_of, periods_of, Allowed, per_hour, job_loss}
use Rattle.model.specs.Testing.{allows}
use Rattle.model.specs.Valid.{Valid}
use Rattle.model.proofs.Allowing.{allowed_back}
use Rattle.model.proofs.Entries.{entries_step}
use Rattle.step.specs.Step.{load_at, carried}
use Rattle.step.proofs.Along.{jobs_from, periods_from, Along, along_starts, along_next, along_permitted, along_exact, along_lost}
use Rattle.score.specs.Scoring.{FirstOut, here, later, Scoring, permitted, first_out}

-- before a turn: what the jobs before the k-th have written and lost is carried along, and the first period that is out, if any,
-- stands among those still to come
pub record JobsLeft (p : Profile) (ts : List Seconds) (before : Seconds) (written lost k : ℕ) : Type 0 where
  pub along : Along p ts k before written lost
  pub out : {m : ℕ} → FirstOut before (jobs_from p k) (periods_from p ts k) m → FirstOut (seconds 1) (jobs_of p) (periods_of p ts) (k + m)

pub first_jobs : (p : Profile) (ts : List Seconds) → JobsLeft p ts (seconds 1) 0 0 0
first_jobs p ts = record { along = along_starts p ts; out = λ {m} f. rw (zero-add m) (rw (sub-zero p.n) at f) }

module _ {p : Profile} {ts : List Seconds} {before : Seconds} {written lost k : ℕ} (l : JobsLeft p ts before written lost k) where
  -- the job at hand
  module _ (less : k < p.n) where
    from_here : {m : ℕ} →
        FirstOut before (get_or p.jobs k no_job ∷ jobs_from p (k + 1)) (get_or ts k (seconds 0) ∷ periods_from p ts (k + 1)) m →
        FirstOut (seconds 1) (jobs_of p) (periods_of p ts) (k + m)
    from_here f = l.out (rw (entries_step no_job p.jobs k p.n less, entries_step (seconds 0) ts k p.n less) f)

    pub period_out : allows (get_or p.jobs k no_job) before (get_or ts k (seconds 0)) ≡ false → Scoring (jobs_of p) (periods_of p ts) (Err (Periods (k + 1)))
    period_out e = first_out (from_here (here (λ a. true≢false (sym (allowed_back _ before _ a) ∙ e))))

    pub next_job : Valid p →
        let j = get_or p.jobs k no_job in
        let t = get_or ts k (seconds 0) in
        Allowed j before t → JobsLeft p ts t (carried written before t (load_at p k)) (lost + job_loss j t) (k + 1)
    next_job v a =
        let same : (m : ℕ) → k + (m + 1) ≡ k + 1 + m = λ m. omega arith in
        record {
          along = along_next l.along v less a;
          out = λ {m} f. subst (FirstOut (seconds 1) (jobs_of p) (periods_of p ts)) (same m) (from_here (later a f));
        }

  -- past the last job
  pub all_reckoned : Valid p → p.n ≤ k →
      Scoring (jobs_of p) (periods_of p ts) (Ok (record { need = per_hour written before; loss = lost }))
  all_reckoned v past = rw (along_exact l.along past v, along_lost l.along past) (permitted (along_permitted l.along past))
