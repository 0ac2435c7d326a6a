-- Job after job through a profile's periods: what is carried along, with what the jobs still to come add to it, is the whole plan's.
-- So past the last job the periods are permitted, and what was carried along is the model's need and loss. Assumes nothing.
use mathlib.Core.Path.{◌≡◌, refl, sym, ◌∙◌, ap, ap₂, subst}
use mathlib.Core.Logic.{◌↔◌}
use mathlib.Core.List.{List, []}
use Prim.Native.Nat.{ℕ, ◌+◌, ◌*◌, ◌-◌, ◌^◌, ◌≤◌, ◌<◌, max}
use native.Mathlib.Omega.{arith}
use native.Mathlib.Numerals.{add-one}
use native.Mathlib.Nat.{sub-zero, zero-add, add-zero, add_assoc, le_trans, mul-le-mul_right}
use lib.ListN.{get_or}
use Rattle.model.specs.declared.Seconds.{Seconds}
use Rattle.model.specs.declared.Job.{Job}
use Rattle.model.specs.declared.Profile.{Profile}
use Rattle.model.specs.Model.{seconds, pages_per_hour, no_job, entries, jobs_of, periods_of, Allowed, PermittedAfter, Permitted, last_of, per_hour, exact_need, need, job_loss, loss}
use Rattle.model.specs.Most.{most_pages}
use Rattle.model.specs.Valid.{Valid}
use Rattle.model.proofs.Bounds.{job_loss_bound, eight_losses}
use Rattle.model.proofs.Entries.{entries_step, entries_end}
use Rattle.model.proofs.Validity.{job_valid_at}
use Rattle.step.specs.Step.{greatest_before, load_at, carried, pages_after, need_at, NeedFits, Bounded}
use Rattle.step.proofs.Bounds.{start_bounded, next_bounded, bounded_fits}
use Rattle.step.proofs.Fits.{need_rounded}
use Rattle.step.proofs.Shared.{exact_need_carried}

-- the jobs and the periods from place i on
abbrev pub jobs_from : Profile → ℕ → List Job
jobs_from p i = entries no_job p.jobs i (p.n - i)

abbrev pub periods_from : Profile → List Seconds → ℕ → List Seconds
periods_from p ts i = entries (seconds 0) ts i (p.n - i)

-- the greatest metadata with one job more
pub greatest_next : (p : Profile) (k : ℕ) → greatest_before p (k + 1) ≡ max (greatest_before p k) (get_or p.jobs k no_job).metadata
unfolding greatest_before
greatest_next p k = ap (greatest_before p) (add-one k)

-- Before place i of eight: `before` is the last period so far, the jobs so far write `written` pages in that time and lose `lost`,
-- and the periods are permitted exactly where those still to come are, after it.
pub record Along (p : Profile) (ts : List Seconds) (i : ℕ) (before : Seconds) (written lost : ℕ) : Type 0 where
  pub upto : i ≤ 8
  pub from : 1 ≤ before.0
  pub to : before.0 ≤ 3600
  pub bounded : Bounded i before written lost
  pub permitted : Permitted (jobs_of p) (periods_of p ts) ↔ PermittedAfter before (jobs_from p i) (periods_from p ts i)
  pub pages : pages_after 0 0 (seconds 1) (jobs_of p) (periods_of p ts) ≡ pages_after (greatest_before p i) written before (jobs_from p i) (periods_from p ts i)
  pub last : last_of (seconds 1) (periods_of p ts) ≡ last_of before (periods_from p ts i)
  pub losses : loss (jobs_of p) (periods_of p ts) ≡ lost + loss (jobs_from p i) (periods_from p ts i)

-- what is permitted, said of lists that are the same
same : {A B : Type 0} → A ≡ B → A ↔ B
same e = (subst (λ (T : Type 0). T) e, subst (λ (T : Type 0). T) (sym e))

pub along_starts : (p : Profile) (ts : List Seconds) → Along p ts 0 (seconds 1) 0 0
unfolding greatest_before
along_starts p ts =
    let whole = sym (sub-zero p.n) in
    record {
      upto = omega arith;
      from = omega arith;
      to = omega arith;
      bounded = start_bounded;
      permitted = same (ap (λ (m : ℕ). Permitted (entries no_job p.jobs 0 m) (entries (seconds 0) ts 0 m)) whole);
      pages = ap (λ (m : ℕ). pages_after 0 0 (seconds 1) (entries no_job p.jobs 0 m) (entries (seconds 0) ts 0 m)) whole;
      last = ap (λ (m : ℕ). last_of (seconds 1) (entries (seconds 0) ts 0 m)) whole;
      losses = ap (λ (m : ℕ). loss (entries no_job p.jobs 0 m) (entries (seconds 0) ts 0 m)) whole ∙ sym (zero-add _);
    }

module _ {p : Profile} {ts : List Seconds} {i : ℕ} {before : Seconds} {written lost : ℕ} (a : Along p ts i before written lost) where
  -- pages in a period are few enough to be carried on
  pub along_fits : NeedFits written before
  along_fits = bounded_fits a.bounded a.upto a.from a.to

  -- a job's place
  module _ (v : Valid p) (less : i < p.n) where
    one_more :
        let t = get_or ts i (seconds 0) in
        PermittedAfter before (jobs_from p i) (periods_from p ts i)
        ≡ (Allowed (get_or p.jobs i no_job) before t × PermittedAfter t (jobs_from p (i + 1)) (periods_from p ts (i + 1)))
    one_more = ap₂ (PermittedAfter before) (entries_step no_job p.jobs i p.n less) (entries_step (seconds 0) ts i p.n less)

    -- where the periods are permitted, its period is allowed
    pub along_allows : Permitted (jobs_of p) (periods_of p ts) → Allowed (get_or p.jobs i no_job) before (get_or ts i (seconds 0))
    along_allows h = ((same one_more).0 (a.permitted.0 h)).0

    -- the loss with its own fits 64 bits, whatever its period
    pub along_loss_fits : (t : Seconds) → lost + job_loss (get_or p.jobs i no_job) t < 2 ^ 64
    along_loss_fits t = eight_losses _ (i + 1) (omega (arith, a.bounded.lost_to, job_loss_bound _ t (job_valid_at p i v less))) (omega (arith, v.n_to))

    -- and with an allowed period one goes on to the next
    pub along_next :
        let j = get_or p.jobs i no_job in
        let t = get_or ts i (seconds 0) in
        Allowed j before t → Along p ts (i + 1) t (carried written before t (load_at p i)) (lost + job_loss j t)
    unfolding pages_after last_of loss
    along_next allowed =
        let j = get_or p.jobs i no_job in
        let t = get_or ts i (seconds 0) in
        let valid = job_valid_at p i v less in
        let js = entries_step no_job p.jobs i p.n less in
        let us = entries_step (seconds 0) ts i p.n less in
        let onward : ℕ → ℕ = λ g. pages_after g (carried written before t (load_at p i)) t (jobs_from p (i + 1)) (periods_from p ts (i + 1)) in
        record {
          upto = omega (arith, v.n_to);
          from = omega (arith, allowed.above, valid.lo_from);
          to = omega (arith, allowed.below, valid.hi_to);
          bounded = next_bounded a.bounded (greatest_before p i) j t valid allowed;
          permitted = (λ h. ((same one_more).0 (a.permitted.0 h)).1, λ h. a.permitted.1 ((same one_more).1 (allowed, h)));
          pages = a.pages ∙ ap₂ (pages_after (greatest_before p i) written before) js us ∙ ap onward (sym (greatest_next p i));
          last = a.last ∙ ap (last_of before) us;
          losses = a.losses ∙ ap₂ (λ (ks : List Job) (ws : List Seconds). lost + loss ks ws) js us ∙ sym (add_assoc lost (job_loss j t) _);
        }

  -- a place beyond the jobs
  module _ (past : p.n ≤ i) where
    no_job_lem : jobs_from p i ≡ []
    no_job_lem = entries_end no_job p.jobs i p.n past

    no_period : periods_from p ts i ≡ []
    no_period = entries_end (seconds 0) ts i p.n past

    -- without jobs still to come the pages are those written, whatever the greatest metadata
    at_end : (greatest : ℕ) {js : List Job} {us : List Seconds} → js ≡ [] → us ≡ [] → pages_after greatest written before js us ≡ written
    unfolding pages_after
    at_end greatest = ap₂ (pages_after greatest written before)

    -- nothing is added there
    pub along_beyond : i < 8 → Along p ts (i + 1) before written lost
    along_beyond less =
        let js : jobs_from p i ≡ jobs_from p (i + 1) = no_job_lem ∙ sym (entries_end no_job p.jobs (i + 1) p.n (omega arith)) in
        let us : periods_from p ts i ≡ periods_from p ts (i + 1) = no_period ∙ sym (entries_end (seconds 0) ts (i + 1) p.n (omega arith)) in
        let few : most_pages * i ≤ most_pages * (i + 1) = omega arith in
        let left = same (ap₂ (PermittedAfter before) js us) in
        record {
          upto = omega arith;
          from = a.from;
          to = a.to;
          bounded = record { pages_to = le_trans a.bounded.pages_to (mul-le-mul_right before.0 few); lost_to = omega (arith, a.bounded.lost_to) };
          permitted = (λ h. left.0 (a.permitted.0 h), λ h. a.permitted.1 (left.1 h));
          pages = a.pages ∙ at_end (greatest_before p i) no_job_lem no_period ∙ sym (at_end (greatest_before p (i + 1)) (sym js ∙ no_job_lem) (sym us ∙ no_period));
          last = a.last ∙ ap (last_of before) us;
          losses = a.losses ∙ ap₂ (λ (ks : List Job) (ws : List Seconds). lost + loss ks ws) js us;
        }

    pub along_permitted : Permitted (jobs_of p) (periods_of p ts)
    along_permitted = a.permitted.1 (rw (no_job_lem, no_period) tt)

    pub along_exact : Valid p → per_hour written before ≡ exact_need (jobs_of p) (periods_of p ts)
    unfolding pages_after last_of
    along_exact v =
        let all-pages = a.pages ∙ at_end (greatest_before p i) no_job_lem no_period in
        let all-last = a.last ∙ ap (last_of before) no_period in
        sym (exact_need_carried (jobs_of p) (periods_of p ts) v.jobs along_permitted ∙ ap₂ per_hour all-pages all-last)

    pub along_need : Valid p → pages_per_hour (need_at written before) ≡ need (jobs_of p) (periods_of p ts)
    unfolding need
    along_need v = sym (need_rounded written before (sym (along_exact v)) refl)

    pub along_lost : lost ≡ loss (jobs_of p) (periods_of p ts)
    unfolding loss
    along_lost = sym (a.losses ∙ ap₂ (λ (js : List Job) (ws : List Seconds). lost + loss js ws) no_job_lem no_period ∙ add-zero lost)
