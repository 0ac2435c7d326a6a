-- What scoring answers can be computed, and what is computed meets the contract; so whatever is answered is that. Worked cases and the lines
-- of the ladder program are told by it. Assumes nothing.
use mathlib.Core.Path.{◌≡◌, refl, sym, ◌∙◌, ap, subst}
use mathlib.Core.List.{List}
use mathlib.Core.Logic.{⊎_elim}
use lib.ListN.{length}
use Rattle.std.specs.Prelude.{Result, Ok, Err}
use Rattle.model.specs.declared.Seconds.{Seconds}
use Rattle.model.specs.declared.Job.{Job}
use Rattle.model.specs.declared.Profile.{Profile}
use Rattle.model.specs.declared.Refusal.{Refusal}
use Rattle.model.specs.Model.{Verdict, sound, seconds, no_job, jobs_of, periods_of, Permitted, exact_need, loss, or_else, verdict_in, verdict_of}
use Rattle.model.proofs.Entries.{length_entries}
use Rattle.model.proofs.ProfileFirst.{computed_first, answered}
use Rattle.model.proofs.Verdicts.{refusal_is_none}
use Rattle.score.specs.declared.Scored.{Scored}
use Rattle.score.specs.Scoring.{Scoring, permitted, first_out, Scores}
use Rattle.score.specs.Judging.{first_unpermitted, score_verdict}
use Rattle.score.proofs.Permission.{permitted_sound, permitted_or_first_out}
use Rattle.score.proofs.OneOutcome.{scores_one}

-- need and loss, past a verdict
unfoldable pub scored_by : List Job → List Seconds → Verdict → Result Scored Refusal
scored_by js ts v = or_else v (Ok (record { need = exact_need js ts; loss = loss js ts }))

unfoldable pub score_for : Profile → List Seconds → Result Scored Refusal
score_for p ts = or_else (verdict_of p) (scored_by (jobs_of p) (periods_of p ts) (first_unpermitted 0 (seconds 1) (jobs_of p) (periods_of p ts)))

-- as many periods as jobs
as_many : (p : Profile) (ts : List Seconds) → length (jobs_of p) ≡ length (periods_of p ts)
as_many p ts = length_entries no_job p.jobs 0 p.n ∙ sym (length_entries (seconds 0) ts 0 p.n)

-- what the verdict on periods leaves
judged_scores : (js : List Job) (ts : List Seconds) → length js ≡ length ts → Scoring js ts (scored_by js ts (first_unpermitted 0 (seconds 1) js ts))
unfolding scored_by or_else
judged_scores js ts many =
    ⊎_elim
    (λ (h : Permitted js ts). subst (λ (v : Verdict). Scoring js ts (scored_by js ts v)) (sym (permitted_sound 0 (seconds 1) js ts h)) (permitted h))
    (λ o. subst (λ (v : Verdict). Scoring js ts (scored_by js ts v)) (sym o.2) (first_out o.1))
    (permitted_or_first_out js ts many)

pub score_meets : (p : Profile) (ts : List Seconds) → Scores p ts (score_for p ts)
unfolding score_for
score_meets p ts = computed_first _ (λ e. judged_scores (jobs_of p) (periods_of p ts) (as_many p ts))

-- what is answered beside no refusal: the periods are permitted, and the loss is theirs
scored_loss : {js : List Job} {ts : List Seconds} {s : Result Scored Refusal} {a : Scored} → Scoring js ts s → s ≡ Ok a → Permitted js ts × (a.loss ≡ loss js ts)
scored_loss {js} {ts} {s} {a} (permitted h) e = (h, let told = e in cc)
scored_loss (first_out f) e = absurd (refusal_is_none e)

-- whatever is answered has the verdict that the tests give
module _ (p : Profile) (ts : List Seconds) where
  by_tests : verdict_in (score_for p ts) ≡ score_verdict p ts
  unfolding score_for score_verdict scored_by or_else verdict_in
  by_tests = go (verdict_of p) (first_unpermitted 0 (seconds 1) (jobs_of p) (periods_of p ts))
    where
      go : (v w : Verdict) → verdict_in (or_else v (scored_by (jobs_of p) (periods_of p ts) w)) ≡ or_else v w
      go (Ok none) (Ok more) = refl
      go (Ok none) (Err refusal) = refl
      go (Err refusal) w = refl

  module _ {s : Result Scored Refusal} (scores : Scores p ts s) where
    pub verdict_is : verdict_in s ≡ score_verdict p ts
    verdict_is = ap verdict_in (scores_one p ts scores (score_meets p ts)) ∙ by_tests

    module _ {a : Scored} (e : s ≡ Ok a) where
      pub sound_own : verdict_of p ≡ sound
      sound_own = (answered scores e).0

      pub sound_allowed : Permitted (jobs_of p) (periods_of p ts)
      sound_allowed = (scored_loss (answered scores e).1 e).0

      pub sound_loss : a.loss ≡ loss (jobs_of p) (periods_of p ts)
      sound_loss = (scored_loss (answered scores e).1 e).1
