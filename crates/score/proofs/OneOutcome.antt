-- Any two outcomes that the public contract of this crate allows are equal: periods are permitted, or one of them is the first that is out.
-- Assumes nothing.
use mathlib.Core.Path.{◌≡◌, refl, ap}
use mathlib.Core.List.{List}
use Prim.Native.Nat.{ℕ}
use Rattle.std.specs.Prelude.{Result, Err}
use Rattle.model.specs.declared.Seconds.{Seconds}
use Rattle.model.specs.declared.Job.{Job}
use Rattle.model.specs.declared.Profile.{Profile}
use Rattle.model.specs.declared.Refusal.{Refusal}
use Rattle.model.specs.declared.Refusal.TheVariants.{Periods}
use Rattle.model.proofs.ProfileFirst.{one_first}
use Rattle.score.specs.declared.Scored.{Scored}
use Rattle.score.specs.Scoring.{Scoring, permitted, first_out, Scores}
use Rattle.score.proofs.Permission.{permitted_none_out, one_first_out}
use Rattle.score.proofs.score.Reads as score-contract

scoring_one : {js : List Job} {ts : List Seconds} {r s : Result Scored Refusal} → Scoring js ts r → Scoring js ts s → r ≡ s
scoring_one (permitted h) (permitted k) = refl
scoring_one {js} {ts} (permitted h) (first_out f) = absurd (permitted_none_out js ts h f)
scoring_one {js} {ts} (first_out f) (permitted h) = absurd (permitted_none_out js ts h f)
scoring_one (first_out f) (first_out g) = ap (λ (k : ℕ). Err (Periods k)) (one_first_out f g)

pub scores_one : (p : Profile) (ts : List Seconds) {r s : Result Scored Refusal} → Scores p ts r → Scores p ts s → r ≡ s
scores_one p ts one other = one_first scoring_one one other

-- Any two outcomes that a function's own contract allows for the same arguments are equal: `Post` is what the checker makes of its
-- clauses, so a contract that says less breaks this.

pub score_one_outcome : (κs : _) (a : _) (r s : Result Scored Refusal) (e e' : _) → score-contract.Post κs a r e → score-contract.Post κs a s e' → r ≡ s
score_one_outcome κs a r s e e' one other = scores_one _ _ one other
