-- Any two outcomes that a function's own contract allows for the same arguments are equal: `Post` is what the checker makes of its
-- clauses, so a contract that says less breaks this. Here each contract says which value the answer is. Assumes nothing.
use mathlib.Core.Path.{◌≡◌, ◌∙◌, sym}
use Rattle.model.specs.Model.{Verdict}
use Rattle.profile_judge.proofs.judge_interval_and_stiffness.Reads as judge-interval-and-stiffness-contract
use Rattle.profile_judge.proofs.judge.Reads as judge-contract

pub judge_interval_and_stiffness_one_outcome : (κs : _) (a : _) (r s : Verdict) (e e' : _) → judge-interval-and-stiffness-contract.Post κs a r e → judge-interval-and-stiffness-contract.Post κs a s e' → r ≡ s
judge_interval_and_stiffness_one_outcome κs a r s e e' one other = one ∙ sym other

pub judge_one_outcome : (κs : _) (a : _) (r s : Verdict) (e e' : _) → judge-contract.Post κs a r e → judge-contract.Post κs a s e' → r ≡ s
judge_one_outcome κs a r s e e' one other = one ∙ sym other
