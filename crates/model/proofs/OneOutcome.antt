-- Any two outcomes that a function's own contract allows for the same arguments are equal: `Post` is what the checker makes of its
-- clauses, so a contract that says less breaks this. Here the contract says which value the answer is. Assumes nothing.
use mathlib.Core.Path.{◌≡◌, ◌∙◌, sym}
use Rattle.model.specs.Model.{Verdict}
use Rattle.model.proofs.judge_count.Reads as judge-count-contract

pub judge_count_one_outcome : (κs : _) (a : _) (r s : Verdict) (e e' : _) → judge-count-contract.Post κs a r e → judge-count-contract.Post κs a s e' → r ≡ s
judge_count_one_outcome κs a r s e e' one other = one ∙ sym other
