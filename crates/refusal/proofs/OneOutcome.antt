-- Any two outcomes that a function's own contract allows for the same arguments are equal: `Post` is what the checker makes of its
-- clauses, so a contract that says less breaks this. Here each contract says which value the answer is. Assumes nothing.
use mathlib.Core.Path.{◌≡◌, ◌∙◌, sym}
use Prim.Native.Nat.{ℕ}
use Rattle.refusal.proofs.number.Reads as number-contract
use Rattle.refusal.proofs.detail.Reads as detail-contract

pub number_one_outcome : (κs : _) (a : _) (r s : ℕ) (e e' : _) → number-contract.Post κs a r e → number-contract.Post κs a s e' → r ≡ s
number_one_outcome κs a r s e e' one other = one ∙ sym other

pub detail_one_outcome : (κs : _) (a : _) (r s : ℕ) (e e' : _) → detail-contract.Post κs a r e → detail-contract.Post κs a s e' → r ≡ s
detail_one_outcome κs a r s e e' one other = one ∙ sym other
