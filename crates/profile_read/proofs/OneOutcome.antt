-- Any two outcomes that a public contract of this crate allows are equal: the answer.
-- Assumes nothing.
use mathlib.Core.Path.{◌≡◌, ◌∙◌, sym}
use mathlib.Core.List.{List}
use Prim.Native.Nat.{ℕ}
use Rattle.std.specs.Prelude.{Result}
use Rattle.model.specs.declared.Profile.{Profile}
use Rattle.model.specs.declared.Refusal.{Refusal}
use Rattle.profile_read.specs.Reading.{Reads}
use Rattle.profile_read.proofs.read_profile.Reads as read-profile-contract

pub reads_one : (bytes : List ℕ) {r s : Result Profile Refusal} → Reads bytes r → Reads bytes s → r ≡ s
reads_one bytes one other = one ∙ sym other

-- Any two outcomes that a function's own contract allows for the same arguments are equal: `Post` is what the checker makes of its
-- clauses, so a contract that says less breaks this.

pub read_profile_one_outcome : (κs : _) (a : _) (r s : Result Profile Refusal) (e e' : _) → read-profile-contract.Post κs a r e → read-profile-contract.Post κs a s e' → r ≡ s
read_profile_one_outcome κs a r s e e' one other = reads_one _ one other
