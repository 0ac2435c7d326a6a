-- Any two outcomes that a public contract of this crate allows are equal: the answer, and the bytes of the lent buffer.
-- Assumes nothing.
use mathlib.Core.Path.{◌≡◌, refl}
use mathlib.Core.List.{List}
use Prim.Native.Nat.{ℕ}
use Rattle.std.specs.Prelude.{Result}
use Rattle.model.specs.declared.Profile.{Profile}
use Rattle.model.specs.declared.Refusal.{Refusal}
use Rattle.model.proofs.FrontPut.{puts_one}
use Rattle.profile_write.specs.Writing.{Writes}
use Rattle.profile_write.proofs.write_profile.Reads as write-profile-contract

pub writes_one : (p : Profile) (old : List ℕ) {r s : Result ℕ Refusal} {new other-new : List ℕ} → Writes p old r new → Writes p old s other-new → (r ≡ s) × (new ≡ other-new)
writes_one p old = puts_one p old (λ _. (refl, refl, refl))

-- Any two outcomes that a function's own contract allows for the same arguments are equal: `Post` is what the checker makes of its
-- clauses, so a contract that says less breaks this.

pub write_profile_one_outcome : (κs : _) (a : _) (r s : Result ℕ Refusal) (e e' : _) →
    write-profile-contract.Post κs a r e → write-profile-contract.Post κs a s e' → (r ≡ s) × (e.1.0.now ≡ e'.1.0.now)
write_profile_one_outcome κs a r s e e' one other = writes_one _ _ one other
