-- What C's functions may answer and leave. Cited by the public contracts.
-- Assumes nothing.
use Rattle.std.specs.Prelude.{◌≡◌, Result, Ok, Err, List, ℕ}
use Rattle.std.proofs.lemmas.List.Edits.{sets}
use Rattle.model.specs.declared.Refusal.{Refusal}
use Rattle.exchange.specs.Numbers.{result_of, counted_of}

-- A count or a refusal as one number: that of an answer which the operation allows.
abbrev pub CountsForC : (Result ℕ Refusal → Type 0) → ℕ → Type 0
CountsForC Allows r = record { answer : Result ℕ Refusal; allowed : Allows answer; result : r ≡ counted_of answer }

-- An answer's numbers from the front of a lent array on that held `old`; a refusal leaves the array as it was.
unfoldable pub left_in : {A : Type 0} → (A → List ℕ) → Result A Refusal → List ℕ → List ℕ
left_in numbers (Ok answer) old = sets old 0 (numbers answer)
left_in numbers (Err refusal) old = old

-- A verdict as one number, and what is left in the array: those of an answer which the operation allows.
pub record LeavesForC {A : Type 0} (Allows : Result A Refusal → Type 0) (numbers : A → List ℕ) (old : List ℕ) (r : ℕ) (new : List ℕ) : Type 0 where
  pub answer : Result A Refusal
  pub allowed : Allows answer
  pub result : r ≡ result_of answer
  pub array : new ≡ left_in numbers answer old
