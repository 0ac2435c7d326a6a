-- What an operation leaves for C: a count as one number; or beside a refusal the array as it was, beside an answer its numbers.
-- Assumes nothing.
use mathlib.Core.Path.{◌≡◌, refl, subst}
use mathlib.Core.List.{List}
use Prim.Native.Nat.{ℕ}
use lib.Seq.{sets}
use Rattle.std.specs.Prelude.{Result, Ok, Err}
use Rattle.model.specs.declared.Profile.{Profile}
use Rattle.model.specs.declared.Refusal.{Refusal}
use Rattle.exchange.specs.Numbers.{result_of, counted_of}
use Rattle.planner.specs.ForC.{CountsForC, LeavesForC, left_in}

-- what is allowed for a profile is allowed for the one that the numbers hold, which is the same
pub count_told : (Allows : Profile → Result ℕ Refusal → Type 0) {p q : Profile} {a : Result ℕ Refusal} {r : ℕ} → p ≡ q → Allows p a → r ≡ counted_of a →
    CountsForC (Allows q) r
count_told Allows {a = a} same allowed result = record { answer = a; allowed = subst (λ (p : Profile). Allows p a) same allowed; result = result }

module _ {A : Type 0} {Allows : Result A Refusal → Type 0} {numbers : A → List ℕ} {old : List ℕ} {a : Result A Refusal} (allowed : Allows a) where
  -- the array stays as it was
  pub refusal_left : {refusal : Refusal} {r : ℕ} → a ≡ Err refusal → r ≡ result_of {A = Unit {0}} (Err refusal) → LeavesForC Allows numbers old r old
  unfolding left_in result_of
  refusal_left {refusal} is result = record { answer = Err refusal; allowed = subst Allows is allowed; result = result; array = refl }

  -- the array holds the numbers, and 0 is told
  pub sound_left : {answer : A} {new : List ℕ} → a ≡ Ok answer → new ≡ sets old 0 (numbers answer) → LeavesForC Allows numbers old 0 new
  unfolding left_in result_of
  sound_left {answer} is array = record { answer = Ok answer; allowed = subst Allows is allowed; result = refl; array = array }
