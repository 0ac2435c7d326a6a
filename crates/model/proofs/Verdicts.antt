-- Laws of verdicts: which of two comes first, that each refusal has a number, and what a sound chain of checks tells of each.
-- Assumes nothing.
use mathlib.Core.Path.{◌≡◌, refl, sym, ◌∙◌, ap, subst}
use mathlib.Core.List.{List}
use mathlib.Core.Bool.{Bool, true, false, ◌||◌, true≢false}
use lib.Dec.{T, eqb, ltb}
use borrow.Author.Tests.{ne_eqb}
use Prim.Native.Nat.{ℕ, ◌+◌, ◌-◌, ◌≤◌, ◌<◌}
use native.Mathlib.Omega.{arith}
use lib.ListN.{get_or}
use Rattle.std.specs.Prelude.{Result, Ok, Err, is_ok}
use Rattle.model.specs.declared.Refusal.{Refusal}
use Rattle.model.specs.declared.Refusal.TheVariants.{NoBytes, Edition, JobCount, Length, Interval, Stiffness, Spare, Pages, NoPeriods, Budget, Room, Row, Periods}
use Rattle.model.specs.Model.{Verdict, sound, number_of, refuse_if, or_else, if_sound, verdict_in, entries, first_refused}
use Rattle.model.proofs.Entries.{entries_step, entries_end}

-- a refusal is no answer
pub refusal_is_none : {A : Type 0} {refusal : Refusal} {answer : A} → Err refusal ≡ Ok answer → ⊥
refusal_is_none e = true≢false (sym (ap is_ok e))

-- v, told to be a, is sound: what comes after it decides
pub sound_passes : {A : Type 0} {v a : Verdict} (rest : Result A Refusal) → v ≡ a → v ≡ sound → or_else a rest ≡ rest
unfolding or_else
sound_passes rest e s = rw (← e, s)

-- a refusal has a number
abbrev pub Refuses : Verdict → Type 0
Refuses v = T (ltb 0 (number_of v))

pub refuses : (v : Verdict) → (v ≡ sound → ⊥) → Refuses v
refuses (Ok none) unsound = absurd (unsound refl)
refuses (Err NoBytes) unsound = tt
refuses (Err Edition) unsound = tt
refuses (Err JobCount) unsound = tt
refuses (Err Length) unsound = tt
refuses (Err (Interval k)) unsound = tt
refuses (Err (Stiffness k)) unsound = tt
refuses (Err (Spare k)) unsound = tt
refuses (Err (Pages k)) unsound = tt
refuses (Err NoPeriods) unsound = tt
refuses (Err (Budget b)) unsound = tt
refuses (Err (Room k)) unsound = tt
refuses (Err (Row k)) unsound = tt
refuses (Err (Periods k)) unsound = tt

pub some_number : (v : Verdict) → Refuses v → number_of v ≡ 0 → ⊥
some_number v h e = subst (λ (n : ℕ). T (ltb 0 n)) e h

pub not_zero : (v : Verdict) → Refuses v → eqb (number_of v) 0 ≡ false
not_zero v h = ne_eqb (number_of v) 0 (some_number v h)

-- a verdict whose number is 0 is sound
pub sound_of_zero : (v : Verdict) → number_of v ≡ 0 → v ≡ sound
sound_of_zero (Ok none) e = refl
sound_of_zero (Err refusal) e = absurd (some_number (Err refusal) (refuses (Err refusal) refusal_is_none) e)

-- a verdict that is not sound stands before whatever would come after it
pub unsound_stays : (v rest : Verdict) → (v ≡ sound → ⊥) → or_else v rest ≡ v
unfolding or_else
unsound_stays (Ok none) rest unsound = absurd (unsound refl)
unsound_stays (Err refusal) rest unsound = refl

-- the same of v, told to be a
pub refused_stays : {v a : Verdict} (rest : Verdict) → v ≡ a → (v ≡ sound → ⊥) → v ≡ or_else a rest
refused_stays {v} rest e unsound = sym (unsound_stays v rest unsound) ∙ ap (λ (w : Verdict). or_else w rest) e

pub sound_or_not : (v : Verdict) → Dec (v ≡ sound)
sound_or_not (Ok none) = yes refl
sound_or_not (Err refusal) = no refusal_is_none

-- what stands beside a verdict v
pub beside_sound : {A : Type 0} {v : Verdict} (answer none : A) → sound ≡ v → answer ≡ if_sound v answer none
unfolding if_sound
beside_sound answer none e = rw (← e)

pub beside_unsound : {A : Type 0} {v : Verdict} (answer none : A) → (v ≡ sound → ⊥) → if_sound v answer none ≡ none
unfolding if_sound
beside_unsound {v = Ok tt} answer none unsound = absurd (unsound refl)
beside_unsound {v = Err refusal} answer none unsound = refl

pub beside_refusal : {A : Type 0} {v w : Verdict} (answer none : A) → Refuses v → v ≡ w → none ≡ if_sound w answer none
beside_refusal {v} answer none h e =
    sym (beside_unsound answer none (λ s. some_number v h (ap number_of (e ∙ s))))

-- judging the entries from place k to place n, one by one
module _ {A : Type 0} (judgeOne : A → ℕ → Verdict) (d : A) (xs : List A) (k n : ℕ) where
  pub one_judged : k < n → first_refused judgeOne k (entries d xs k (n - k)) ≡ or_else (judgeOne (get_or xs k d) (k + 1)) (first_refused judgeOne (k + 1) (entries d xs (k + 1) (n - (k + 1))))
  unfolding first_refused
  one_judged h = ap (first_refused judgeOne k) (entries_step d xs k n h)

  pub all_judged : n ≤ k → first_refused judgeOne k (entries d xs k (n - k)) ≡ sound
  unfolding first_refused
  all_judged h = ap (first_refused judgeOne k) (entries_end d xs k n h)

-- a sound chain of checks: no test of it held
pub test_passed : (t : Bool) (refusal : Refusal) (rest : Verdict) → refuse_if t refusal rest ≡ sound → (t ≡ false) × (rest ≡ sound)
unfolding refuse_if
test_passed true refusal rest e = absurd (refusal_is_none e)
test_passed false refusal rest e = (refl, e)

-- nor did either of two
pub neither : (a : Bool) {b : Bool} → (a || b) ≡ false → (a ≡ false) × (b ≡ false)
neither true e = absurd (true≢false e)
neither false e = (refl, e)

-- what is answered past a verdict: it is sound, and so is what comes after it
pub both_sound : {A : Type 0} (v : Verdict) {rest : Result A Refusal} {answer : A} → or_else v rest ≡ Ok answer → (v ≡ sound) × (rest ≡ Ok answer)
unfolding or_else
both_sound (Ok none) e = (refl, e)
both_sound (Err refusal) e = absurd (refusal_is_none e)

-- a sound verdict is that of an answer
pub some_answer : {A : Type 0} (r : Result A Refusal) → verdict_in r ≡ sound → (answer : A) × (r ≡ Ok answer)
unfolding verdict_in
some_answer (Ok answer) e = (answer, refl)
some_answer (Err refusal) e = absurd (refusal_is_none e)

pub number_small : (v : Verdict) → number_of v ≤ 13
number_small (Ok none) = omega arith
number_small (Err NoBytes) = omega arith
number_small (Err Edition) = omega arith
number_small (Err JobCount) = omega arith
number_small (Err Length) = omega arith
number_small (Err (Interval k)) = omega arith
number_small (Err (Stiffness k)) = omega arith
number_small (Err (Spare k)) = omega arith
number_small (Err (Pages k)) = omega arith
number_small (Err NoPeriods) = omega arith
number_small (Err (Budget b)) = omega arith
number_small (Err (Room k)) = omega arith
number_small (Err (Row k)) = omega arith
number_small (Err (Periods k)) = omega arith
