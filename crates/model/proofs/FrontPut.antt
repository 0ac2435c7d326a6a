-- Bytes put into a lent buffer: past the profile's own verdict the next one decides, which for rows is that on their count, and two
-- outcomes are one. Writing, zones and tables share this. Assumes nothing.
use mathlib.Core.Path.{◌≡◌, refl, sym, ◌∙◌, ap, ap₂}
use mathlib.Core.List.{List, ◌++◌}
use Prim.Native.Nat.{ℕ, ◌*◌, ◌/◌, ◌≤◌, ◌<◌}
use lib.ListN.{length, drop}
use native.Mathlib.Decide.{dec_lt}
use native.Mathlib.Omega.{arith}
use borrow.Author.Tests.{lt-ltb, ne_eqb}
use Rattle.std.specs.Prelude.{Result, Ok, Err}
use Rattle.model.specs.declared.Profile.{Profile}
use Rattle.model.specs.declared.Refusal.{Refusal}
use Rattle.model.specs.declared.Refusal.TheVariants.{Room}
use Rattle.model.specs.Model.{Verdict, sound, refuse_if, or_else, if_sound, verdict_of, row_size, count_verdict, PutsFront}
use Rattle.model.proofs.Verdicts.{refusal_is_none}

-- the profile's refusal, or past it the next one's, leaves the buffer as it was
module _ (p : Profile) (next : Verdict) (many : ℕ) (front old : List ℕ) where
  pub own_alone : {refusal : Refusal} → verdict_of p ≡ Err refusal → PutsFront p next many front old (Err refusal) old
  unfolding or_else if_sound
  own_alone e = record { answer = rw e refl; bytes = refl }

  pub next_refused : {refusal : Refusal} → verdict_of p ≡ sound → next ≡ Err refusal → PutsFront p next many front old (Err refusal) old
  unfolding or_else if_sound
  next_refused s e = record { answer = rw (s, e) refl; bytes = refl }

  pub all_put : verdict_of p ≡ sound → next ≡ sound → {count : ℕ} → count ≡ many → (size : ℕ) → length front ≡ size → {new : List ℕ} → new ≡ front ++ drop size old
      → PutsFront p next many front old (Ok count) new
  unfolding or_else if_sound
  all_put s e is size length-is bytes = record { answer = rw (s, e) (ap (λ k. Ok k) is); bytes = bytes ∙ ap (λ (k : ℕ). front ++ drop k old) (sym length-is) }

no_room : (count size : ℕ) → size / row_size < count → count_verdict count size ≡ Err (Room count)
unfolding refuse_if
no_room count size h =
    let some : count ≡ 0 → ⊥ = λ z. omega arith in
    simp (ne_eqb count 0 some, lt-ltb (size / row_size) count h)

-- a sound verdict on a count leaves room for it
pub room_enough : (count size : ℕ) → count_verdict count size ≡ sound → count ≤ size / row_size
room_enough count size e = go (dec_lt (size / row_size) count)
  where
    go : Dec (size / row_size < count) → count ≤ size / row_size
    go (yes h) = absurd (refusal_is_none (sym (no_room count size h) ∙ e))
    go (no h) = omega arith

-- rows, with their count told and judged
module _ (p : Profile) (rows : ℕ) (bytes old : List ℕ) (count : ℕ) (valid : verdict_of p ≡ sound) (is : count ≡ rows) where
  judged : count_verdict rows (length old) ≡ count_verdict count (length old)
  judged = ap (λ (k : ℕ). count_verdict k (length old)) (sym is)

  pub count_refused : {refusal : Refusal} → count_verdict count (length old) ≡ Err refusal → PutsFront p (count_verdict rows (length old)) rows bytes old (Err refusal) old
  count_refused e = next_refused p _ rows bytes old valid (judged ∙ e)

  pub rows_put : count_verdict count (length old) ≡ sound → length bytes ≡ row_size * rows → {new : List ℕ} → new ≡ bytes ++ drop (row_size * rows) old
      → PutsFront p (count_verdict rows (length old)) rows bytes old (Ok count) new
  rows_put e = all_put p _ rows bytes old valid (judged ∙ e) is (row_size * rows)

-- Where a sound profile has the same to put for both, there is one outcome.
pub puts_one : (p : Profile) (old : List ℕ) {v w : Verdict} {k l : ℕ} {front other-front : List ℕ} {r s : Result ℕ Refusal} {new other-new : List ℕ}
    → (verdict_of p ≡ sound → (v ≡ w) × (k ≡ l) × (front ≡ other-front)) → PutsFront p v k front old r new → PutsFront p w l other-front old s other-new
    → (r ≡ s) × (new ≡ other-new)
unfolding or_else if_sound
puts_one p old {v} {w} {k} {l} {front} {other-front} {r} {s} {new} {other-new} same one other = go (verdict_of p) refl
  where
    Both : Type 0
    Both = (r ≡ s) × (new ≡ other-new)

    go : (own : Verdict) → verdict_of p ≡ own → Both
    go (Ok none) e =
        let alike = same e in
        let answer = one.answer ∙ ap (λ (own : Verdict). or_else own (or_else v (Ok k))) e ∙ ap₂ (λ (u : Verdict) (m : ℕ). or_else u (Ok m)) alike.0 alike.1
        ∙ sym (other.answer ∙ ap (λ (own : Verdict). or_else own (or_else w (Ok l))) e) in (
          answer,
          one.bytes ∙ ap₂ (λ (a : Result ℕ Refusal) (f : List ℕ). if_sound a (f ++ drop (length f) old) old) answer alike.2 ∙ sym other.bytes,
        )
    go (Err refusal) e =
        let mine = one.answer ∙ ap (λ (own : Verdict). or_else own (or_else v (Ok k))) e in
        let its = other.answer ∙ ap (λ (own : Verdict). or_else own (or_else w (Ok l))) e in
        (mine ∙ sym its, one.bytes ∙ ap (λ (a : Result ℕ Refusal). if_sound a (front ++ drop (length front) old) old) mine ∙ sym (other.bytes ∙ ap (λ (a : Result ℕ Refusal). if_sound a (other-front ++ drop (length other-front) old) old) its))

-- Of rows: where a sound profile has the same for both.
pub puts_rows_one : (p : Profile) (old : List ℕ) {k l : ℕ} {front other-front : List ℕ} {r s : Result ℕ Refusal} {new other-new : List ℕ}
    → (verdict_of p ≡ sound → (k ≡ l) × (front ≡ other-front)) → PutsFront p (count_verdict k (length old)) k front old r new → PutsFront p (count_verdict l (length old)) l other-front old s other-new
    → (r ≡ s) × (new ≡ other-new)
puts_rows_one p old same =
    puts_one p old (λ e. let alike = same e in (ap (λ (m : ℕ). count_verdict m (length old)) alike.0, alike.0, alike.1))
