-- 66 bytes settle the text: beyond 65 bytes the first byte decides between 2, 3 and 4, and the front has the same first byte.
-- Assumes nothing.
use mathlib.Core.Path.{◌≡◌, refl, sym, ◌∙◌, ap}
use mathlib.Core.Logic.{◌↔◌}
use mathlib.Core.Bool.{Bool, true, false, not, ◌||◌}
use mathlib.Core.List.{List}
use Prim.Native.Nat.{ℕ, ◌≤◌}
use native.Mathlib.Omega.{arith}
use lib.ListN.{length, get_or, take}
use lib.Dec.{eqb, ltb}
use lib.Seq.{take-take, length-take-le}
use borrow.Author.Tests.{ne_eqb, ltb-false}
use Rattle.std.specs.Prelude.{Ok, Err}
use Rattle.model.specs.declared.Refusal.{Refusal}
use Rattle.model.specs.declared.Refusal.TheVariants.{Edition, JobCount, Length}
use Rattle.model.specs.Model.{Verdict, refuse_if, or_else}
use Rattle.codec.specs.Packing.{recut}
use Rattle.codec.specs.Layout.{header_widths, byte_widths, profile_length}
use Rattle.profile_read.specs.Reading.{header_of, count_of, judge_header, verdict_of_bytes, Reads}
use Rattle.profile_read.proofs.Headers.{sound_header}
use Rattle.ladder_listing.specs.Text.{Text}

-- 2, 3 and 4 by the two fields of the first byte alone
by_header : List ℕ → Verdict
by_header fields = refuse_if (not (eqb (get_or fields 0 0) 1)) Edition (refuse_if (eqb (get_or fields 1 0) 0 || ltb 8 (get_or fields 1 0)) JobCount (Err Length))

-- of bytes that are longer than any profile
module _ (bytes : List ℕ) (long : 66 ≤ length bytes) where
  by_header_lem : judge_header bytes ≡ by_header (header_of bytes)
  unfolding judge_header by_header refuse_if
  by_header_lem = go (eqb (count_of bytes) 0) refl (ltb 8 (count_of bytes)) refl
    where
      go : (z : Bool) → eqb (count_of bytes) 0 ≡ z → (t : Bool) → ltb 8 (count_of bytes) ≡ t → judge_header bytes ≡ by_header (header_of bytes)
      go true z t e = simp (ne_eqb (length bytes) 0 (λ f. omega arith), z)
      go false z true e = simp (ne_eqb (length bytes) 0 (λ f. omega arith), z, e)
      go false z false e = simp (ne_eqb (length bytes) 0 (λ f. omega arith), z, e, ne_eqb (length bytes) (profile_length (count_of bytes)) (λ f. omega (arith, ltb-false 8 (count_of bytes) e)))

  header_refused : (refusal : Refusal) × (judge_header bytes ≡ Err refusal)
  header_refused = go (judge_header bytes) refl
    where
      go : (v : Verdict) → judge_header bytes ≡ v → (refusal : Refusal) × (judge_header bytes ≡ Err refusal)
      go (Ok none) e = absurd (omega (arith, sound_header bytes e))
      go (Err refusal) e = (refusal, e)

  long_refused : (refusal : Refusal) × (verdict_of_bytes bytes ≡ Err refusal)
  unfolding verdict_of_bytes or_else
  long_refused = (header_refused.0, rw header_refused.1 refl)

  by_first : verdict_of_bytes bytes ≡ by_header (header_of bytes)
  unfolding long_refused
  by_first = long_refused.1 ∙ sym header_refused.1 ∙ by_header_lem

-- bytes that are refused alike read alike
text_alike : (a b : List ℕ) {refusal : Refusal} {text : List ℕ} → verdict_of_bytes a ≡ Err refusal → verdict_of_bytes b ≡ Err refusal → Text a text → Text b text
unfolding or_else
text_alike a b {refusal} {text} e f t = record { reading = t.reading; read = read; rows = t.rows; are = t.are; none = t.none; is = t.is }
  where
    read : Reads b t.reading
    read = rw f (rw e at t.read)

pub settled : (input text : List ℕ) → 66 ≤ length input → Text input text ↔ Text (take 66 input) text
unfolding header_of
settled input text long = (text_alike input front refused same, text_alike front input same refused)
  where
    front : List ℕ
    front = take 66 input

    long_front : 66 ≤ length front
    long_front = omega (arith, length-take-le 66 input long)

    same_first : header_of input ≡ header_of front
    same_first = ap (recut (byte_widths 1) header_widths) (sym (take-take 1 66 input (omega arith)))

    refused : verdict_of_bytes input ≡ Err (long_refused input long).0
    refused = (long_refused input long).1

    same : verdict_of_bytes front ≡ Err (long_refused input long).0
    same = by_first front long_front ∙ ap by_header (sym same_first) ∙ sym (by_first input long) ∙ refused
