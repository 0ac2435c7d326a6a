-- Bytes put one after the other are put together. Assumes nothing.
use mathlib.Core.Path.{◌≡◌, refl, sym, ◌∙◌, ap, ap₂}
use mathlib.Core.List.{List, [], ◌∷◌, ◌++◌, append_assoc}
use Prim.Native.Nat.{ℕ, ◌+◌, ◌≤◌, ◌<◌}
use native.Mathlib.Nat.{zero-add}
use native.Mathlib.Numerals.{add-one}
use native.Mathlib.Omega.{arith}
use lib.ListN.{length, get_or, take, drop, set, length-append}
use lib.Seq.{sets, sets-eq, length-sets, take-suc, length-take-le}
use borrow.Rule.Slice.PartMut.{put_mid}
use Rattle.std.proofs.lemmas.List.Edits.{paste_all}
use Rattle.std.proofs.lemmas.Slice.{put_mid-paste}
use Rattle.model.proofs.Lists.{sets_append}
use Rattle.ladder_line.specs.Writing.{Puts}

pub put_none : (text : List ℕ) → Puts text 0 [] 0 text
put_none text = record { place = refl; room = omega arith; text = refl }

-- first these bytes, then those
pub put_then : {old mid new : List ℕ} {at r s : ℕ} {w v : List ℕ} → Puts old at w r mid → Puts mid r v s new → Puts old at (w ++ v) s new
put_then {old} {mid} {new} {at} {r} {s} {w} {v} p q =
    let same : length mid ≡ length old = ap length p.text ∙ length-sets old at w in
    record {
      place = omega (arith, p.place, q.place, length-append w v);
      room = omega (arith, q.room);
      text = q.text ∙ ap₂ (λ (l : List ℕ) (k : ℕ). sets l k v) p.text p.place ∙ sets_append old at w v;
    }

-- bytes copied over a part of the text as long as they are
pub put_part : (old : List ℕ) (at k : ℕ) (bytes part : List ℕ) → part ≡ bytes → k ≡ length bytes → at + length bytes ≤ length old
    → Puts old at bytes (at + length bytes) (put_mid at k old part)
put_part old at k bytes part e is room = record {
  place = refl;
  room = room;
  text = put_mid-paste at k old part bytes (length bytes) e (sym is) refl ∙ paste_all old at bytes (length bytes) refl ∙ sym (sets-eq bytes old at room ∙ append_assoc (take at old) bytes (drop (at + length bytes) old));
}

-- the place after stays within the text
pub put_room : {old new : List ℕ} {at r : ℕ} {w : List ℕ} → Puts old at w r new → r ≤ length new
put_room {old} {new} {at} {r} {w} p = omega (arith, p.room, ap length p.text ∙ length-sets old at w)

-- one byte more of some bytes
pub put_one : (old : List ℕ) (at : ℕ) (bytes : List ℕ) (k : ℕ) {text : List ℕ} → k < length bytes →
    text ≡ sets old at (take k bytes) → set text (at + k) (get_or bytes k 0) ≡ sets old at (take (k + 1) bytes)
put_one old at bytes k h e =
    let size : length (take k bytes) ≡ k = length-take-le k bytes (omega arith) in
    ap₂ (λ (l : List ℕ) (n : ℕ). set l (at + n) (get_or bytes k 0)) e (sym size)
    ∙ sets_append old at (take k bytes) (get_or bytes k 0 ∷ [])
    ∙ sym (rw (add-one k, take-suc bytes k 0 h))

-- bytes put to the front stand there, and the rest stays
pub put_front : {old new : List ℕ} {r : ℕ} {w : List ℕ} → Puts old 0 w r new → new ≡ w ++ drop (length w) old
put_front {old} {new} {r} {w} p = p.text ∙ sets-eq w old 0 (omega (arith, p.place, p.room)) ∙ ap (λ (k : ℕ). w ++ drop k old) (zero-add (length w))
