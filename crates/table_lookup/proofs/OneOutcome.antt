-- Any two outcomes that a public contract of this crate allows are equal, and the operations agree: the part is empty exactly on a refusal,
-- and else it is the row of the number told. A table has one first bad row, and one row that answers.
-- Assumes nothing.
use mathlib.Core.Path.{◌≡◌, refl, ◌∙◌, sym, ap, subst}
use mathlib.Core.Logic.{◌↔◌}
use mathlib.Core.List.{List, []}
use Prim.Native.Nat.{ℕ, ◌+◌, ◌*◌, ◌-◌, ◌≤◌}
use native.Mathlib.Omega.{arith}
use lib.ListN.{length, drop, length-drop}
use lib.Seq.{length-take-le}
use Rattle.std.specs.Prelude.{Result, Ok, Err}
use Rattle.model.specs.declared.PagesPerHour.{PagesPerHour}
use Rattle.model.specs.declared.Profile.{Profile}
use Rattle.model.specs.declared.Refusal.{Refusal}
use Rattle.model.specs.declared.Refusal.TheVariants.{Row}
use Rattle.model.specs.Model.{Verdict, sound, verdict_in, if_sound, verdict_of}
use Rattle.model.proofs.ProfileFirst.{one_first}
use Rattle.model.proofs.Verdicts.{refusal_is_none, some_answer}
use Rattle.table_row.specs.Table.{bytes_at}
use Rattle.table_check.specs.Formed.{FirstBadRow}
use Rattle.table_lookup.specs.Lookup.{Answers, Finds, wrong_length, bad_row, below_first, answering, Locates, JudgesLookup, place_found, LooksUp}
use Rattle.table_lookup.proofs.Finding.{neither_less, one_answers, below_none}
use Rattle.table_lookup.proofs.lookup.Reads as lookup-contract
use Rattle.table_lookup.proofs.locate.Reads as locate-contract
use Rattle.table_lookup.proofs.judge_lookup.Reads as judge-lookup-contract

first_bad_one : {p : Profile} {bytes : List ℕ} (k j : ℕ) → FirstBadRow p bytes k → FirstBadRow p bytes j → k ≡ j
first_bad_one k j one other = neither_less (λ less. one.bad (other.before k less)) (λ less. other.bad (one.before j less))

pub finds_one : {p : Profile} {bytes : List ℕ} {b : PagesPerHour} {r s : Result ℕ Refusal} → Finds p bytes b r → Finds p bytes b s → r ≡ s
finds_one (wrong_length odd) (wrong_length odd') = refl
finds_one (wrong_length odd) (bad_row w f) = absurd (odd w)
finds_one (wrong_length odd) (below_first w l) = absurd (odd w.size)
finds_one (wrong_length odd) (answering w a) = absurd (odd w.size)
finds_one (bad_row w f) (wrong_length odd) = absurd (odd w)
finds_one (bad_row w f) (bad_row w' f') = ap (λ (k : ℕ). Err (Row (k + 1))) (first_bad_one _ _ f f')
finds_one (bad_row w f) (below_first w' l) = absurd (f.bad (w'.rows _ f.there))
finds_one (bad_row w f) (answering w' a) = absurd (f.bad (w'.rows _ f.there))
finds_one (below_first w l) (wrong_length odd) = absurd (odd w.size)
finds_one (below_first w l) (bad_row w' f) = absurd (f.bad (w.rows _ f.there))
finds_one (below_first w l) (below_first w' l') = refl
finds_one {p} {bytes} {b} (below_first w l) (answering w' a) = absurd (below_none p bytes w b l _ a)
finds_one (answering w a) (wrong_length odd) = absurd (odd w.size)
finds_one (answering w a) (bad_row w' f) = absurd (f.bad (w.rows _ f.there))
finds_one {p} {bytes} {b} (answering w a) (below_first w' l) = absurd (below_none p bytes w b l _ a)
finds_one {p} {bytes} {b} (answering w a) (answering w' a') = ap (λ (k : ℕ). Ok (k + 1)) (one_answers bytes b _ _ a a')

pub locates_one : (p : Profile) (bytes : List ℕ) (b : PagesPerHour) {r s : Result ℕ Refusal} → Locates p bytes b r → Locates p bytes b s → r ≡ s
locates_one p bytes b one other = one_first finds_one one other

pub judges_one : (p : Profile) (bytes : List ℕ) (b : PagesPerHour) {r s : Verdict} → JudgesLookup p bytes b r → JudgesLookup p bytes b s → r ≡ s
judges_one p bytes b one other = one.verdict ∙ ap verdict_in (locates_one p bytes b one.located other.located) ∙ sym other.verdict

-- a part is the same bytes at the same place
pub looks_up_one : (p : Profile) (bytes : List ℕ) (lies : ℕ × ℕ) (b : PagesPerHour) {r s : List ℕ} {at other_at : ℕ × ℕ} →
    LooksUp p bytes lies b r at → LooksUp p bytes lies b s other_at → (r ≡ s) × (at ≡ other_at)
looks_up_one p bytes lies b one other =
    let same = locates_one p bytes b one.located other.located in (
      one.holds ∙ ap (λ (c : Result ℕ Refusal). if_sound c (bytes_at bytes (place_found c)) []) same ∙ sym other.holds,
      one.place ∙ ap (λ (c : Result ℕ Refusal). (lies.0, lies.1 + 16 * place_found c)) same ∙ sym other.place,
    )

-- a number that is told is that of a row that answers
record RowNumbered (bytes : List ℕ) (b : PagesPerHour) (k : ℕ) : Type 0 where
  some : 1 ≤ k
  answers : Answers bytes b (k - 1)

number_found : {p : Profile} {bytes : List ℕ} {b : PagesPerHour} {r : Result ℕ Refusal} {k : ℕ} → Finds p bytes b r → r ≡ Ok k → RowNumbered bytes b k
number_found (wrong_length odd) e = absurd (refusal_is_none e)
number_found (bad_row w f) e = absurd (refusal_is_none e)
number_found (below_first w l) e = absurd (refusal_is_none e)
number_found {bytes} {b} {k = k} (answering {k = j} w a) e =
    let number : j + 1 ≡ k = cc in
    let back : j ≡ k - 1 = omega arith in
    record { some = omega arith; answers = subst (Answers bytes b) back a }

module _ (p : Profile) (bytes : List ℕ) (b : PagesPerHour) {r : Result ℕ Refusal} (located : Locates p bytes b r) {k : ℕ} (e : r ≡ Ok k) where
  numbered : RowNumbered bytes b k
  numbered = go (verdict_of p) refl
    where
      go : (v : Verdict) → verdict_of p ≡ v → RowNumbered bytes b k
      go (Ok none) own = number_found (located.rest own) e
      go (Err refusal) own = absurd (refusal_is_none (sym (located.own own) ∙ e))

  pub sound_answers : Answers bytes b (k - 1)
  sound_answers = numbered.answers

  pub sound_number : 1 ≤ k
  sound_number = numbered.some

-- the answer that a verdict told goes with
module _ {p : Profile} {bytes : List ℕ} {b : PagesPerHour} where
  pub refused_located : {refusal : Refusal} → JudgesLookup p bytes b (Err refusal) → Locates p bytes b (Err refusal)
  unfolding verdict_in
  refused_located {refusal} told = go told.found told.located told.verdict
    where
      go : (r : Result ℕ Refusal) → Locates p bytes b r → Err refusal ≡ verdict_in r → Locates p bytes b (Err refusal)
      go (Ok k) located e = absurd (refusal_is_none e)
      go (Err other) located e =
          let same : other ≡ refusal = cc in
          subst (λ (x : Refusal). Locates p bytes b (Err x)) same located

  -- some row answers where the verdict is sound
  pub some_answers : {none : Unit {0}} → JudgesLookup p bytes b (Ok none) → (k : ℕ) × Answers bytes b k
  some_answers told =
      let row = some_answer told.found (sym told.verdict) in
      (row.0 - 1, sound_answers p bytes b told.located row.1)

  pub row_located : {none : Unit {0}} → JudgesLookup p bytes b (Ok none) → {k : ℕ} → Answers bytes b k → Locates p bytes b (Ok (k + 1))
  row_located told {k} a =
      let row = some_answer told.found (sym told.verdict) in
      let same = one_answers bytes b _ _ (sound_answers p bytes b told.located row.1) a in
      let number : row.0 ≡ k + 1 = omega (arith, same, sound_number p bytes b told.located row.1) in
      subst (Locates p bytes b) (row.1 ∙ ap (λ (m : ℕ). Ok m) number) told.located

-- on the same inputs: a refusal and the empty part, or no refusal and the sixteen bytes of a row
module _ (p : Profile) (bytes : List ℕ) (lies : ℕ × ℕ) (b : PagesPerHour) {r : List ℕ} {at : ℕ × ℕ} {v : Verdict}
    (part : LooksUp p bytes lies b r at) (told : JudgesLookup p bytes b v) where
  same_verdict : v ≡ verdict_in part.found
  same_verdict = told.verdict ∙ ap verdict_in (locates_one p bytes b told.located part.located)

  pub refused_empty : (v ≡ sound → ⊥) → r ≡ []
  unfolding verdict_in if_sound
  refused_empty unsound = go part.found refl
    where
      go : (found : Result ℕ Refusal) → part.found ≡ found → r ≡ []
      go (Ok k) e = absurd (unsound (same_verdict ∙ ap verdict_in e))
      go (Err refusal) e = rw e at part.holds

  pub sound_sixteen : v ≡ sound → length r ≡ 16
  unfolding if_sound place_found
  sound_sixteen e =
      let row = some_answer part.found (sym same_verdict ∙ e) in
      let k = row.0 - 1 in
      let there = (sound_answers p bytes b part.located row.1).there in
      let size = length-take-le 16 (drop (16 * k) bytes) (omega (arith, length-drop (16 * k) bytes)) in
      let holds : r ≡ bytes_at bytes k = rw row.1 at part.holds in
      ap length holds ∙ size

-- the part is empty exactly when the verdict is a refusal
pub lookups_agree : (p : Profile) (bytes : List ℕ) (lies : ℕ × ℕ) (b : PagesPerHour) {r : List ℕ} {at : ℕ × ℕ} {v : Verdict} →
    LooksUp p bytes lies b r at → JudgesLookup p bytes b v → (v ≡ sound → ⊥) ↔ (r ≡ [])
lookups_agree p bytes lies b part told = (
  refused_empty p bytes lies b part told,
  λ none e. absurd (omega (arith, sound_sixteen p bytes lies b part told e, ap length none)),
)

-- where a row is handed back, it is the row of the number told beside it
pub located_part : (p : Profile) (bytes : List ℕ) (lies : ℕ × ℕ) (b : PagesPerHour) {r : List ℕ} {at : ℕ × ℕ} {l : Result ℕ Refusal} {k : ℕ} →
    LooksUp p bytes lies b r at → Locates p bytes b l → l ≡ Ok k → r ≡ bytes_at bytes (k - 1)
unfolding if_sound place_found
located_part p bytes lies b part told e = rw (locates_one p bytes b part.located told ∙ e) at part.holds

-- Any two outcomes that a function's own contract allows for the same arguments are equal: `Post` is what the checker makes of its
-- clauses, so a contract that says less breaks this.

pub locate_one_outcome : (κs : _) (a : _) (r s : Result ℕ Refusal) (e e' : _) → locate-contract.Post κs a r e → locate-contract.Post κs a s e' → r ≡ s
locate_one_outcome κs a r s e e' one other = locates_one _ _ _ one other

pub judge_lookup_one_outcome : (κs : _) (a : _) (r s : Verdict) (e e' : _) → judge-lookup-contract.Post κs a r e → judge-lookup-contract.Post κs a s e' → r ≡ s
judge_lookup_one_outcome κs a r s e e' one other = judges_one _ _ _ one other

pub lookup_one_outcome : (κs : _) (a : _) (r s : _) (e e' : _) → lookup-contract.Post κs a r e → lookup-contract.Post κs a s e' → (r.now ≡ s.now) × (r.ref_ptr ≡ s.ref_ptr)
lookup_one_outcome κs a r s e e' one other = looks_up_one _ _ _ _ one other
