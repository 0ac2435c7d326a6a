-- Any two outcomes that a public contract of this crate allows are equal: the answer, and the bytes of the lent buffer.
-- Assumes nothing.
use mathlib.Core.Path.{◌≡◌, refl, ◌∙◌, sym, subst}
use mathlib.Core.List.{List}
use Prim.Native.Nat.{ℕ}
use Rattle.std.specs.Prelude.{Result, Ok, Err}
use Rattle.model.specs.declared.Profile.{Profile}
use Rattle.model.specs.declared.Refusal.{Refusal}
use Rattle.model.proofs.Verdicts.{refusal_is_none}
use Rattle.profile_read.specs.Reading.{Reads}
use Rattle.profile_read.proofs.OneOutcome.{reads_one}
use Rattle.table.specs.Table.{Built}
use Rattle.table.proofs.OneOutcome.{built_one}
use Rattle.ladder_listing.specs.declared.Listing.{Listing}
use Rattle.ladder_listing.specs.Listing.{Prepared, unread, unbuilt, built, Prepares, Prints}
use Rattle.ladder_listing.proofs.prepare.Reads as prepare-contract
use Rattle.ladder_listing.proofs.line.Reads as line-contract

module _ (input old : List ℕ) where
  read_one : {p q : Profile} → Reads input (Ok p) → Reads input (Ok q) → p ≡ q
  read_one one other = let same = reads_one input one other in cc

  not_both : {refusal : Refusal} {p : Profile} → Reads input (Err refusal) → Reads input (Ok p) → ⊥
  not_both one other = refusal_is_none (reads_one input one other)

  -- two listings built for one input
  build_one : {p q : Profile} {r s : Result ℕ Refusal} {new other-new : List ℕ} → Reads input (Ok p) → Reads input (Ok q) → Built p old r new → Built q old s other-new
      → (p ≡ q) × (r ≡ s) × (new ≡ other-new)
  build_one {p} {q} {r} {s} {new} {other-new} one other b d =
      let same = read_one one other in
      let alike = built_one p old b (subst (λ (x : Profile). Built x old s other-new) (sym same) d) in
      (same, alike.0, alike.1)

  prepared_one : {l m : Result Listing Refusal} {new other-new : List ℕ} → Prepared input old l new → Prepared input old m other-new → (l ≡ m) × (new ≡ other-new)
  prepared_one (unread one) (unread other) = let e = reads_one input one other in (let same = e in cc, refl)
  prepared_one (unread one) (unbuilt other d) = absurd (not_both one other)
  prepared_one (unread one) (built other d) = absurd (not_both one other)
  prepared_one (unbuilt one b) (unread other) = absurd (not_both other one)
  prepared_one (unbuilt one b) (unbuilt other d) = let same = build_one one other b d in (cc, same.2)
  prepared_one (unbuilt one b) (built other d) = absurd (refusal_is_none (build_one one other b d).1)
  prepared_one (built one b) (unread other) = absurd (not_both other one)
  prepared_one (built one b) (unbuilt other d) = absurd (refusal_is_none (sym (build_one one other b d).1))
  prepared_one (built one b) (built other d) = let same = build_one one other b d in (cc, same.2)

pub prepares_one : (input old : List ℕ) {l m : Result Listing Refusal} {new other-new : List ℕ} → Prepares input old l new → Prepares input old m other-new →
    (l ≡ m) × (new ≡ other-new)
prepares_one input old one other = prepared_one input old one.outcome other.outcome

pub prints_one : (l : Result Listing Refusal) (table : List ℕ) (k : ℕ) (old : List ℕ) {r s : ℕ} {new other-new : List ℕ} →
    Prints l table k old r new → Prints l table k old s other-new → (r ≡ s) × (new ≡ other-new)
prints_one l table k old one other = (one.size ∙ sym other.size, one.text ∙ sym other.text)

-- Any two outcomes that a function's own contract allows for the same arguments are equal: `Post` is what the checker makes of its
-- clauses, so a contract that says less breaks this.

pub prepare_one_outcome : (κs : _) (a : _) (r s : Result Listing Refusal) (e e' : _) → prepare-contract.Post κs a r e → prepare-contract.Post κs a s e' →
    (r ≡ s) × (e.1.0.now ≡ e'.1.0.now)
prepare_one_outcome κs a r s e e' one other = prepares_one _ _ one other

pub line_one_outcome : (κs : _) (a : _) (r s : ℕ) (e e' : _) → line-contract.Post κs a r e → line-contract.Post κs a s e' →
    (r ≡ s) × (e.1.1.1.0.now ≡ e'.1.1.1.0.now)
line_one_outcome κs a r s e e' one other = prints_one _ _ _ _ one.0 other.0
