-- Any two outcomes that a function's own contract allows for the same arguments are equal: `Post` is what the checker makes of its
-- clauses, so a contract that says less breaks this. The operations behind these have one outcome. Assumes nothing.
use mathlib.Core.Path.{◌≡◌, ◌∙◌, sym, ap}
use mathlib.Core.List.{List}
use Prim.Native.Nat.{ℕ}
use Rattle.std.specs.Prelude.{Result}
use Rattle.model.specs.declared.Refusal.{Refusal}
use Rattle.profile_read.proofs.OneOutcome.{reads_one}
use Rattle.profile_write.proofs.OneOutcome.{writes_one}
use Rattle.score.proofs.OneOutcome.{scores_one}
use Rattle.choose.proofs.OneOutcome.{chosen_one}
use Rattle.zones.proofs.OneOutcome.{listed_one}
use Rattle.table.proofs.OneOutcome.{built_one}
use Rattle.table_lookup.proofs.OneOutcome.{locates_one}
use Rattle.exchange.specs.Numbers.{result_of, counted_of}
use Rattle.planner.specs.ForC.{CountsForC, LeavesForC, left_in}
use Rattle.planner.proofs.charopleth_read.Reads as charopleth-read-contract
use Rattle.planner.proofs.charopleth_write.Reads as charopleth-write-contract
use Rattle.planner.proofs.charopleth_score.Reads as charopleth-score-contract
use Rattle.planner.proofs.charopleth_choose.Reads as charopleth-choose-contract
use Rattle.planner.proofs.charopleth_zones.Reads as charopleth-zones-contract
use Rattle.planner.proofs.charopleth_table.Reads as charopleth-table-contract
use Rattle.planner.proofs.charopleth_lookup.Reads as charopleth-lookup-contract

-- the same answer is told as the same number
counts_alike : {One Other : Result ℕ Refusal → Type 0} {r s : ℕ} (one : CountsForC One r) (other : CountsForC Other s) → one.answer ≡ other.answer → r ≡ s
counts_alike one other same = one.result ∙ ap counted_of same ∙ sym other.result

-- and leaves the same numbers
leaves_alike : {A : Type 0} {Allows : Result A Refusal → Type 0} {numbers : A → List ℕ} {old : List ℕ} {r s : ℕ} {new other-new : List ℕ}
    (one : LeavesForC Allows numbers old r new) (other : LeavesForC Allows numbers old s other-new) → one.answer ≡ other.answer → (r ≡ s) × (new ≡ other-new)
leaves_alike {A} {numbers = numbers} {old = old} one other same = (
  one.result ∙ ap result_of same ∙ sym other.result,
  one.array ∙ ap (λ (a : Result A Refusal). left_in numbers a old) same ∙ sym other.array,
)

pub charopleth_read_one_outcome : (κs : _) (a : _) (r s : ℕ) (e e' : _) →
    charopleth-read-contract.Post κs a r e → charopleth-read-contract.Post κs a s e' → (r ≡ s) × (e.1.0.now ≡ e'.1.0.now)
charopleth_read_one_outcome κs a r s e e' one other = leaves_alike one other (reads_one _ one.allowed other.allowed)

pub charopleth_write_one_outcome : (κs : _) (a : _) (r s : ℕ) (e e' : _) →
    charopleth-write-contract.Post κs a r e → charopleth-write-contract.Post κs a s e' → (r ≡ s) × (e.1.1.0.now ≡ e'.1.1.0.now)
charopleth_write_one_outcome κs a r s e e' one other =
    let same = writes_one _ _ one.allowed other.allowed in
    (counts_alike one other same.0, same.1)

pub charopleth_score_one_outcome : (κs : _) (a : _) (r s : ℕ) (e e' : _) →
    charopleth-score-contract.Post κs a r e → charopleth-score-contract.Post κs a s e' → (r ≡ s) × (e.1.1.1.0.now ≡ e'.1.1.1.0.now)
charopleth_score_one_outcome κs a r s e e' one other = leaves_alike one other (scores_one _ _ one.allowed other.allowed)

pub charopleth_choose_one_outcome : (κs : _) (a : _) (r s : ℕ) (e e' : _) →
    charopleth-choose-contract.Post κs a r e → charopleth-choose-contract.Post κs a s e' → (r ≡ s) × (e.1.1.1.0.now ≡ e'.1.1.1.0.now)
charopleth_choose_one_outcome κs a r s e e' one other = leaves_alike one other (chosen_one _ _ one.allowed other.allowed)

pub charopleth_zones_one_outcome : (κs : _) (a : _) (r s : ℕ) (e e' : _) →
    charopleth-zones-contract.Post κs a r e → charopleth-zones-contract.Post κs a s e' → (r ≡ s) × (e.1.1.0.now ≡ e'.1.1.0.now)
charopleth_zones_one_outcome κs a r s e e' one other =
    let same = listed_one _ _ one.allowed other.allowed in
    (counts_alike one other same.0, same.1)

pub charopleth_table_one_outcome : (κs : _) (a : _) (r s : ℕ) (e e' : _) →
    charopleth-table-contract.Post κs a r e → charopleth-table-contract.Post κs a s e' → (r ≡ s) × (e.1.1.0.now ≡ e'.1.1.0.now)
charopleth_table_one_outcome κs a r s e e' one other =
    let same = built_one _ _ one.allowed other.allowed in
    (counts_alike one other same.0, same.1)

pub charopleth_lookup_one_outcome : (κs : _) (a : _) (r s : ℕ) (e e' : _) →
    charopleth-lookup-contract.Post κs a r e → charopleth-lookup-contract.Post κs a s e' → r ≡ s
charopleth_lookup_one_outcome κs a r s e e' one other = counts_alike one other (locates_one _ _ _ one.allowed other.allowed)
