-- Any two outcomes that a function's own contract allows for the same arguments are equal, as the planner's are: what C links promises what
-- the planner's function promises, so a clause that says less there breaks this. Assumes nothing.
use mathlib.Core.Path.{◌≡◌}
use Prim.Native.Nat.{ℕ}
use Rattle.planner.proofs.OneOutcome as planner-outcomes
use Rattle.planner_c.proofs.charopleth_read.Reads as read-contract
use Rattle.planner_c.proofs.charopleth_write.Reads as write-contract
use Rattle.planner_c.proofs.charopleth_score.Reads as score-contract
use Rattle.planner_c.proofs.charopleth_choose.Reads as choose-contract
use Rattle.planner_c.proofs.charopleth_zones.Reads as zones-contract
use Rattle.planner_c.proofs.charopleth_table.Reads as table-contract
use Rattle.planner_c.proofs.charopleth_lookup.Reads as lookup-contract

pub charopleth_read_one_outcome : (κs : _) (a : _) (r s : ℕ) (e e' : _) →
    read-contract.Post κs a r e → read-contract.Post κs a s e' → (r ≡ s) × (e.1.0.now ≡ e'.1.0.now)
charopleth_read_one_outcome = planner-outcomes.charopleth_read_one_outcome

pub charopleth_write_one_outcome : (κs : _) (a : _) (r s : ℕ) (e e' : _) →
    write-contract.Post κs a r e → write-contract.Post κs a s e' → (r ≡ s) × (e.1.1.0.now ≡ e'.1.1.0.now)
charopleth_write_one_outcome = planner-outcomes.charopleth_write_one_outcome

pub charopleth_score_one_outcome : (κs : _) (a : _) (r s : ℕ) (e e' : _) →
    score-contract.Post κs a r e → score-contract.Post κs a s e' → (r ≡ s) × (e.1.1.1.0.now ≡ e'.1.1.1.0.now)
charopleth_score_one_outcome = planner-outcomes.charopleth_score_one_outcome

pub charopleth_choose_one_outcome : (κs : _) (a : _) (r s : ℕ) (e e' : _) →
    choose-contract.Post κs a r e → choose-contract.Post κs a s e' → (r ≡ s) × (e.1.1.1.0.now ≡ e'.1.1.1.0.now)
charopleth_choose_one_outcome = planner-outcomes.charopleth_choose_one_outcome

pub charopleth_zones_one_outcome : (κs : _) (a : _) (r s : ℕ) (e e' : _) →
    zones-contract.Post κs a r e → zones-contract.Post κs a s e' → (r ≡ s) × (e.1.1.0.now ≡ e'.1.1.0.now)
charopleth_zones_one_outcome = planner-outcomes.charopleth_zones_one_outcome

pub charopleth_table_one_outcome : (κs : _) (a : _) (r s : ℕ) (e e' : _) →
    table-contract.Post κs a r e → table-contract.Post κs a s e' → (r ≡ s) × (e.1.1.0.now ≡ e'.1.1.0.now)
charopleth_table_one_outcome = planner-outcomes.charopleth_table_one_outcome

pub charopleth_lookup_one_outcome : (κs : _) (a : _) (r s : ℕ) (e e' : _) →
    lookup-contract.Post κs a r e → lookup-contract.Post κs a s e' → r ≡ s
charopleth_lookup_one_outcome = planner-outcomes.charopleth_lookup_one_outcome
