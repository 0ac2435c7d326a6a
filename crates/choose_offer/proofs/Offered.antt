-- Any periods may be offered to the best so far, where they are at most eight: `Pre` is what the checker makes of the clauses that
-- `offer` requires, so a contract that asks more of them breaks this. Assumes nothing.
use Prim.Native.Nat.{◌≤◌, ◌<◌}
use native.Mathlib.Omega.{arith}
use lib.ListN.{length}
use Rattle.model.specs.Most.{most_need}
use Rattle.walk.specs.Laws.{no_loss}
use Rattle.choose_offer.proofs.BestKeepWhere.offer.Reads as offer-contract

-- The arguments are what is kept, the budget, the need, the loss, the periods.
pub any_periods : (κs : _) (a : _) → let asked = offer-contract.Pre κs a in
    a.1.1.0.whole.0 ≤ most_need → a.1.1.1.0 < no_loss → length a.1.1.1.1.0.now ≤ 8 → asked
any_periods κs a need loss few = (tt, (need, (loss, (few, λ k d lt. search arith))))
