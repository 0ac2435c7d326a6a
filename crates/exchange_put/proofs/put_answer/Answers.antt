-- `exchange_put::put_answer` meets its contract: need and loss, then before each turn the periods from the k-th on are left to store.
-- Assumes nothing.
use mathlib.Core.Path.{ap}
use mathlib.Core.List.{[], ◌∷◌, map}
use Prim.Native.Nat.{◌+◌}
use lib.ListN.{get_or, set}
use Rattle.model.specs.declared.Seconds.{Seconds}
use Rattle.model.specs.Model.{seconds}
use Rattle.model.proofs.Entries.{entries_step, entries_end}
use Rattle.exchange.specs.Numbers.{answer_of}
use Rattle.exchange_put.proofs.Stores.{run_stored, all_stored}
use native.Mathlib.Omega.{arith}
use Rattle.exchange_put.proofs.put_answer.Invariants.{left}
use Rattle.exchange_put.proofs.put_answer.Goals as goal

pub loop-k-preserved : goal.loop-k-preserved
loop-k-preserved c =
    let l = c.loop-k in
    let ts = c.args.periods in
    let parts = ap (map (λ (x : Seconds). x.0)) (entries_step (seconds 0) ts l.k 8 (omega arith)) in
    let stored = ap (set l.answer (3 + l.k)) c.from-in-loop-k.ensures in
    run_stored ((get_or ts l.k (seconds 0)).0 ∷ []) (left ts (l.k + 1)) parts stored (omega arith) l.invariant

pub returns : goal.returns
unfolding answer_of
returns c =
    let l = c.loop-k in
    rw (c.from.ensures, c.from-2.ensures) at
    (all_stored (ap (map (λ (x : Seconds). x.0)) (entries_end (seconds 0) c.args.periods l.k 8 (omega arith))) l.invariant)
