-- `table_stairs::replace` meets its contract: the rows behind are pasted to the place behind the new one.
-- Assumes nothing.
use mathlib.Core.Path.{◌∙◌, ap}
use mathlib.Core.List.{List}
use Prim.Native.Nat.{◌+◌, ◌-◌}
use lib.ListN.{set, take}
use Rattle.table_stairs.specs.Stairs.{Stair}
use Rattle.table_stairs.proofs.Entering.{pasted}
use Rattle.table_stairs.proofs.replace.Goals as goal

pub returns-clause-rows : goal.returns-clause-rows
returns-clause-rows c =
    let a = c.args in
    let r = c.requires in
    ap (λ (rows : List Stair). take (a.i + 1 + (a.end - a.j)) (set rows a.i a.row)) c.copy_within.ensures.after ∙ pasted a.rows.now a.i a.j a.end a.row r.i_le_j r.j_le_end r.end_bound r.room
