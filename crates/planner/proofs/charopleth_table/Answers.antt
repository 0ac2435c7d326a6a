-- `planner::charopleth_table` meets its contract: the table for the profile that the numbers hold, handed on.
-- Assumes nothing.
use Prim.Native.Nat.{ℕ}
use Rattle.std.specs.Prelude.{Result}
use Rattle.model.specs.declared.Profile.{Profile}
use Rattle.model.specs.declared.Refusal.{Refusal}
use Rattle.table.specs.Table.{Built}
use Rattle.planner.proofs.Left.{count_told}
use Rattle.planner.proofs.charopleth_table.Goals as goal

pub returns : goal.returns
returns c =
    let room = c.args.room.now in
    let Allows : Profile → Result ℕ Refusal → Type 0 = λ p a. Built p room a c.build_table.new.out in
    count_told Allows c.profile.ensures c.build_table.ensures c.counted.ensures
