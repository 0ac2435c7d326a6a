-- `planner::charopleth_lookup` meets its contract: the row found for the profile that the numbers hold, handed on.
-- Assumes nothing.
use Prim.Native.Nat.{ℕ}
use Rattle.std.specs.Prelude.{Result}
use Rattle.model.specs.declared.Profile.{Profile}
use Rattle.model.specs.declared.Refusal.{Refusal}
use Rattle.model.specs.Model.{pages_per_hour}
use Rattle.table_lookup.specs.Lookup.{Locates}
use Rattle.planner.proofs.Left.{count_told}
use Rattle.planner.proofs.charopleth_lookup.Goals as goal

pub returns : goal.returns
returns c =
    let a = c.args in
    let Allows : Profile → Result ℕ Refusal → Type 0 = λ p r. Locates p a.table.now (pages_per_hour a.budget) r in
    count_told Allows c.profile.ensures c.locate.ensures c.counted.ensures
