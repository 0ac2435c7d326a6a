-- `planner::charopleth_zones` meets its contract: the listing for the profile that the numbers hold, handed on.
-- Assumes nothing.
use Prim.Native.Nat.{ℕ}
use Rattle.std.specs.Prelude.{Result}
use Rattle.model.specs.declared.Profile.{Profile}
use Rattle.model.specs.declared.Refusal.{Refusal}
use Rattle.zones.specs.Zones.{Listed}
use Rattle.planner.proofs.Left.{count_told}
use Rattle.planner.proofs.charopleth_zones.Goals as goal

pub returns : goal.returns
returns c =
    let room = c.args.room.now in
    let Allows : Profile → Result ℕ Refusal → Type 0 = λ p a. Listed p room a c.list_zones.new.out in
    count_told Allows c.profile.ensures c.list_zones.ensures c.counted.ensures
