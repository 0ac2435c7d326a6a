-- `planner::charopleth_write` meets its contract: the writing of the profile that the numbers hold, handed on.
-- Assumes nothing.
use Prim.Native.Nat.{ℕ}
use Rattle.std.specs.Prelude.{Result}
use Rattle.model.specs.declared.Profile.{Profile}
use Rattle.model.specs.declared.Refusal.{Refusal}
use Rattle.profile_write.specs.Writing.{Writes}
use Rattle.planner.proofs.Left.{count_told}
use Rattle.planner.proofs.charopleth_write.Goals as goal

pub returns : goal.returns
returns c =
    let room = c.args.room.now in
    let Allows : Profile → Result ℕ Refusal → Type 0 = λ p a. Writes p room a c.write_profile.new.out in
    count_told Allows c.profile.ensures c.write_profile.ensures c.counted.ensures
