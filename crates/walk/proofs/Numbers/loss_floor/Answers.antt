-- `walk::Numbers::loss_floor` meets its contract: before each turn the sum is the floor of the jobs that were passed.
-- Assumes nothing.
use Rattle.std.proofs.Common.{rules, ◌≡◌, ◌+◌, ◌-◌, ◌<◌, arith, max, slice_index_or}
use Rattle.std.proofs.lemmas.List.{places}
use borrow.Rule.Slice.PartMut.{mid_of}
use Rattle.walk.specs.declared.JobNumbers.{JobNumbers}
use Rattle.walk.specs.Numbers.{no_numbers, numbers_at}
use Rattle.walk.proofs.FloorTurn.{floor_fits, sum_fits, one_summed, all_summed}
use Rattle.walk.proofs.Numbers.loss_floor.Goals.{After-max}
use Rattle.walk.proofs.Numbers.loss_floor.Goals as goal

abbrev job : After-max → JobNumbers
job c = let a = c.args in slice_index_or (mid_of a.from (a.self.now.n - a.from) a.self.now.jobs) c.loop-j.j-index no_numbers

less : (c : After-max) → c.args.from + c.loop-j.j-index < c.args.self.now.n
less c = grind (arith, places)

here : (c : After-max) → job c ≡ numbers_at c.args.self.now (c.args.from + c.loop-j.j-index)
here c = grind (arith, places)

longer : (c : After-max) → c.max.result.0 ≡ max (job c).lo.0 c.args.t.0
longer c = search rules

pub loss_at-floor-requires : goal.loss_at-floor-requires
loss_at-floor-requires c =
    let m = (goal.at.loss_at-floor-requires c).After-max in
    floor_fits c.requires c.loop-j.invariant (less m) (here m) (longer m)

pub overflow_add-floor : goal.overflow_add-floor
overflow_add-floor c =
    let m = (goal.at.overflow_add-floor c).After-max in
    omega (arith, c.loss_at-floor.ensures, sum_fits c.requires c.loop-j.invariant (less m) (here m) (longer m))

pub loop-j-preserved : goal.loop-j-preserved
loop-j-preserved c =
    let m = (goal.at.loop-j-preserved c).After-max in
    rw c.loss_at-floor.ensures (one_summed c.requires c.loop-j.invariant (less m) (here m) (longer m))

pub returns : goal.returns
returns c = λ g js h. all_summed c.loop-j.invariant (grind (arith, places)) js h
