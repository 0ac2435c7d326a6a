-- `table_enter::StairsKeepWhere::could_take` meets its contract: over the budget, or covered, nothing enters.
-- Assumes nothing.
use mathlib.Core.Path.{◌≡◌, sym, ◌∙◌}
use mathlib.Core.Bool.{true}
use Prim.Native.Nat.{◌<◌, zero-le}
use borrow.Author.Tests.{tests}
use Rattle.std.proofs.Common.{rules}
use Rattle.table_stairs.specs.Stairs.{most, covered}
use Rattle.table_stairs.proofs.Updates.{keeps_over, keeps_covered}
use Rattle.table_enter.proofs.StairsKeepWhere.could_take.Goals as goal

pub returns-then-le : goal.returns-then-le
returns-then-le c = λ old.
    let is : c.covers.result ≡ covered c.args.need_floor.0 c.args.floor c.args.self.now.rows = cc in
    let e : c.covers.result ≡ true = search (rules, tests) in
    keeps_covered most c.args.budget.0 c.args.self.now c.args.need_floor.0 c.args.floor (sym is ∙ e)

pub returns-else-le : goal.returns-else-le
returns-else-le c = λ over q m ts k≤ l≤.
    let more : c.args.budget.0 < c.args.need_floor.0 = search (rules, tests) in
    keeps_over most c.args.budget.0 c.args.self.now more q m ts k≤ zero-le
