-- `table_enter::StairsKeepWhere::is_done` meets its contract: a loss that reaches the bound does not enter.
-- Assumes nothing.
use mathlib.Core.Path.{ap}
use native.Mathlib.Omega.{arith}
use borrow.Author.Tests.{leb-true}
use Rattle.table_stairs.specs.Stairs.{Stairs, most}
use Rattle.table_stairs.proofs.Updates.{keeps_bound}
use Rattle.table_enter.proofs.StairsKeepWhere.is_done.Goals as goal

pub returns : goal.returns
returns c = λ done budget. keeps_bound most budget.0 c.args.self.now (omega (arith, leb-true _ _ done, ap (λ (s : Stairs). s.bound) c.self.view_is))
