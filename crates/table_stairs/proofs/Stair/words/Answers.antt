-- `table_stairs::Stair::words` meets its contract: the words hold the need and the periods, and zeros.
-- Assumes nothing.
use mathlib.Core.Path.{refl, ◌∙◌, ap}
use mathlib.Core.List.{map}
use Rattle.model.specs.Model.{seconds}
use Rattle.table_row.proofs.Words.{seconds_again}
use Rattle.table_stairs.proofs.Stair.words.Goals as goal

pub returns : goal.returns
returns c = rw (← c.self.view_is) (record { start = refl; periods = ap (map seconds) c.self.invariant.nothing_behind ∙ seconds_again _ })
