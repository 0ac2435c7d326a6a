-- `exchange::as_periods` meets its contract: each number in its place.
-- Assumes nothing.
use lib.ListN.{get_or}
use Rattle.std.proofs.Common.{arith}
use Rattle.std.proofs.lemmas.Grind.{common_steps}
use Rattle.std.proofs.lemmas.List.FromFn.{fill_by_all}
use Rattle.model.specs.Model.{seconds, entries}
use Rattle.exchange.proofs.as_periods.Goals as goal

pub returns : goal.returns
unfolding entries
returns c =
    let mapped = c.map.ensures.items in
    fill_by_all (λ k. seconds (get_or c.args.periods.now k 0)) c.map.result 8 (seconds 0) mapped.long (λ k h. grind (arith, common_steps, mapped.at k 0 (seconds 0) h))
