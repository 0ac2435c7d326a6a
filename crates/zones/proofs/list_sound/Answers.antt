-- `zones::list_sound` meets its contract: the verdict on the count of the profile's zones; only what passes that is written.
-- Assumes nothing.
use mathlib.Core.Path.{sym, ◌∙◌}
use Rattle.std.proofs.lemmas.Result.{err_from_is_err_and}
use Rattle.zones.proofs.Outcome.{within_bounds, few_zones, count_listed, all_listed}
use Rattle.zones.proofs.list_sound.Goals as goal

pub write_zones-count-requires : goal.write_zones-count-requires
write_zones-count-requires c = record { bounded = within_bounds _ c.requires c.from-intervals.ensures; few = few_zones _ c.requires c.from-intervals.ensures }

pub returns-in_err-judge_count : goal.returns-in_err-judge_count
returns-in_err-judge_count c =
    let r = err_from_is_err_and c.from_residual.result c.from_residual.ensures.1 in
    rw (r.1, r.2) (count_listed _ c.requires c.from-intervals.ensures c.write_zones-count.ensures (sym c.in_err-judge_count.was ∙ c.judge_count.ensures))

pub write_zones-requires : goal.write_zones-requires
write_zones-requires c = record { bounded = within_bounds _ c.requires c.from-intervals.ensures; few = few_zones _ c.requires c.from-intervals.ensures }

pub returns : goal.returns
returns c = all_listed _ c.requires c.from-intervals.ensures c.write_zones-count.ensures (sym c.in_ok-judge_count.was ∙ c.judge_count.ensures) c.write_zones.ensures
