-- `planner::charopleth_read` meets its contract: the reading, handed on.
-- Assumes nothing.
use Rattle.planner.proofs.Left.{refusal_left, sound_left}
use Rattle.planner.proofs.charopleth_read.Goals as goal

pub returns-in-Ok : goal.returns-in-Ok
returns-in-Ok c = sound_left c.read_profile.ensures c.in-Ok.is c.put_values.ensures

pub returns-in-Err : goal.returns-in-Err
returns-in-Err c = refusal_left c.read_profile.ensures c.in-Err.is c.result.ensures
