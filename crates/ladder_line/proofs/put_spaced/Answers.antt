-- `ladder_line::put_spaced` meets its contract: a space, then the number.
-- Assumes nothing.
use Rattle.ladder_line.specs.Lines.{spaced}
use Rattle.ladder_line.proofs.Putting.{put_then}
use Rattle.ladder_line.proofs.put_spaced.Goals as goal

pub returns : goal.returns
unfolding spaced
returns c = put_then c.put-space.ensures c.put_number.ensures
