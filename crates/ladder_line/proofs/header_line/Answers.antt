-- `ladder_line::header_line` meets its contract: the words and the numbers, one after the other.
-- Assumes nothing.
use Rattle.ladder_line.specs.Lines.{header_line}
use Rattle.ladder_line.proofs.Putting.{put_then}
use Rattle.ladder_line.proofs.header_line.Goals as goal

pub returns : goal.returns
unfolding header_line
returns c =
    rw (← c.from.ensures)
    (put_then (put_then (put_then (put_then c.put-after_jobs.ensures c.put_spaced-after_n.ensures) c.put-after_rows.ensures) c.put_spaced-after_count.ensures) c.put.ensures)
