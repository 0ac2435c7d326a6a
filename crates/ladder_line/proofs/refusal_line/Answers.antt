-- `ladder_line::refusal_line` meets its contract: the word, the number and the detail, one after the other.
-- Assumes nothing.
use mathlib.Core.Path.{◌∙◌}
use Rattle.ladder_line.specs.Lines.{refusal_line}
use Rattle.ladder_line.proofs.Putting.{put_then}
use Rattle.ladder_line.proofs.refusal_line.Goals as goal

pub returns : goal.returns
unfolding refusal_line
returns c =
    rw (← c.from-number.ensures ∙ c.number.ensures, ← c.detail-detail.ensures)
    (put_then (put_then (put_then c.put-after_word.ensures c.put_spaced-after_number.ensures) c.put_spaced-after_detail.ensures) c.put.ensures)
