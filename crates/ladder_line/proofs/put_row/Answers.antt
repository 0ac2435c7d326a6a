-- `ladder_line::put_row` meets its contract: ten digits, twenty-one bytes of loss, forty of periods and the line feed at most.
-- Assumes nothing.
use Rattle.ladder_line.specs.Lines.{row_line}
use Rattle.ladder_line.proofs.Decimals.{decimal_few, room_for, number_put}
use Rattle.ladder_line.proofs.Putting.{put_then}
use native.Mathlib.Omega.{arith}
use Rattle.ladder_line.proofs.put_row.Goals as goal

pub put_number-after_start-requires : goal.put_number-after_start-requires
put_number-after_start-requires c = omega (arith, decimal_few 9 c.from.result (omega arith))

pub put_spaced-after_loss-requires : goal.put_spaced-after_loss-requires
put_spaced-after_loss-requires c = room_for _ _ (omega (arith, decimal_few 9 c.from.result (omega arith)))

pub put_periods-after_periods-requires : goal.put_periods-after_periods-requires
put_periods-after_periods-requires c =
    let to = number_put _ c.put_spaced-after_loss.ensures in
    record { printable = c.requires; room = omega (arith, decimal_few 9 c.from.result (omega arith)) }

pub put-requires : goal.put-requires
put-requires c =
    let to = number_put _ c.put_spaced-after_loss.ensures in
    omega (arith, decimal_few 9 c.from.result (omega arith))

pub returns : goal.returns
unfolding row_line
returns c =
    rw (← c.from.ensures)
    (put_then (put_then (put_then c.put_number-after_start.ensures c.put_spaced-after_loss.ensures) c.put_periods-after_periods.ensures.puts) c.put.ensures)
