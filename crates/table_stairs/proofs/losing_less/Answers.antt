-- `table_stairs::losing_less` meets its contract: the rows of whole blocks are counted off, then those of whole parts of a block, then the rows
-- of one part.
-- Assumes nothing.
use mathlib.Core.Path.{◌≡◌, ◌∙◌, ap}
use Prim.Native.Nat.{◌+◌, ◌*◌}
use native.Mathlib.Omega.{arith}
use lib.ListN.{length, take, drop}
use Rattle.std.proofs.lemmas.List.{take_rest}
use Rattle.table_stairs.specs.Stairs.{losing_less}
use Rattle.table_stairs.specs.Ordered.{Staircase}
use Rattle.table_stairs.proofs.Places.{staircase_part, losing_less_upto}
use Rattle.table_stairs.proofs.Counting.{counted_more, all_counted}
use Rattle.table_stairs.proofs.losing_less.Goals.{After-one_part-block, After-one_part-part, After-parts_losing_less}
use Rattle.table_stairs.proofs.losing_less.Goals as goal

-- the block that is left, and the part
block_is : (c : After-one_part-block) → c.one_part-block.result.now ≡ take 36 (drop (36 * c.parts_losing_less-blocks.result) c.args.rows.now)
block_is c = c.one_part-block.ensures ∙ ap (take 36) (take_rest c.args.rows.now (36 * c.parts_losing_less-blocks.result))

block_order : (c : After-one_part-block) → Staircase c.one_part-block.result.now
block_order c = rw (block_is c) (staircase_part (36 * c.parts_losing_less-blocks.result) 36 c.args.rows.now c.requires.in_order)

part_is : (c : After-one_part-part) → c.one_part-part.result.now ≡ take 6 (drop (6 * c.parts_losing_less-parts.result) c.one_part-block.result.now)
part_is c = c.one_part-part.ensures ∙ ap (take 6) (take_rest c.one_part-block.result.now (6 * c.parts_losing_less-parts.result))

pub parts_losing_less-parts-requires-clause-in_order : goal.parts_losing_less-parts-requires-clause-in_order
parts_losing_less-parts-requires-clause-in_order c = block_order (goal.at.parts_losing_less-parts-requires-clause-in_order c).After-one_part-block

pub parts_losing_less-requires-clause-in_order : goal.parts_losing_less-requires-clause-in_order
parts_losing_less-requires-clause-in_order c =
    let at = goal.at.parts_losing_less-requires-clause-in_order c in
    rw (part_is at.After-one_part-part) (staircase_part (6 * c.parts_losing_less-parts.result) 6 c.one_part-block.result.now (block_order at.After-one_part-block))

-- block, part and rows together
counted : (c : After-parts_losing_less) → 36 * c.parts_losing_less-blocks.result + (6 * c.parts_losing_less-parts.result + c.parts_losing_less.result) ≡ length (losing_less c.args.loss c.args.rows.now)
counted c =
    let at = goal.at.returns-clause-number c in
    let rows = c.args.rows.now in
    let l = c.args.loss in
    let within = all_counted c.one_part-part.result.now l c.parts_losing_less.result c.parts_losing_less.ensures in
    let in_part = rw (part_is at.After-one_part-part) at within in
    let in_block = counted_more c.one_part-block.result.now 6 l c.parts_losing_less-parts.result c.parts_losing_less.result (block_order at.After-one_part-block) (omega arith) c.parts_losing_less-parts.ensures in_part in
    counted_more rows 36 l c.parts_losing_less-blocks.result _ c.requires.in_order (omega arith) c.parts_losing_less-blocks.ensures (rw (block_is at.After-one_part-block) at in_block)

pub returns-clause-number : goal.returns-clause-number
returns-clause-number c = counted c

pub returns-clause-upto : goal.returns-clause-upto
returns-clause-upto c = omega (arith, counted c, losing_less_upto c.args.loss c.args.rows.now)
