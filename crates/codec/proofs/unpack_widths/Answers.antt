-- `codec::unpack_widths` meets its contract: before each turn the first k fields stand, and the rest of the word holds the others.
-- Assumes nothing.
use native.Mathlib.Omega.{arith}
use mathlib.Core.Path.{sym, ◌∙◌}
use lib.ListN.{length-replicate}
use lib.Pow.{pow_pos}
use Rattle.codec.proofs.Fields.{turn, nothing_cut, one_cut, all_cut}
use Rattle.codec.proofs.unpack_widths.Goals as goal

pub loop-k-init : goal.loop-k-init
loop-k-init g c = nothing_cut c.requires (length-replicate g.row.N 0 ∙ sym c.told-widths) c.ranges.word.fits

pub overflow_sub-after : goal.overflow_sub-after
overflow_sub-after g c = (turn c.requires (omega arith) c.loop-k.invariant).covered

pub overflow_shr-fields : goal.overflow_shr-fields
overflow_shr-fields g c = (turn c.requires (omega arith) c.loop-k.invariant).within

pub overflow_cast-fields : goal.overflow_cast-fields
overflow_cast-fields g c = record { fits = (turn c.requires (omega arith) c.loop-k.invariant).field_small }

pub overflow_shl-left : goal.overflow_shl-left
overflow_shl-left g c = (turn c.requires (omega arith) c.loop-k.invariant).within

pub nonzero_rem-left : goal.nonzero_rem-left
nonzero_rem-left g c = rw (turn c.requires (omega arith) c.loop-k.invariant).one_above (pow_pos _)

pub loop-k-preserved : goal.loop-k-preserved
loop-k-preserved g c =
    rw (turn c.requires (omega arith) c.loop-k.invariant).one_above (one_cut (omega arith) c.loop-k.invariant)

pub returns : goal.returns
returns g c = all_cut (omega arith) c.loop-k.invariant
