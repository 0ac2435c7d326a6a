-- `codec::unpack_widths` meets its contract: before each turn the first k fields stand, and the rest of the word holds the others.
-- Assumes nothing.
use Rattle.codec.proofs.Fields.{Cut}
use Rattle.codec.proofs.unpack_widths.Given as goal

abbrev pub invariant-loop-k : goal.invariant-loop-k
invariant-loop-k g l = Cut l.widths l.word l.fields l.left l.after l.k
