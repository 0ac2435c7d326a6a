-- `codec::pack_widths` meets its contract: before each turn the word stands above the fields still to come.
-- Assumes nothing.
use Rattle.codec.proofs.Fields.{Packed}
use Rattle.codec.proofs.pack_widths.Given as goal

abbrev pub invariant-loop-width : goal.invariant-loop-width
invariant-loop-width g l = Packed l.fn.widths l.fn.fields l.word l.width-iterator.a.rest.now l.width-iterator.b.rest.now
