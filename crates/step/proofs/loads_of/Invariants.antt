-- `step::loads_of` meets its contract: before each turn the loads of the jobs before place k are in, and the greatest of their metadata is
-- known. Assumes nothing.
use Rattle.std.proofs.Common.{◌≡◌}
use Rattle.step.specs.Step.{greatest_before, LoadsTo}
use Rattle.step.proofs.loads_of.Given as goal

abbrev pub invariant-loop-k : goal.invariant-loop-k
invariant-loop-k l = (l.greatest ≡ greatest_before l.p l.k) × LoadsTo l.p l.k l.loads
