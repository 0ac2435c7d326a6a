-- `profile_write::fill` meets its contract: after k turns the first byte and k records stand at the front.
-- Assumes nothing.
use mathlib.Core.Path.{◌≡◌}
use Rattle.profile_write.proofs.Records.{filled}
use Rattle.profile_write.proofs.fill.Given as goal

abbrev pub invariant-loop-k : goal.invariant-loop-k
invariant-loop-k l = l.out ≡ filled l.p l.fn.out l.k
