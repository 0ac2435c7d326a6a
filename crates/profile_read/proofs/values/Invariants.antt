-- `profile_read::values` meets its contract: after k turns the first k records' jobs stand before zeros.
-- Assumes nothing.
use mathlib.Core.Path.{◌≡◌}
use Rattle.profile_read.proofs.Records.{jobs_read}
use Rattle.profile_read.proofs.values.Given as goal

abbrev pub invariant-loop-k : goal.invariant-loop-k
invariant-loop-k l = l.jobs ≡ jobs_read l.bytes l.k
