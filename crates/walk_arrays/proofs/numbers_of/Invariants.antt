-- `walk_arrays::numbers_of` meets its contract: before each turn the jobs from place k on are in, and `later` is what
-- they need at least.
-- Assumes nothing.
use mathlib.Core.Path.{◌≡◌}
use lib.ListN.{length}
use Rattle.walk.specs.Numbers.{needs_from, NumbersFrom}
use Rattle.walk_arrays.proofs.numbers_of.Given as goal

abbrev pub invariant-loop-k : goal.invariant-loop-k
invariant-loop-k l = record { size : length l.jobs ≡ 8; made : NumbersFrom l.p l.k (record { n = l.n; jobs = l.jobs }); needs : l.later.0 ≡ needs_from l.p l.k }
