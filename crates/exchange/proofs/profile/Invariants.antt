-- `exchange::profile` meets its contract: before each turn the first k jobs are those whose numbers stand five places apart.
-- Assumes nothing.
use Prim.Native.Nat.{ℕ, ◌*◌, ◌<◌}
use mathlib.Core.Path.{◌≡◌}
use lib.ListN.{get_or, length}
use Rattle.model.specs.Model.{no_job}
use Rattle.exchange.specs.Numbers.{job_in}
use Rattle.exchange.proofs.profile.Given as goal

abbrev pub invariant-loop-k : goal.invariant-loop-k
invariant-loop-k l = (length l.eight ≡ 8) × ((j : ℕ) → j < l.k → get_or l.eight j no_job ≡ job_in l.jobs (5 * j))
