-- `profile_judge::judge` meets its contract: before each turn the verdict is that of the jobs from the k-th on.
-- Assumes nothing.
use Prim.Native.Nat.{◌≤◌, ◌-◌}
use mathlib.Core.Path.{◌≡◌}
use Rattle.model.specs.Model.{verdict_of, first_refused, judge_job, entries, no_job}
use Rattle.profile_judge.proofs.judge.Given as goal

abbrev pub invariant-loop-k : goal.invariant-loop-k
invariant-loop-k l = (l.k ≤ l.n) × (verdict_of l.p ≡ first_refused judge_job l.k (entries no_job l.p.jobs l.k (l.n - l.k)))

abbrev pub decreases-loop-k : goal.decreases-loop-k
decreases-loop-k l = l.n - l.k
