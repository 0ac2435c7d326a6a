use mathlib.Core.List.{List}
use Prim.Native.Nat.{ℕ, ◌+◌, ◌*◌, ◌-◌}
use lib.Seq.{sets}
use Rattle.model.specs.declared.Job.{Job}
use Rattle.model.specs.Model.{no_job, entries}
use Rattle.exchange.specs.Numbers.{jobs_numbers}
use Rattle.exchange_put.proofs.Stores.{Completes}
use Rattle.exchange_put.proofs.put_values.Given as goal

-- the numbers of the jobs from the i-th on
abbrev pub left : List Job → ℕ → List ℕ
left js i = jobs_numbers (entries no_job js i (8 - i))

abbrev pub invariant-loop-i : goal.invariant-loop-i
invariant-loop-i l = Completes (sets l.initial.values 1 (left l.p.jobs 0)) l.values (1 + 5 * l.i) (left l.p.jobs l.i)
