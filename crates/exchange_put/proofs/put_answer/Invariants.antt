use mathlib.Core.List.{List, map}
use Prim.Native.Nat.{ℕ, ◌+◌, ◌-◌}
use lib.Seq.{sets}
use Rattle.model.specs.declared.Seconds.{Seconds}
use Rattle.model.specs.Model.{seconds, entries}
use Rattle.exchange_put.proofs.Stores.{Completes}
use Rattle.exchange_put.proofs.put_answer.Given as goal

-- the periods from the k-th on, as numbers
abbrev pub left : List Seconds → ℕ → List ℕ
left ts k = map (λ (t : Seconds). t.0) (entries (seconds 0) ts k (8 - k))

abbrev pub invariant-loop-k : goal.invariant-loop-k
invariant-loop-k l = Completes (sets l.initial.answer 3 (left l.periods 0)) l.answer (3 + l.k) (left l.periods l.k)
