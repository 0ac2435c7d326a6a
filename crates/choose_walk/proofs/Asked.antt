-- The walk for the least need leaves stiffness and loss free: `Pre` and `Post` are what the checker makes of its clauses,
-- so a contract that asks for either, or speaks of one stiffness alone, breaks this.
-- Assumes nothing.
use mathlib.Core.Path.{◌≡◌, ap}
use mathlib.Core.List.{List}
use Prim.Native.Nat.{ℕ, zero-le}
use Rattle.model.specs.declared.Seconds.{Seconds}
use Rattle.model.specs.declared.Job.{Job}
use Rattle.walk.specs.declared.JobNumbers.{JobNumbers}
use Rattle.walk.specs.declared.Numbers.{Numbers}
use Rattle.walk.specs.declared.Begun.{Begun}
use Rattle.walk.specs.Walk.{node, walk_down}
use Rattle.walk.specs.Numbers.{numbers_at, Held}
use Rattle.walk.specs.Steps.{Ready}
use Rattle.choose_walk.specs.Least.{less_need}
use Rattle.choose_walk.specs.Steps.{but_for_stiffness, ButForStiffness, ReadyForNeed, least_in}
use Rattle.choose_walk.proofs.least_need.Reads as least-need-contract

-- a job's numbers with this stiffness, and a part of a plan with this loss
abbrev pub of_stiffness : ℕ → JobNumbers → JobNumbers
of_stiffness w j = record { lo = j.lo; hi = j.hi; load = j.load; cost = j.cost; fastest = j.fastest; later = j.later; stiffness = w }

abbrev pub of_loss : ℕ → Begun → Begun
of_loss lost b = record { jobs = b.jobs; last = b.last; written = b.written; lost = lost }

-- k is the numbers m with these stiffnesses.
pub record OfStiffnesses (stiffnesses : ℕ → ℕ) (m k : Numbers) : Type 0 where
  pub count : k.n ≡ m.n
  pub jobs : (i : ℕ) → numbers_at k i ≡ of_stiffness (stiffnesses i) (numbers_at m i)

module _ {stiffnesses : ℕ → ℕ} {m k : Numbers} (s : OfStiffnesses stiffnesses m k) where
  same_but : ButForStiffness m k
  same_but = record { count = s.count; jobs = λ i. ap but_for_stiffness (s.jobs i) }

  ready_for_need : {lost : ℕ} {b : Begun} → Ready k (of_loss lost b) → ReadyForNeed m b
  ready_for_need r = record {
    numbers = k;
    same = same_but;
    ready = record { greatest = r.greatest; js = r.js; held = r.held; from = r.from; to = r.to; bounded = record { pages_to = r.bounded.pages_to; lost_to = zero-le } };
  }

-- a part of a plan that is ready with some stiffnesses and some loss, whatever these are, may be asked about
pub least_need_asks : (κs : _) (a : _) → let asked = least-need-contract.Pre κs a in (stiffnesses : ℕ → ℕ) (lost : ℕ) (k : Numbers) →
    OfStiffnesses stiffnesses a.0.now k → Ready k (of_loss lost a.1.0) → asked
least_need_asks κs a stiffnesses lost k s ready = ready_for_need s ready

-- and what is answered is so for jobs of whatever stiffnesses
pub least_need_tells : (κs : _) (a : _) (r : _) (e : _) → least-need-contract.Post κs a r e → (stiffnesses : ℕ → ℕ) (k : Numbers) → OfStiffnesses stiffnesses a.0.now k →
    (greatest : ℕ) (js : List Job) (lost : ℕ) (ts : List Seconds) → Held k a.1.0.jobs greatest js →
    least_in r ≡ walk_down less_need js (node a.1.0.last greatest a.1.0.written lost ts) (least_in a.1.1.0)
least_need_tells κs a r e told stiffnesses k s = told k (same_but s)
