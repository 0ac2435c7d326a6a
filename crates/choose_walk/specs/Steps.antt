-- What the walk for the least need asks and promises. Contracts of inner functions cite this, and those of no entry
-- point.
-- Assumes nothing.
use Rattle.std.specs.Prelude.{◌≡◌, List, ℕ, Option, Some, None}
use Rattle.model.specs.declared.Seconds.{Seconds}
use Rattle.model.specs.declared.PagesPerHour.{PagesPerHour}
use Rattle.model.specs.declared.Job.{Job}
use Rattle.walk.specs.declared.JobNumbers.{JobNumbers}
use Rattle.walk.specs.declared.Numbers.{Numbers}
use Rattle.walk.specs.declared.Begun.{Begun}
use Rattle.walk.specs.Walk.{node, walk_down}
use Rattle.walk.specs.Numbers.{numbers_at, Held}
use Rattle.walk.specs.Steps.{Ready}
use Rattle.choose_walk.specs.Least.{Least, none, least, less_need}

-- What is had: no need yet, or the least one.
unfoldable pub least_in : Option PagesPerHour → Least
least_in None = none
least_in (Some q) = least q.0

-- A job's numbers but for its stiffness, which need does not rest on.
abbrev pub but_for_stiffness : JobNumbers → JobNumbers
but_for_stiffness j = record { lo = j.lo; hi = j.hi; load = j.load; cost = j.cost; fastest = j.fastest; later = j.later; stiffness = 0 }

-- k is the numbers m but for the stiffnesses.
pub record ButForStiffness (m k : Numbers) : Type 0 where
  pub count : k.n ≡ m.n
  pub jobs : (i : ℕ) → but_for_stiffness (numbers_at k i) ≡ but_for_stiffness (numbers_at m i)

-- The part of a plan, as if it lost nothing.
abbrev pub nothing_lost : Begun → Begun
nothing_lost b = record { jobs = b.jobs; last = b.last; written = b.written; lost = 0 }

-- A part of a plan stands before some jobs whose need is held; their stiffnesses, and what is lost so far, do not matter
-- here.
pub record ReadyForNeed (m : Numbers) (b : Begun) : Type 0 where
  pub numbers : Numbers
  pub same : ButForStiffness m numbers
  pub ready : Ready numbers (nothing_lost b)

-- r is what the walk for the least need, from such a part of a plan on, makes of what was had, for jobs that m holds ..
abbrev pub LessensHeld : Numbers → Begun → Option PagesPerHour → Option PagesPerHour → Type 0
LessensHeld m b had r =
    (greatest : ℕ) (js : List Job) (lost : ℕ) (ts : List Seconds) → Held m b.jobs greatest js → least_in r ≡ walk_down less_need js (node b.last greatest b.written lost ts) (least_in had)

-- .. and for jobs of every stiffness.
abbrev pub Lessens : Numbers → Begun → Option PagesPerHour → Option PagesPerHour → Type 0
Lessens m b had r = (k : Numbers) → ButForStiffness m k → LessensHeld k b had r
