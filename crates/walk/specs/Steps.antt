-- What the functions that every walk shares ask and promise. Contracts of inner functions cite this, and those of no
-- entry point.
-- Assumes nothing.
use Rattle.std.specs.Prelude.{◌≡◌, List, ℕ, ◌*◌, ◌/◌, ◌%◌, ◌≤◌, ◌<◌, take}
use Rattle.model.specs.declared.Seconds.{Seconds}
use Rattle.model.specs.declared.Job.{Job}
use Rattle.model.specs.Model.{seconds}
use Rattle.model.specs.Rounding.{round_up}
use Rattle.step.specs.Step.{loss_at, LossFits, Bounded}
use Rattle.walk.specs.declared.Tries.{Tries}
use Rattle.walk.specs.declared.JobNumbers.{JobNumbers}
use Rattle.walk.specs.declared.Numbers.{Numbers}
use Rattle.walk.specs.declared.Begun.{Begun}
use Rattle.walk.specs.Walk.{Node, node, walk, loss_floor}
use Rattle.walk.specs.Numbers.{numbers_at, Held}

-- What a job loses at period t, by its numbers.
abbrev pub loss_held : JobNumbers → Seconds → ℕ
loss_held j t = loss_at j.stiffness j.fastest j.cost t

-- The numbers for which that fits.
abbrev pub LossHeldFits : JobNumbers → Seconds → Type 0
LossHeldFits j t = LossFits j.stiffness j.fastest j.cost t

-- The periods that a job may try after `step`, by its interval.
abbrev pub tries_held : JobNumbers → Seconds → Tries
tries_held j step = record { first = seconds (round_up j.lo.0 step.0 * step.0); last = seconds (j.hi.0 / step.0 * step.0) }

-- An interval within the hour, and a period.
pub record MayTry (j : JobNumbers) (step : Seconds) : Type 0 where
  pub from : 1 ≤ step.0
  pub to : step.0 ≤ 3600
  pub shortest_to : j.lo.0 ≤ 3600
  pub longest_to : j.hi.0 ≤ 3600

-- Places from i on among at most eight, and a period.
pub record Ends (m : Numbers) (i : ℕ) (t : Seconds) : Type 0 where
  pub most : m.n ≤ 8
  pub from : 1 ≤ t.0

-- The interval of some job from place i on holds no multiple of t.
abbrev pub Unreached : Numbers → ℕ → Seconds → Type 0
Unreached m i t = (k : ℕ) × (i ≤ k) × (k < m.n) × ((numbers_at m k).hi.0 / t.0 * t.0 < (numbers_at m k).lo.0)

-- Some multiplier from `first` on, below a, divides a.
abbrev pub PassedOver : ℕ → ℕ → Type 0
PassedOver a first = (d : ℕ) × (first ≤ d) × (d < a) × (a % d ≡ 0)

-- A job has no pages for need and none for loss, so at period t, a multiple of `step`, it repeats what it had at a
-- smaller one from `first` on.
pub record Repeats (j : JobNumbers) (step first t : Seconds) : Type 0 where
  pub for_need : j.load ≡ 0
  pub for_loss : j.cost ≡ 0
  pub passed : PassedOver (t.0 / step.0) (first.0 / step.0)

-- The part of a plan that is made, where its periods are ts and the greatest metadata of its jobs is `greatest`.
abbrev pub node_of : Begun → ℕ → List Seconds → Node
node_of b greatest ts = node b.last greatest b.written b.lost ts

module _ (m : Numbers) where
  -- Some jobs are so held, and t is a period.
  pub record Later (i : ℕ) (t : Seconds) : Type 0 where
    pub greatest : ℕ
    pub js : List Job
    pub held : Held m i greatest js
    pub from : 1 ≤ t.0

  -- r is the loss floor of the jobs from place i on.
  abbrev pub IsLossFloor : ℕ → Seconds → ℕ → Type 0
  IsLossFloor i t r = (greatest : ℕ) (js : List Job) → Held m i greatest js → r ≡ loss_floor js t.0

  -- Some jobs are so held, and a part of a plan stands before them.
  pub record Ready (b : Begun) : Type 0 where
    pub greatest : ℕ
    pub js : List Job
    pub held : Held m b.jobs greatest js
    pub from : 1 ≤ b.last.0
    pub to : b.last.0 ≤ 3600
    pub bounded : Bounded b.jobs b.last b.written b.lost

module _ {A : Type 0} (f : ℕ → ℕ → List Seconds → A → A) (m : Numbers) where
  -- What the walk from such a part on leaves: the periods of that part, and what it makes of what was had.
  pub record Walked (b : Begun) (ps ps' : List Seconds) (acc acc' : A) : Type 0 where
    pub before : take b.jobs ps' ≡ take b.jobs ps
    pub is : (greatest : ℕ) (js : List Job) → Held m b.jobs greatest js → acc' ≡ walk f js (node_of b greatest (take b.jobs ps)) acc
