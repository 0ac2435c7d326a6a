-- What the laws of the walk are stated with, whatever a walk keeps as it goes: lists of periods in order, the periods
-- that a job may try, and when what is had stands against the plans to come. The trait of what a walk keeps cites this,
-- and no contract of an entry point does. Assumes nothing.
use Rattle.std.specs.Prelude.{◌≡◌, ℕ, ◌+◌, ◌≤◌, ◌<◌, All}
use mathlib.Core.List.{List, Memᴰ}
use Rattle.model.specs.declared.Seconds.{Seconds}
use Rattle.model.specs.declared.Job.{Job}
use Rattle.model.specs.Model.{cost, Allowed, PermittedAfter, loss, Rising, NotAfter}
use Rattle.step.specs.Step.{load, need_after}
use Rattle.walk.specs.Walk.{Node}

-- Strictly earlier in the order of lists.
pub record Earlier (ts us : List Seconds) : Type 0 where
  pub not_after : NotAfter ts us
  pub differ : ts ≡ us → ⊥

-- Each period is below every later one.
abbrev pub RisingPeriods : List Seconds → Type 0
RisingPeriods ts = Rising (λ (t u : Seconds). t.0 < u.0) ts

-- Each list is earlier than every later one.
abbrev pub Sorted : List (List Seconds) → Type 0
Sorted xs = Rising Earlier xs

-- The list of a job's periods holds those that are allowed.
pub record ListsAllowed (periods : Seconds → Job → List Seconds) : Type 0 where
  pub only : {before : Seconds} {j : Job} {t : Seconds} → 1 ≤ before.0 → Memᴰ t (periods before j) → Allowed j before t
  pub all : {before : Seconds} {j : Job} {t : Seconds} → 1 ≤ before.0 → Allowed j before t → Memᴰ t (periods before j)

-- A job without pages: it adds nothing to need, where `greatest` is the greatest metadata before it, and nothing to
-- loss.
pub record Pageless (greatest : ℕ) (j : Job) : Type 0 where
  pub for_need : load greatest j ≡ 0
  pub for_loss : cost j ≡ 0

-- More than any loss.
abbrev pub no_loss : ℕ
no_loss = 0xffff_ffff_ffff_ffff

-- A period is a second at least, and within the hour.
abbrev pub IsPeriod : Seconds → Type 0
IsPeriod t = (1 ≤ t.0) × (t.0 ≤ 3600)

-- Each is a period.
abbrev pub WithinHour : List Seconds → Type 0
WithinHour ts = All IsPeriod ts

module _ {A : Type 0} (f : ℕ → ℕ → List Seconds → A → A) where
  -- What the update has stands against every plan of at least this need and at least this loss.
  abbrev pub Keeps : A → ℕ → ℕ → Type 0
  Keeps acc k l = (q m : ℕ) (ts : List Seconds) → k ≤ q → l ≤ m → f q m ts acc ≡ acc

  -- No plan of this need and this loss changes what is had.
  abbrev pub Unmoved : A → ℕ → ℕ → Type 0
  Unmoved s q l = (ts : List Seconds) → f q l ts s ≡ s

  -- No plan that completes the node changes what is had, nor any of the same need and loss.
  abbrev pub Settled : List Job → Node → A → Type 0
  Settled js n s = (ts : List Seconds) → PermittedAfter n.before js ts → Unmoved s (need_after n.greatest n.pages n.before js ts) (n.lost + loss js ts)

-- An update that a plan's visit settles, whatever else is visited later: plans of the same need and loss change nothing
-- more. It may ask that what is had be good, and keeps it so.
pub record Absorbs {A : Type 0} (Good : A → Type 0) (f : ℕ → ℕ → List Seconds → A → A) : Type 0 where
  pub good : (q l : ℕ) (ts : List Seconds) (s : A) → Good s → Good (f q l ts s)
  pub after : (q l : ℕ) (ts : List Seconds) (s : A) → Good s → Unmoved f (f q l ts s) q l
  pub stays : (q l q' l' : ℕ) (ts : List Seconds) (s : A) → Good s → Unmoved f s q l → Unmoved f (f q' l' ts s) q l
