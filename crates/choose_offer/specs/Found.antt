-- What a walk for the best plan keeps as it goes: the best found so far. No public contract cites this.
-- Assumes nothing.
use Rattle.std.specs.Prelude.{List, Bool, true, cond, ◌&&◌, ◌||◌, ℕ, leb, ltb, eqb}
use Rattle.model.specs.declared.Seconds.{Seconds}

-- No plan yet, or one: its need, its loss, its periods.
pub data Found : Type 0 where
  nothing : Found
  found : ℕ → ℕ → List Seconds → Found

-- Less loss, or equal loss and less need, than what is had.
unfoldable pub beats : ℕ → ℕ → Found → Bool
beats q l nothing = true
beats q l (found p m us) = ltb l m || (eqb l m && ltb q p)

-- The update for choosing: a plan that fits the budget `b` and is strictly better takes the place of the one had.
unfoldable pub pick : ℕ → ℕ → ℕ → List Seconds → Found → Found
pick b q l ts had = cond (leb q b && beats q l had) (found q l ts) had
