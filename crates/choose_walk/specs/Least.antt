-- What the walk for the least need keeps as it goes. No public contract cites this.
-- Assumes nothing.
use Rattle.std.specs.Prelude.{List, ℕ, min}
use Rattle.model.specs.declared.Seconds.{Seconds}

-- No need yet, or the least one.
pub data Least : Type 0 where
  none : Least
  least : ℕ → Least

-- The update for the least need.
unfoldable pub less_need : ℕ → ℕ → List Seconds → Least → Least
less_need q l ts none = least q
less_need q l ts (least m) = least (min q m)
