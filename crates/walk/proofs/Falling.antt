-- The multiples in falling order are the same periods as in rising order: those that are allowed.
-- Assumes nothing.
use mathlib.Core.Path.{◌≡◌, ap, subst}
use mathlib.Core.List.Memᴰ
use mathlib.Core.List.{[], ◌∷◌, map, Memᴰ}
use Prim.Native.Nat.{◌-◌, ◌/◌, ◌≤◌, ◌<◌}
use Rattle.model.specs.declared.Seconds.{Seconds}
use Rattle.model.specs.declared.Job.{Job}
use Rattle.model.specs.Model.{seconds, Allowed}
use Rattle.model.specs.Climb.{descend_to}
use Rattle.model.proofs.Climb.{descend_step, descend_end, descend_in, descend_has}
use Rattle.walk.specs.Chains.{first_try, last_try, falling_from, multiples_down}
use Rattle.walk.specs.Laws.{ListsAllowed}
use Rattle.walk.proofs.Chains.{tries_only, tries_all}

-- the loop over a job's periods: one more step, or the end
module _ (before first t : Seconds) (pos : 1 ≤ before.0) where
  pub falling_step : before.0 ≤ t.0 → first.0 ≤ t.0 → falling_from before first t ≡ t ∷ falling_from before first (seconds (t.0 - before.0))
  unfolding falling_from
  falling_step room h = ap (map seconds) (descend_step before.0 pos first.0 t.0 room h)

  pub falling_end : t.0 < first.0 → falling_from before first t ≡ []
  unfolding falling_from
  falling_end h = ap (map seconds) (descend_end before.0 pos first.0 t.0 h)

down_only : {before : Seconds} {j : Job} {t : Seconds} → 1 ≤ before.0 → Memᴰ t (multiples_down before j) → Allowed j before t
unfolding multiples_down falling_from
down_only {before} {j} pos m =
    let r = Memᴰ.of_map seconds (descend_to before.0 (first_try before j).0 (last_try before j).0) m in
    subst (Allowed j before) r.2 (tries_only pos (descend_in before.0 pos (first_try before j).0 (j.hi.0 / before.0) r.1))

down_all : {before : Seconds} {j : Job} {t : Seconds} → 1 ≤ before.0 → Allowed j before t → Memᴰ t (multiples_down before j)
unfolding multiples_down falling_from
down_all {before} {j} pos a = Memᴰ.map seconds (descend_has before.0 pos (first_try before j).0 (j.hi.0 / before.0) (tries_all pos a))

pub down_lists : ListsAllowed multiples_down
down_lists = record { only = down_only; all = down_all }
