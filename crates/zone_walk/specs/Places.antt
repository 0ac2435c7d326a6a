-- The places of the walk, one for each job. Contracts of inner functions cite this, and those of no entry point. Assumes
-- nothing.
use Rattle.std.specs.Prelude.{◌≡◌, ℕ, ◌≤◌, get_or}
use mathlib.Core.List.{List, map}
use Rattle.model.specs.Model.{seconds}
use Rattle.zone_walk.specs.declared.Place.{Place}

-- What stands in a place where no job was opened.
abbrev pub no_place : Place
no_place = record { multiplier = 0; range = record { least = seconds 0; greatest = seconds 0 } }

abbrev pub multipliers_of : List Place → List ℕ
multipliers_of = map (λ (place : Place). place.multiplier)

-- From place n on the multipliers are zeros.
abbrev pub Clear : ℕ → List Place → Type 0
Clear n places = (j : ℕ) → n ≤ j → (get_or places j no_place).multiplier ≡ 0
