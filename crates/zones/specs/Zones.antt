-- Harmonic zones, their rows, and what listing them answers (document 01, Zones and Packing). The record Zone, a range and its
-- multipliers, stands in specs/Zone.antt of zone_walk. Cited by public contracts. Assumes nothing.
use Rattle.std.specs.Prelude.{Result, ◌≡◌, ◌↔◌, ℕ, ◌*◌, ◌≤◌, length, get_or}
use mathlib.Core.List.{List, [], ◌∷◌, ◌++◌, map, flat_map, Memᴰ}
use Rattle.model.specs.declared.Seconds.{Seconds}
use Rattle.model.specs.declared.Job.{Job}
use Rattle.model.specs.declared.Profile.{Profile}
use Rattle.model.specs.declared.Refusal.{Refusal}
use Rattle.model.specs.Model.{sound, seconds, entries, Rising, jobs_of, Permitted, verdict_of, row_size, count_verdict, PutsFront}
use Rattle.codec.specs.Layout.{byte_widths}
use Rattle.codec.specs.Packing.{recut}
use Rattle.zone_walk.specs.Zone.{Zone}

-- The periods that multipliers give at a first period (Zones).
abbrev pub periods_for : List ℕ → ℕ → List Seconds
periods_for multipliers t = map (λ a. seconds (a * t)) multipliers

-- A zone of these jobs: its range holds the first periods, all and only, at which its multipliers give permitted periods, and at
-- least one; the first multiplier is 1 (Zones).
pub record IsZone (js : List Job) (z : Zone) : Type 0 where
  pub first : get_or z.multipliers 0 0 ≡ 1
  pub range : (t : ℕ) → ((z.least.0 ≤ t) × (t ≤ z.greatest.0)) ↔ Permitted js (periods_for z.multipliers t)
  pub some : z.least.0 ≤ z.greatest.0

-- Smaller at the first multiplier in which the two differ, and there is one (Zones).
abbrev pub Before : List ℕ → List ℕ → Type 0
Before [] others = ⊥
Before (a ∷ more) [] = ⊥
Before (a ∷ more) (b ∷ others) = (a ≤ b) × (a ≡ b → Before more others)

-- All zones of these jobs and nothing else, each before every later one, so each once (Zones).
pub record ZonesOf (js : List Job) (zs : List Zone) : Type 0 where
  pub only : (z : Zone) → Memᴰ z zs → IsZone js z
  pub all : (z : Zone) → IsZone js z → Memᴰ z zs
  pub rising : Rising (λ (z y : Zone). Before z.multipliers y.multipliers) zs

-- A zone row's fields: least, greatest, a2 to a8, spare (Packing).
abbrev pub zone_widths : List ℕ
zone_widths = 12 ∷ 12 ∷ 12 ∷ 12 ∷ 12 ∷ 12 ∷ 12 ∷ 12 ∷ 12 ∷ 20 ∷ []

-- What a zone lacks of eight multipliers is zeros, and so is the spare field (Packing).
abbrev pub zone_fields : Zone → List ℕ
zone_fields z = z.least.0 ∷ z.greatest.0 ∷ (entries 0 z.multipliers 1 7 ++ (0 ∷ []))

-- Zone rows one after the other, sixteen bytes each (Packing).
unfoldable pub rows_of : List Zone → List ℕ
rows_of zs = flat_map (λ z. recut zone_widths (byte_widths row_size) (zone_fields z)) zs

-- What `list_zones` may answer, and leave of a lent buffer that held `old`; for a refused profile nothing is said of `zones`.
-- For a sound one there are no zones, and so 9 is answered, exactly where no list is permitted (Refusal numbers, 9).
pub record Listed (p : Profile) (old : List ℕ) (r : Result ℕ Refusal) (new : List ℕ) : Type 0 where
  pub zones : List Zone
  pub are : verdict_of p ≡ sound → ZonesOf (jobs_of p) zones
  pub none : verdict_of p ≡ sound → (length zones ≡ 0) ↔ ((ts : List Seconds) → Permitted (jobs_of p) ts → ⊥)
  pub puts : PutsFront p (count_verdict (length zones) (length old)) (length zones) (rows_of zones) old r new
