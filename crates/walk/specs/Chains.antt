-- The periods that a job may try after the one before, and all permitted lists in the order of the walk: job by job,
-- those periods in rising order. No public contract cites this. Assumes nothing.
use mathlib.Core.List.{List, [], ◌∷◌, map, flat_map}
use Rattle.std.specs.Prelude.{◌*◌, ◌/◌}
use Rattle.model.specs.declared.Seconds.{Seconds}
use Rattle.model.specs.declared.Job.{Job}
use Rattle.model.specs.Model.{seconds}
use Rattle.model.specs.Rounding.{round_up}
use Rattle.model.specs.Climb.{climb_to, descend_to}

-- The periods that a job may try after `before` go from this one, the first multiple in its interval ..
abbrev pub first_try : Seconds → Job → Seconds
first_try before j = seconds (round_up j.lo.0 before.0 * before.0)

-- .. to this one, the last; where its interval holds none, the last is below the first.
abbrev pub last_try : Seconds → Job → Seconds
last_try before j = seconds (j.hi.0 / before.0 * before.0)

-- The seconds t, t + before, t + 2 * before .. up to `last`.
unfoldable pub rising_from : Seconds → Seconds → Seconds → List Seconds
rising_from before last t = map seconds (climb_to before.0 last.0 t.0)

-- The periods that a job may try, in rising order.
unfoldable pub multiples : Seconds → Job → List Seconds
multiples before j = rising_from before (last_try before j) (first_try before j)

-- The seconds t, t - before, t - 2 * before .. down to `first`.
unfoldable pub falling_from : Seconds → Seconds → Seconds → List Seconds
falling_from before first t = map seconds (descend_to before.0 first.0 t.0)

-- The periods that a job may try, in falling order.
unfoldable pub multiples_down : Seconds → Job → List Seconds
multiples_down before j = falling_from before (first_try before j) (last_try before j)

-- One list for each way to give every job one of its periods, where `periods before j` lists those of a job.
unfoldable pub chains_by : (Seconds → Job → List Seconds) → Seconds → List Job → List (List Seconds)
chains_by periods before [] = [] ∷ []
chains_by periods before (j ∷ js) = flat_map (λ t. map (λ ts. t ∷ ts) (chains_by periods t js)) (periods before j)

-- All lists permitted after `before`, in lexicographic order.
abbrev pub chains : Seconds → List Job → List (List Seconds)
chains = chains_by multiples
