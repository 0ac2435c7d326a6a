-- The 41 numbers of a profile stand for that profile again: place by place they are its own values.
-- Assumes nothing.
use mathlib.Core.Path.{◌≡◌, refl, ◌∙◌, ap}
use mathlib.Core.List.{List, flat_map}
use lib.ListN.{length, drop}
use Rattle.model.specs.declared.Job.{Job}
use Rattle.model.specs.declared.Profile.{Profile}
use Rattle.model.specs.Model.{no_job, entries}
use Rattle.model.proofs.Entries.{entries_all}
use Rattle.exchange.specs.Numbers.{jobs_numbers, numbers_of, profile_in}

placed : (p : Profile) → profile_in p.n (drop 1 (numbers_of p)) ≡ record { n = p.n; jobs = entries no_job p.jobs 0 8 }
unfolding numbers_of jobs_numbers flat_map entries
placed p = refl

-- the numbers that `charopleth_read` stores can be handed to the other functions: n first, then the 40 numbers behind it
pub handed_back : (p : Profile) → length p.jobs ≡ 8 → profile_in p.n (drop 1 (numbers_of p)) ≡ p
handed_back p h = placed p ∙ ap {B = Profile} (λ (js : List Job). record { n = p.n; jobs = js }) (entries_all no_job p.jobs h)
