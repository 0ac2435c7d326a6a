-- What each job adds to the pages and to the loss of a plan, job after job: the pages of one period are carried on to the next, and
-- the loss is summed. proofs/Shared.antt shows that pages so summed are those of the model, moment by moment. Contracts of inner
-- functions cite this, and those of no entry point. Assumes nothing.
use Rattle.std.specs.Prelude.{◌≡◌, List, [], ◌∷◌, ℕ, zero, suc, ◌+◌, ◌*◌, ◌-◌, ◌/◌, ◌^◌, ◌≤◌, ◌<◌, max, length, get_or}
use Rattle.model.specs.declared.Seconds.{Seconds}
use Rattle.model.specs.declared.PagesPerHour.{PagesPerHour}
use Rattle.model.specs.declared.Job.{Job}
use Rattle.model.specs.declared.Profile.{Profile}
use Rattle.model.specs.Model.{pages_per_hour, no_job, last_of, per_hour, rounded_up}
use Rattle.model.specs.Most.{most_pages, most_rate, most_loss}

-- What need takes from a run of a job, where `greatest` is the greatest metadata of the jobs before it: its data, and what its metadata
-- exceeds that by.
unfoldable pub load : ℕ → Job → ℕ
load greatest j = j.«data» + (j.metadata - greatest)

-- The pages in `time` seconds, summed over these jobs: of each its load, as often as its period fits; `greatest` is the greatest metadata
-- of the jobs before them.
unfoldable pub loads_in : ℕ → Seconds → List Job → List Seconds → ℕ
loads_in greatest time [] ts = 0
loads_in greatest time (j ∷ js) [] = 0
loads_in greatest time (j ∷ js) (t ∷ ts) = load greatest j * (time.0 / t.0) + loads_in (max greatest j.metadata) time js ts

-- The greatest metadata of the jobs before place k of a profile.
unfoldable pub greatest_before : Profile → ℕ → ℕ
greatest_before p zero = 0
greatest_before p (suc k) = max (greatest_before p k) (get_or p.jobs k no_job).metadata

-- The load of the job at place k.
abbrev pub load_at : Profile → ℕ → ℕ
load_at p k = load (greatest_before p k) (get_or p.jobs k no_job)

-- The loads of the jobs before place k stand in an array of eight.
pub record LoadsTo (p : Profile) (k : ℕ) (xs : List ℕ) : Type 0 where
  pub size : length xs ≡ 8
  pub are : (m : ℕ) → m < k → get_or xs m 0 ≡ load_at p m

-- The pages in `t` seconds, where jobs before write `written` in `before` seconds and a run of this one adds `own`.
abbrev pub carried : ℕ → Seconds → Seconds → ℕ → ℕ
carried written before t own = written * (t.0 / before.0) + own

-- The pages in Tn seconds, where jobs before these write `written` in `before` seconds; `greatest` is the greatest of their metadata.
unfoldable pub pages_after : ℕ → ℕ → Seconds → List Job → List Seconds → ℕ
pages_after greatest written before [] ts = written
pages_after greatest written before (j ∷ js) [] = written
pages_after greatest written before (j ∷ js) (t ∷ ts) = pages_after (max greatest j.metadata) (carried written before t (load greatest j)) t js ts

-- The need of a plan that writes this much in this time, rounded up.
unfoldable pub need_at : ℕ → Seconds → ℕ
need_at written t = (rounded_up (per_hour written t)).0

-- The need of a plan so completed.
unfoldable pub need_after : ℕ → ℕ → Seconds → List Job → List Seconds → ℕ
need_after greatest written before js ts = need_at (pages_after greatest written before js ts) (last_of before ts)

-- A period, and what is written in it, for which that fits.
pub record NeedFits (written : ℕ) (t : Seconds) : Type 0 where
  pub from : 1 ≤ t.0
  pub to : t.0 ≤ 3600
  pub written_to : written ≤ 8 * most_pages * t.0

-- The hourly rate of so many pages in every t seconds, rounded down.
abbrev pub hourly : ℕ → Seconds → PagesPerHour
hourly pages t = pages_per_hour (3600 * pages / t.0)

-- A job's loss at a period, from its numbers: stiffness, rate at the shortest period, pages of a run.
unfoldable pub loss_at : ℕ → PagesPerHour → ℕ → Seconds → ℕ
loss_at w fastest pages t = w * (fastest.0 - (hourly pages t).0) ^ 2

-- The numbers for which that fits 64 bits.
pub record LossFits (w : ℕ) (fastest : PagesPerHour) (pages : ℕ) (t : Seconds) : Type 0 where
  pub weight_to : w ≤ 32
  pub fastest_to : fastest.0 ≤ most_rate
  pub pages_to : pages ≤ most_pages
  pub from : 1 ≤ t.0
  pub slower : (hourly pages t).0 ≤ fastest.0

-- What i jobs have written in the last one's period, and lost, is within bounds.
pub record Bounded (i : ℕ) (before : Seconds) (written lost : ℕ) : Type 0 where
  pub pages_to : written ≤ most_pages * i * before.0
  pub lost_to : lost ≤ most_loss * i
