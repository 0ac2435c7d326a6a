-- What a case asks and when it is right, and the words that lists of cases are written in: specs/Cases.antt is one such list.
-- Assumes nothing.
use Rattle.std.specs.Prelude.{◌≡◌, ◌↔◌, Result, Ok, ℕ, ◌+◌, ◌*◌, ◌-◌, ◌≤◌, length, drop, replicate}
use mathlib.Core.List.{List, [], ◌∷◌, ◌++◌, map, Memᴰ}
use Rattle.model.specs.declared.Seconds.{Seconds}
use Rattle.model.specs.declared.Job.{Job}
use Rattle.model.specs.declared.Profile.{Profile}
use Rattle.model.specs.declared.Refusal.{Refusal}
use Rattle.model.specs.declared.Refusal.TheVariants.{Budget}
use Rattle.model.specs.Model.{Verdict, sound, seconds, pages_per_hour, no_job, jobs_of, periods_of, Permitted, pages_in, verdict_in, verdict_of, padded}
use Rattle.profile_read.specs.Reading.{Reads}
use Rattle.profile_write.specs.Writing.{Writes}
use Rattle.score.specs.declared.Scored.{Scored}
use Rattle.score.specs.Scoring.{Scores}
use Rattle.choose.specs.declared.Choice.{Choice}
use Rattle.choose.specs.Choice.{Chosen}
use Rattle.zones.specs.Zones.{Listed}
use Rattle.table.specs.Table.{Built}
use Rattle.table_lookup.specs.Lookup.{Locates, JudgesLookup, LooksUp, place_found}

-- What is asked, then what must come out: the answer, and the bytes written or handed back. What writes into a lent buffer is asked
-- with every buffer that has room, or `In` the one given, and then the bytes are the whole buffer's.
pub data Case : Type 0 where
  reading : (bytes : List ℕ) → Result Profile Refusal → Case
  writing : Profile → Result ℕ Refusal → (bytes : List ℕ) → Case
  writing_in : Profile → (old : List ℕ) → Result ℕ Refusal → (new : List ℕ) → Case
  permitting : Profile → Verdict → (lists : List (List Seconds)) → Case
  counting : Profile → (periods : List Seconds) (time pages : ℕ) → Case
  scoring : Profile → (periods : List Seconds) → Result Scored Refusal → Case
  choosing : Profile → (budget : ℕ) → Result Choice Refusal → Case
  listing : Profile → Result ℕ Refusal → (bytes : List ℕ) → Case
  listing_in : Profile → (old : List ℕ) → Result ℕ Refusal → (new : List ℕ) → Case
  building : Profile → Result ℕ Refusal → (bytes : List ℕ) → Case
  building_in : Profile → (old : List ℕ) → Result ℕ Refusal → (new : List ℕ) → Case
  looking_up : Profile → (table : List ℕ) (budget : ℕ) → Result ℕ Refusal → (bytes : List ℕ) → Case

-- Whatever an operation may answer and leave is this answer and these bytes.
abbrev pub Only : (Result ℕ Refusal → List ℕ → Type 0) → Result ℕ Refusal → List ℕ → Type 0
Only allows answer left = (r : Result ℕ Refusal) (new : List ℕ) → allows r new → (r ≡ answer) × (new ≡ left)

-- The same of every lent buffer with room for the bytes that are written: these at the front, the rest as it was.
abbrev pub InAnyRoom : (List ℕ → Result ℕ Refusal → List ℕ → Type 0) → Result ℕ Refusal → List ℕ → Type 0
InAnyRoom allows answer bytes = (old : List ℕ) → length bytes ≤ length old → Only (allows old) answer (bytes ++ drop (length bytes) old)

-- A case is right when whatever the public contract allows is what must come out; the permitted lists are these and no others, and the
-- pages of so many seconds are those that the definition counts.
abbrev pub Right : Case → Type 0
Right (reading bytes answer) = (r : Result Profile Refusal) → Reads bytes r → r ≡ answer
Right (writing p answer bytes) = InAnyRoom (Writes p) answer bytes
Right (writing_in p old answer new) = Only (Writes p old) answer new
Right (permitting p verdict lists) = (verdict_of p ≡ verdict) × (verdict ≡ sound → (ts : List Seconds) → Permitted (jobs_of p) ts ↔ Memᴰ ts lists)
Right (counting p ts time pages) = pages_in (seconds time) (jobs_of p) (periods_of p ts) ≡ pages
Right (scoring p ts answer) = (r : Result Scored Refusal) → Scores p ts r → r ≡ answer
Right (choosing p b answer) = (r : Result Choice Refusal) → Chosen p (pages_per_hour b) r → r ≡ answer
Right (listing p answer bytes) = InAnyRoom (Listed p) answer bytes
Right (listing_in p old answer new) = Only (Listed p old) answer new
Right (building p answer bytes) = InAnyRoom (Built p) answer bytes
Right (building_in p old answer new) = Only (Built p old) answer new
Right (looking_up p table b answer bytes) =
    ((r : Result ℕ Refusal) → Locates p table (pages_per_hour b) r → r ≡ answer)
    × ((v : Verdict) → JudgesLookup p table (pages_per_hour b) v → v ≡ verdict_in answer)
    × ((lies at : ℕ × ℕ) (part : List ℕ) → LooksUp p table lies (pages_per_hour b) part at → (part ≡ bytes) × (at ≡ (lies.0, lies.1 + 16 * place_found answer)))

-- A job: lo, hi, d, g, w.
abbrev pub job : ℕ → ℕ → ℕ → ℕ → ℕ → Job
job lo hi d g w = record { lo = seconds lo; hi = seconds hi; «data» = d; metadata = g; stiffness = w }

-- A job of which only the interval is given: c and w are 1 (Numbers to hold on to).
abbrev pub interval : ℕ → ℕ → Job
interval lo hi = job lo hi 1 0 1

-- A profile of these jobs; in the places beyond them stand others that would be refused.
abbrev pub profile : List Job → Profile
profile js = record { n = length js; jobs = js ++ replicate (8 - length js) (job 9 3 99999 99999 77) }

-- These jobs, read. Here as in every answer `Err` stands before what is refused.
abbrev pub values : List Job → Result Profile Refusal
values js = Ok (record { n = length js; jobs = padded no_job js })

-- Periods in eight places, zeros beyond them.
abbrev pub eight : List ℕ → List Seconds
eight ts = padded (seconds 0) (map seconds ts)

-- A choice and a score: the need's whole pages and its remainder, the loss, periods.
abbrev pub plan : ℕ → ℕ → ℕ → List ℕ → Result Choice Refusal
plan q r l ts = Ok (record { periods = eight ts; need = record { whole = pages_per_hour q; remainder = record { 0 = r } }; loss = l })

abbrev pub scored : ℕ → ℕ → ℕ → Result Scored Refusal
scored q r l = Ok (record { need = record { whole = pages_per_hour q; remainder = record { 0 = r } }; loss = l })

-- No permitted periods fit a budget below this one.
abbrev pub below : ℕ → Refusal
below m = Budget (pages_per_hour m)

-- A number of rows or of bytes written, or of the row that answers.
abbrev pub number : ℕ → Result ℕ Refusal
number k = Ok k

-- A lent buffer of so many bytes.
abbrev pub lent : ℕ → List ℕ
lent size = replicate size 0xEE

-- Rows of sixteen bytes: those given, then zeros.
abbrev pub rows : List (List ℕ) → List ℕ
rows [] = []
rows (bytes ∷ more) = bytes ++ (replicate (16 - length bytes) 0 ++ rows more)
