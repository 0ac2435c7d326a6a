-- What a plan is and when it is right, in the order of document 01, as the change requests of document 02 have left it. Every public
-- contract of the planner is stated with these definitions; a comment that renders a rule ends in the rule's place there. Laws about
-- them are in proofs/, which no contract cites publicly. Need, loss and permitted periods are meant for the jobs of a valid profile.
-- Assumes nothing.
use Rattle.std.specs.Prelude.{◌≡◌, Result, Ok, Err, Bool, cond, ◌||◌, ℕ, zero, suc, ◌+◌, ◌*◌, ◌-◌, ◌/◌, ◌%◌, ◌^◌, ◌≤◌, max, length, get_or, drop, replicate, eqb, ltb}
use mathlib.Core.List.{List, [], ◌∷◌, ◌++◌, Memᴰ}
use Rattle.model.specs.declared.Seconds.{Seconds}
use Rattle.model.specs.declared.PagesPerHour.{PagesPerHour}
use Rattle.model.specs.declared.ExactNeed.{ExactNeed}
use Rattle.model.specs.declared.Job.{Job}
use Rattle.model.specs.declared.Profile.{Profile}
use Rattle.model.specs.declared.Refusal.{Refusal}
use Rattle.model.specs.declared.Refusal.TheVariants.{NoBytes, Edition, JobCount, Length, Interval, Stiffness, Spare, Pages, NoPeriods, Budget, Room, Row, Periods}

-- Quantities

-- A number of seconds, and a number of pages per hour.
abbrev pub seconds : ℕ → Seconds
seconds t = record { 0 = t }

abbrev pub pages_per_hour : ℕ → PagesPerHour
pages_per_hour r = record { 0 = r }

-- A job of zeros: what reading puts in a place beyond the last job (Packing).
abbrev pub no_job : Job
no_job = record { lo = seconds 0; hi = seconds 0; «data» = 0; metadata = 0; stiffness = 0 }

-- `k` entries of a list, from place `i` on; `d` stands for an entry that the list lacks.
unfoldable pub entries : {A : Type 0} → A → List A → ℕ → ℕ → List A
entries d xs i zero = []
entries d xs i (suc k) = get_or xs i d ∷ entries d xs (i + 1) k

-- Each entry of a list stands to every later one as R says.
abbrev pub Rising : {A : Type 0} → (A → A → Type 0) → List A → Type 0
Rising R [] = Unit {0}
Rising {A} R (x ∷ xs) = ((y : A) → Memᴰ y xs → R x y) × Rising R xs

-- Eight places: a list, and `d` beyond it (Packing; Quantities, on choosing).
abbrev pub padded : {A : Type 0} → A → List A → List A
padded d xs = xs ++ replicate (8 - length xs) d

-- The jobs of a profile: the first n of its eight places (Packing). An n above 8 is refused; places beyond the eight read as `no_job`.
abbrev pub jobs_of : Profile → List Job
jobs_of p = entries no_job p.jobs 0 p.n

-- The periods that count among eight numbers: as many as there are jobs (Quantities, on scoring).
abbrev pub periods_of : Profile → List Seconds → List Seconds
periods_of p ts = entries (seconds 0) ts 0 p.n

-- What loss takes from a run of a job: its pages, c = d + g (Quantities: loss).
unfoldable pub cost : Job → ℕ
cost j = j.«data» + j.metadata

-- A period that a job may have after the period `before`: in its interval, and a whole multiple (Quantities).
pub record Allowed (j : Job) (before t : Seconds) : Type 0 where
  pub above : j.lo.0 ≤ t.0
  pub below : t.0 ≤ j.hi.0
  pub multiple : t.0 % before.0 ≡ 0

-- One period for each job, each allowed after the one before it (Quantities).
abbrev pub PermittedAfter : Seconds → List Job → List Seconds → Type 0
PermittedAfter before [] [] = Unit {0}
PermittedAfter before [] (t ∷ ts) = ⊥
PermittedAfter before (j ∷ js) [] = ⊥
PermittedAfter before (j ∷ js) (t ∷ ts) = Allowed j before t × PermittedAfter t js ts

-- Permitted periods (Quantities). The first job has no period before it: every number is a multiple of one second.
abbrev pub Permitted : List Job → List Seconds → Type 0
Permitted js ts = PermittedAfter (seconds 1) js ts

-- Tn, the last period; `before` where there is none.
unfoldable pub last_of : Seconds → List Seconds → Seconds
last_of before [] = before
last_of before (t ∷ ts) = last_of t ts

-- The jobs that run at a second: all start together at second 0, so these are the jobs whose period divides it (02, Ticket 3).
unfoldable pub running : List Job → List Seconds → ℕ → List Job
running [] ts moment = []
running (j ∷ js) [] moment = []
running (j ∷ js) (t ∷ ts) moment = cond (eqb (moment % t.0) 0) (j ∷ running js ts moment) (running js ts moment)

-- The data that these jobs write when each runs once ..
unfoldable pub data_of : List Job → ℕ
data_of [] = 0
data_of (j ∷ js) = j.«data» + data_of js

-- .. and the metadata that the drive commits if they fall on one second: once, and as much as the largest of theirs (02, Ticket 3).
unfoldable pub commit_of : List Job → ℕ
commit_of [] = 0
commit_of (j ∷ js) = max j.metadata (commit_of js)

-- What the drive writes at a second: the data of every job that runs, and one commit (02, Ticket 3).
unfoldable pub pages_at : List Job → List Seconds → ℕ → ℕ
pages_at js ts moment = data_of (running js ts moment) + commit_of (running js ts moment)

-- The sum of f over the first k multiples of `every`; 0 is not one of them.
unfoldable pub sum_over : (ℕ → ℕ) → ℕ → ℕ → ℕ
sum_over f every zero = 0
sum_over f every (suc k) = sum_over f every k + f (suc k * every)

-- The pages that jobs at these periods write in the seconds 1 to `time`: the sum over the moments, which are the multiples of T1 among
-- these. Every permitted period is a multiple of T1, so between two moments no job runs (02, Ticket 3).
unfoldable pub pages_in : Seconds → List Job → List Seconds → ℕ
pages_in time js [] = 0
pages_in time js (t ∷ ts) = sum_over (pages_at js (t ∷ ts)) t.0 (time.0 / t.0)

-- So many pages in every t seconds, as hourly pages without rounding: 3,600 times as many over t, which are whole pages per hour and a
-- remainder over t, below it (02, Ticket 4).
abbrev pub per_hour : ℕ → Seconds → ExactNeed
per_hour pages t = record { whole = pages_per_hour (3600 * pages / t.0); remainder = record { 0 = 3600 * pages % t.0 } }

-- The need of a plan without rounding, as scoring and choosing show it: the pages of Tn seconds, per hour (Quantities: need; 02, Tickets
-- 3 and 4).
unfoldable pub exact_need : List Job → List Seconds → ExactNeed
exact_need js ts = let cycle = last_of (seconds 1) ts in per_hour (pages_in cycle js ts) cycle

-- A need rounded up to whole pages. Nothing else rounds one (Quantities: need; 02, Ticket 4).
unfoldable pub rounded_up : ExactNeed → PagesPerHour
rounded_up q = pages_per_hour (cond (eqb q.remainder.0 0) q.whole.0 (q.whole.0 + 1))

-- The need where it meets a budget, settles a tie, is a row's start or the detail of 10: rounded up once (Quantities: need; 02, Ticket 4).
unfoldable pub need : List Job → List Seconds → PagesPerHour
need js ts = rounded_up (exact_need js ts)

-- Periods fit a budget when their need is at most that (Quantities).
abbrev pub FitsBudget : List Job → List Seconds → PagesPerHour → Type 0
FitsBudget js ts b = (need js ts).0 ≤ b.0

-- The hourly rate of a job at a period, rounded down (Quantities: loss).
unfoldable pub rate : Job → Seconds → PagesPerHour
rate j t = pages_per_hour (3600 * cost j / t.0)

-- What one job loses at a period against its shortest (Quantities: loss).
unfoldable pub job_loss : Job → Seconds → ℕ
job_loss j t = j.stiffness * ((rate j j.lo).0 - (rate j t).0) ^ 2

-- The loss of a plan: the sum over its jobs (Quantities).
unfoldable pub loss : List Job → List Seconds → ℕ
loss [] ts = 0
loss (j ∷ js) [] = 0
loss (j ∷ js) (t ∷ ts) = job_loss j t + loss js ts

-- One list of periods is another, or is smaller at the first period in which they differ (Quantities: best). A list that ends
-- before they differ counts as not after the other; permitted lists of one profile are of one length.
abbrev pub NotAfter : List Seconds → List Seconds → Type 0
NotAfter [] us = Unit {0}
NotAfter (t ∷ ts) [] = ⊥
NotAfter (t ∷ ts) (u ∷ us) = (t.0 ≤ u.0) × (t.0 ≡ u.0 → NotAfter ts us)

-- The order of plans: loss, on equal loss need, on equal need the list (Quantities: best).
pub record NoWorse (js : List Job) (ts us : List Seconds) : Type 0 where
  pub loss_first : loss js ts ≤ loss js us
  pub need_next : loss js ts ≡ loss js us → (need js ts).0 ≤ (need js us).0
  pub list_last : loss js ts ≡ loss js us → (need js ts).0 ≡ (need js us).0 → NotAfter ts us

-- Best for a budget: permitted, fitting, and no worse than any other list that is (Quantities: best).
pub record Best (js : List Job) (b : PagesPerHour) (ts : List Seconds) : Type 0 where
  pub permitted : Permitted js ts
  pub fits : FitsBudget js ts b
  pub first : (us : List Seconds) → Permitted js us → FitsBudget js us b → NoWorse js ts us

-- Refusal numbers

-- What an operation says of its input alone: sound, or why it refuses (Refusal numbers).
abbrev pub Verdict : Type 0
Verdict = Result Unit Refusal

abbrev pub sound : Verdict
sound = Ok tt

-- The number and the detail of each refusal; 0 and 0 stand where there is none (Refusal numbers, the table).
abbrev pub told_of : {A : Type 0} → Result A Refusal → ℕ × ℕ
told_of (Ok answer) = (0, 0)
told_of (Err NoBytes) = (1, 0)
told_of (Err Edition) = (2, 0)
told_of (Err JobCount) = (3, 0)
told_of (Err Length) = (4, 0)
told_of (Err (Interval k)) = (5, k)
told_of (Err (Stiffness k)) = (6, k)
told_of (Err (Spare k)) = (7, k)
told_of (Err (Pages k)) = (8, k)
told_of (Err NoPeriods) = (9, 0)
told_of (Err (Budget b)) = (10, b.0)
told_of (Err (Room k)) = (11, k)
told_of (Err (Row k)) = (12, k)
told_of (Err (Periods k)) = (13, k)

abbrev pub number_of : {A : Type 0} → Result A Refusal → ℕ
number_of r = (told_of r).0

abbrev pub detail_of : {A : Type 0} → Result A Refusal → ℕ
detail_of r = (told_of r).1

-- A refusal where a test holds, else what comes after it: the order of the checks (Refusal numbers, order).
unfoldable pub refuse_if : {A : Type 0} → Bool → Refusal → Result A Refusal → Result A Refusal
refuse_if test refusal rest = cond test (Err refusal) rest

-- The refusal of a verdict; a sound one gives way to what comes after it.
unfoldable pub or_else : {A : Type 0} → Verdict → Result A Refusal → Result A Refusal
or_else (Ok none) rest = rest
or_else (Err refusal) rest = Err refusal

-- The verdict of an answer.
unfoldable pub verdict_in : {A : Type 0} → Result A Refusal → Verdict
verdict_in (Ok answer) = sound
verdict_in (Err refusal) = Err refusal

-- What stands in a lent buffer beside an answer, and what beside a refusal (Refusal numbers).
unfoldable pub if_sound : {A B : Type 0} → Result B Refusal → A → A → A
if_sound (Ok answer) put kept = put
if_sound (Err refusal) put kept = kept

-- The first refusal as the entries of a list are judged one by one, each with its number, the first one's being k + 1.
unfoldable pub first_refused : {A : Type 0} → (A → ℕ → Verdict) → ℕ → List A → Verdict
first_refused judgeOne k [] = sound
first_refused judgeOne k (x ∷ xs) = or_else (judgeOne x (k + 1)) (first_refused judgeOne (k + 1) xs)

-- What 5 and 6 ask (Refusal numbers).
abbrev pub bad_interval : Job → Bool
bad_interval j = eqb j.lo.0 0 || (ltb j.hi.0 j.lo.0 || ltb 3600 j.hi.0)

abbrev pub bad_stiffness : Job → Bool
bad_stiffness j = eqb j.stiffness 0 || ltb 32 j.stiffness

-- 5, then 6, for the job numbered k: what bytes and values share (Refusal numbers).
unfoldable pub judge_interval_and_stiffness : Job → ℕ → Verdict
judge_interval_and_stiffness j k = refuse_if (bad_interval j) (Interval k) (refuse_if (bad_stiffness j) (Stiffness k) sound)

-- 5, 6, then 8, for the job numbered k, given as values (Refusal numbers).
unfoldable pub judge_job : Job → ℕ → Verdict
judge_job j k = or_else (judge_interval_and_stiffness j k) (refuse_if (ltb 32767 j.«data» || ltb 32767 j.metadata) (Pages k) sound)

-- The verdict on a profile given as values: 3, then the first bad job (Refusal numbers, order).
unfoldable pub verdict_of : Profile → Verdict
verdict_of p = refuse_if (eqb p.n 0 || ltb 8 p.n) JobCount (first_refused judge_job 0 (jobs_of p))

-- An answer: the profile's own refusal, and only then the rest (Refusal numbers, order).
pub record ProfileFirst {A : Type 0} (p : Profile) (Rest : Result A Refusal → Type 0) (r : Result A Refusal) : Type 0 where
  pub own : {refusal : Refusal} → verdict_of p ≡ Err refusal → r ≡ Err refusal
  pub rest : verdict_of p ≡ sound → Rest r

-- The bytes of a row, be it a table's or a zone's (Packing).
abbrev pub row_size : ℕ
row_size = 16

-- The verdict on `count` rows for `size` lent bytes: 9 where there are none, then 11 (Refusal numbers, order).
abbrev pub count_verdict : ℕ → ℕ → Verdict
count_verdict count size = refuse_if (eqb count 0) NoPeriods (refuse_if (ltb (size / row_size) count) (Room count) sound)

-- What an operation that puts bytes into a lent buffer may answer, and leave of one that held `old`: the profile's own refusal, else
-- that of the `next` verdict, and then every byte as it was; else the count, `many`, and the bytes `front` before the rest (The table;
-- Refusal numbers).
pub record PutsFront (p : Profile) (next : Verdict) (many : ℕ) (front old : List ℕ) (r : Result ℕ Refusal) (new : List ℕ) : Type 0 where
  pub answer : r ≡ or_else (verdict_of p) (or_else next (Ok many))
  pub bytes : new ≡ if_sound r (front ++ drop (length front) old) old
