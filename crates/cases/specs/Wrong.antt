-- The wrong programs that document 01 names in its last section, as functions from inputs to outcomes. A defect asks for no more than
-- what names it, and leaves open what else such a function does. proofs/Wrong.antt shows that each fails its contract already at one
-- or two inputs that any caller can give; the functions of this project meet theirs at every input. Assumes nothing.
use Rattle.std.specs.Prelude.{◌≡◌, Result, IsErr, IfOk, OnOk, List, ℕ, ◌<◌}
use Rattle.model.specs.declared.PagesPerHour.{PagesPerHour}
use Rattle.model.specs.declared.Profile.{Profile}
use Rattle.model.specs.declared.Refusal.{Refusal}
use Rattle.model.specs.Model.{pages_per_hour}
use Rattle.table_row.specs.Table.{bytes_at}
use Rattle.choose.specs.declared.Choice.{Choice}
use Rattle.choose.specs.Choice.{Chosen}

-- A chooser, and what its contract asks of it for one profile and budget.
abbrev pub Chooser : Type 0
Chooser = Profile → PagesPerHour → Result Choice Refusal

abbrev pub ChoosesFor : Profile → ℕ → Chooser → Type 0
ChoosesFor p b f = Chosen p (pages_per_hour b) (f p (pages_per_hour b))

-- A builder of tables, a lister of zones or a writer of profiles: from a profile and a lent buffer to the answer and the bytes that it
-- leaves there. And what a contract of these, `Allows`, asks of it for one profile and buffer.
abbrev pub Filler : Type 0
Filler = Profile → List ℕ → Result ℕ Refusal × List ℕ

abbrev pub MeetsAt : (Allows : Profile → List ℕ → Result ℕ Refusal → List ℕ → Type 0) → Profile → List ℕ → Filler → Type 0
MeetsAt Allows p old f = Allows p old (f p old).0 (f p old).1

-- It refuses everything.
abbrev pub RefusesEverything : Chooser → Type 0
RefusesEverything f = (p : Profile) (b : PagesPerHour) → IsErr (f p b)

-- It gives one fixed plan: where it refuses neither of two budgets, the same periods for both.
abbrev pub GivesOnePlan : Chooser → Type 0
GivesOnePlan f = (p : Profile) (b c : PagesPerHour) → IfOk (f p b) (λ one. IfOk (f p c) (λ other. one.periods ≡ other.periods))

-- It writes no row, or stores nothing: where it refuses nothing, the buffer is still as it was. (One that tells no rows is below.)
abbrev pub StoresNothing : Filler → Type 0
StoresNothing f = (p : Profile) (old : List ℕ) → OnOk (f p old).0 ((f p old).1 ≡ old)

-- It repeats its first row, correct or not: where it refuses nothing, every row that it counts is as that one.
abbrev pub RepeatsFirstRow : Filler → Type 0
RepeatsFirstRow f = (p : Profile) (old : List ℕ) → IfOk (f p old).0 (λ count. (k : ℕ) → k < count → bytes_at (f p old).1 k ≡ bytes_at (f p old).1 0)

-- It invents its count: of two profiles with as many jobs, neither of which it refuses, it tells the same, be it a fixed number, the
-- room or something of the number of jobs.
abbrev pub InventsCount : Filler → Type 0
InventsCount f = (p q : Profile) (old : List ℕ) → p.n ≡ q.n → IfOk (f p old).0 (λ one. IfOk (f q old).0 (λ other. one ≡ other))
