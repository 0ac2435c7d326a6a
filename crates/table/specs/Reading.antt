-- The answer that is read from a table: what `table_answers` and `built_answers` in proofs/Reading.antt are stated with. No contract cites
-- this. Assumes nothing.
use Rattle.std.specs.Prelude.{Result, Ok, Err, List, [], ◌∷◌, cond, leb, ltb}
use Rattle.model.specs.declared.Seconds.{Seconds}
use Rattle.model.specs.declared.PagesPerHour.{PagesPerHour}
use Rattle.model.specs.declared.Job.{Job}
use Rattle.model.specs.declared.Refusal.{Refusal}
use Rattle.model.specs.declared.Refusal.TheVariants.{NoPeriods, Budget}
use Rattle.model.specs.Model.{need}
use Rattle.choose.specs.declared.Choice.{Choice}
use Rattle.choose.specs.Choice.{answered}

-- The last row whose need is at most the budget, after the row ts, whose need is.
unfoldable pub last_row : List Job → PagesPerHour → List Seconds → List (List Seconds) → List Seconds
last_row js b ts [] = ts
last_row js b ts (us ∷ rows) = cond (leb (need js us).0 b.0) (last_row js b us rows) ts

-- The answer that a table gives: that row; below the first start, 10 with that start.
unfoldable pub read_table : List Job → List (List Seconds) → PagesPerHour → Result Choice Refusal
read_table js [] b = Err NoPeriods
read_table js (ts ∷ rows) b = cond (ltb b.0 (need js ts).0) (Err (Budget (need js ts))) (Ok (answered js (last_row js b ts rows)))
