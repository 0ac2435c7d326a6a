-- The next answers below a limit are the last rows of the table there, from the back: each is the last row of what the rows before it left.
-- Assumes nothing.
use mathlib.Core.Path.{◌≡◌, sym, ◌∙◌, ap}
use mathlib.Core.List.{List, [], ◌∷◌, ◌++◌, map, reverse, append-nil, append_assoc, reverse-cons}
use Prim.Native.Nat.{ℕ, suc, ◌+◌, ◌-◌, ◌<◌}
use native.Mathlib.Omega.{arith}
use lib.ListN.{length, length-append, length-map, length-reverse}
use Rattle.model.specs.declared.Seconds.{Seconds}
use Rattle.model.specs.declared.PagesPerHour.{PagesPerHour}
use Rattle.model.specs.declared.Job.{Job}
use Rattle.model.specs.declared.Profile.{Profile}
use Rattle.model.specs.Model.{jobs_of}
use Rattle.model.specs.Valid.{ValidJobs, Valid}
use Rattle.table_stairs.specs.Stairs.{Stair, stair}
use Rattle.table_stairs.specs.Ordered.{row_at}
use Rattle.table_climb.specs.Next.{Answer, NextAnswers, last_need, AnswersUnder}
use Rattle.table_climb.proofs.Answers.{need_last}
use Rattle.table.specs.Descent.{rows_below}
use Rattle.table.proofs.Descent.{rows_step, rows_none}

module _ (js : List Job) (v : ValidJobs js) where
  -- one answer
  pub rows_answer : {limit : ℕ} {r : Stair} → Answer js limit r → rows_below js limit ≡ rows_below js r.its_need ++ (r.periods ∷ [])
  rows_answer {limit} {r} a = rw (a.greatest, a.need_is) (rows_step js v a.budget r.periods a.best)

  pub rows_next : (limit : ℕ) (rows : List Stair) → NextAnswers js limit rows → rows_below js limit ≡ rows_below js (last_need limit rows) ++ reverse (map (λ r. r.periods) rows)
  unfolding last_need
  rows_next limit [] h = sym (append-nil (rows_below js limit))
  rows_next limit (r ∷ rows) h =
      let left = rows_below js (last_need r.its_need rows) in
      let later = reverse (map (λ (s : Stair). s.periods) rows) in
      rows_answer h.0
      ∙ ap (λ (l : List (List Seconds)). l ++ (r.periods ∷ [])) (rows_next r.its_need rows h.1)
      ∙ append_assoc left later (r.periods ∷ [])
      ∙ ap (λ (l : List (List Seconds)). left ++ l) (sym (reverse-cons r.periods (map (λ (s : Stair). s.periods) rows)))

  -- how many they are
  pub count_next : (limit : ℕ) (rows : List Stair) → NextAnswers js limit rows → length (rows_below js limit) ≡ length (rows_below js (last_need limit rows)) + length rows
  count_next limit rows h = ap length (rows_next limit rows h) ∙ simp (length-append, length-reverse, length-map)

  -- where there is none, no row is left
  pub rows_no_answer : (b : PagesPerHour) (rows : List Stair) → AnswersUnder js b rows → length rows ≡ 0 → rows_below js (suc b.0) ≡ []
  rows_no_answer b rows a e = rows_none js v b (a.none e)

-- a batch, as the functions of this crate get it
module _ {p : Profile} (v : Valid p) {budget : PagesPerHour} {rows : List Stair} (b : AnswersUnder (jobs_of p) budget rows) where
  pub batch_need : 0 < length rows → (row_at rows (length rows - 1)).its_need ≡ last_need (suc budget.0) rows
  batch_need some = sym (need_last (stair 0 0 []) (suc budget.0) rows (length rows - 1) (omega arith))

  pub batch_count : length (rows_below (jobs_of p) (suc budget.0)) ≡ length (rows_below (jobs_of p) (last_need (suc budget.0) rows)) + length rows
  batch_count = count_next (jobs_of p) v.jobs (suc budget.0) rows b.next

  pub batch_none : length rows ≡ 0 → rows_below (jobs_of p) (suc budget.0) ≡ []
  batch_none e = rows_no_answer (jobs_of p) v.jobs budget rows b e
