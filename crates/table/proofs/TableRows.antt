-- Table rows: the row of an answer has its need and periods, and row stands before row from the back of the table.
-- Assumes nothing.
use mathlib.Core.Path.{◌≡◌, refl, sym, ◌∙◌, ap, ap₂, subst}
use mathlib.Core.List.{List, [], ◌∷◌, ◌++◌, append_assoc, append-nil, flat_map}
use Prim.Native.Nat.{ℕ, zero, suc, ◌+◌, ◌*◌, ◌-◌, ◌/◌, ◌^◌, ◌≤◌, ◌<◌}
use native.Mathlib.Omega.{arith}
use native.Mathlib.Nat.{le_refl, sub-zero}
use lib.ListN.{length, get_or, take, drop, replicate, length-append, length-drop, take-append-drop}
use lib.Seq.{take-take, take-append-le, drop_at, length-take-le}
use Rattle.model.specs.declared.Seconds.{Seconds}
use Rattle.model.specs.declared.PagesPerHour.{PagesPerHour}
use Rattle.model.specs.declared.Job.{Job}
use Rattle.model.specs.Model.{seconds, pages_per_hour, need, row_size}
use Rattle.model.specs.Valid.{ValidJobs}
use Rattle.codec.specs.RowWords.{with_row}
use Rattle.codec.proofs.Rows.{row_in}
use Rattle.table_row.specs.Table.{table_row}
use Rattle.table_row.proofs.Words.{length_table_row}
use Rattle.table_stairs.specs.Stairs.{Stair}
use Rattle.table_climb.specs.Next.{Answer, NextAnswers, last_need}
use Rattle.table_batch.specs.Batch.{batch_row, with_batch}
use Rattle.table.specs.Table.{table_bytes}
use Rattle.table.specs.Descent.{rows_below, all_budgets}
use Rattle.table.proofs.Next.{rows_answer}

-- zeros behind a list are what stands beyond it
get_d_zeros : (k i : ℕ) → get_or (replicate k (seconds 0)) i (seconds 0) ≡ seconds 0
get_d_zeros zero i = refl
get_d_zeros (suc k) zero = refl
get_d_zeros (suc k) (suc i) = get_d_zeros k i

pub get_d_padded : (ts : List Seconds) (k i : ℕ) → get_or (ts ++ replicate k (seconds 0)) i (seconds 0) ≡ get_or ts i (seconds 0)
get_d_padded [] k i = get_d_zeros k i
get_d_padded (t ∷ ts) k zero = refl
get_d_padded (t ∷ ts) k (suc i) = get_d_padded ts k i

-- the row of an answer has its need and its periods
answer_row : {js : List Job} {limit : ℕ} {r : Stair} → Answer js limit r → batch_row r ≡ table_row (need js r.periods) r.periods
answer_row {r = r} a = ap (λ (q : ℕ). table_row (pages_per_hour q) r.periods) a.need_is

-- a row more changes no length
row_length : (out : List ℕ) (k : ℕ) (start : PagesPerHour) (ts : List Seconds) → k < length out / row_size → length (with_row out k (table_row start ts)) ≡ length out
row_length out k start ts room =
    let front : length (take (row_size * k) out) ≡ row_size * k = length-take-le (row_size * k) out (omega arith) in
    ap length (row_in out (table_row start ts) k room) ∙ simp (length-append, front, length_table_row start ts, length-drop) (omega arith)

-- writing, with the rows of the budgets below the limit still to come: those behind them stand in their places
pub record Writing (js : List Job) (count : ℕ) (old out : List ℕ) (row limit : ℕ) : Type 0 where
  pub written : List (List Seconds)
  pub whole : rows_below js all_budgets ≡ rows_below js limit ++ written
  pub left : row ≡ length (rows_below js limit)
  pub upto : row ≤ count
  pub same : length out ≡ length old
  pub bytes : out ≡ take (row_size * row) old ++ (table_bytes js written ++ drop (row_size * count) old)

module _ (js : List Job) (count : ℕ) (old : List ℕ) where
  pub none_written : count ≡ length (rows_below js all_budgets) → Writing js count old old count (2 ^ 32)
  unfolding table_bytes flat_map
  none_written e = record {
    written = [];
    whole = sym (append-nil _);
    left = e;
    upto = le_refl _;
    same = refl;
    bytes = sym (take-append-drop (row_size * count) old);
  }

  module _ (out : List ℕ) (row limit : ℕ) (i : Writing js count old out row limit) where
    pub all_written : row ≤ 0 → out ≡ table_bytes js (rows_below js all_budgets) ++ drop (row_size * count) old
    all_written e =
        let z : row ≡ 0 = omega arith in
        let none : rows_below js limit ≡ [] = nil_of_zero (rows_below js limit) (sym i.left ∙ z) in
        let all : i.written ≡ rows_below js all_budgets = sym (i.whole ∙ ap (λ (l : List (List Seconds)). l ++ i.written) none) in
        i.bytes ∙ ap₂ (λ (k : ℕ) (ws : List (List Seconds)). take (row_size * k) old ++ (table_bytes js ws ++ drop (row_size * count) old)) z all
      where
        nil_of_zero : (l : List (List Seconds)) → length l ≡ 0 → l ≡ []
        nil_of_zero [] d = refl
        nil_of_zero (x ∷ l) d = absurd (omega arith)

    one_written : ValidJobs js → {r : Stair} → Answer js limit r → count ≤ length old / row_size →
        Writing js count old (with_row out (row - 1) (table_row (need js r.periods) r.periods)) (row - 1) r.its_need
    unfolding table_bytes flat_map
    one_written v {r} a room =
        let ts = r.periods in
        let R = table_row (need js ts) ts in
        let T = table_bytes js i.written in
        let D = drop (row_size * count) old in
        let P = take (row_size * row) old in
        let earlier = rows_below js r.its_need in
        let step : rows_below js limit ≡ earlier ++ (ts ∷ []) = rows_answer js v a in
        let one_more : row ≡ length earlier + 1 = i.left ∙ ap length step ∙ length-append earlier (ts ∷ []) in
        let place = row_size * (row - 1) in
        let next : place + row_size ≡ row_size * row = omega arith in
        let front : length P ≡ row_size * row = length-take-le (row_size * row) old (omega (arith, i.upto)) in
        let before-it : take place out ≡ take place old = ap (take place) i.bytes ∙ take-append-le place P (T ++ D) (omega arith) ∙ take-take place (row_size * row) old (omega arith) in
        let after-it : drop (place + row_size) out ≡ T ++ D = ap₂ drop next i.bytes ∙ drop_at P (T ++ D) (row_size * row) front in
        let inside : row - 1 < length out / row_size = subst (λ (k : ℕ). row - 1 < k / row_size) (sym i.same) (omega (arith, i.upto)) in
        let around : with_row out (row - 1) R ≡ take place old ++ (R ++ (T ++ D)) = row_in out R (row - 1) inside ∙ ap₂ (λ (a b : List ℕ). a ++ (R ++ b)) before-it after-it in
        record {
          written = ts ∷ i.written;
          whole = i.whole ∙ ap (λ (l : List (List Seconds)). l ++ i.written) step ∙ append_assoc earlier (ts ∷ []) i.written;
          left = omega arith;
          upto = omega (arith, i.upto);
          same = row_length out (row - 1) (need js ts) ts inside ∙ i.same;
          bytes = around ∙ ap (λ (l : List ℕ). take place old ++ l) (sym (append_assoc R T D));
        }

  -- told in other words
  written_alike : {out out' : List ℕ} {row row' limit limit' : ℕ} → out' ≡ out → row' ≡ row → limit' ≡ limit → Writing js count old out row limit
      → Writing js count old out' row' limit'
  written_alike a b c i = rw (a, b, c) i

-- the rows of a batch, one after the other
module _ {js : List Job} {count : ℕ} {old : List ℕ} (v : ValidJobs js) (room : count ≤ length old / row_size) where
  pub batch_written : (rows : List Stair) {out : List ℕ} {row limit : ℕ} → NextAnswers js limit rows → Writing js count old out row limit →
      Writing js count old (with_batch rows row out) (row - length rows) (last_need limit rows)
  unfolding with_batch last_need
  batch_written [] h i = rw sub-zero i
  batch_written (r ∷ rows) {out} {row} {limit} h i =
      let left : row - 1 - length rows ≡ row - suc (length rows) = omega arith in
      let one = one_written js count old out row limit i v h.0 room in
      rw (← left, answer_row h.0) (batch_written rows h.1 one)
