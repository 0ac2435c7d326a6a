-- The check of a table as tests that compute: a row is good exactly where its tests hold, and the first for which they do not is the first
-- bad one. Worked cases are computed with them. Assumes nothing.
use mathlib.Core.Path.{◌≡◌, refl, sym, ◌∙◌, subst}
use mathlib.Core.List.{List, [], ◌∷◌}
use mathlib.Core.Bool.{Bool, true, false, cond, ◌&&◌, true≢false}
use mathlib.Core.Logic.{⊎_elim}
use Prim.Native.Nat.{ℕ, zero, suc, ◌+◌, ◌-◌, ◌≤◌, ◌<◌}
use native.Mathlib.Nat.{eq-or-lt_of_le, not-suc-le-zero}
use native.Mathlib.Omega.{arith}
use lib.ListN.{get_or}
use lib.Dec.{eqb}
use borrow.Author.Tests.{eqb-true, eq-eqb}
use Rattle.model.specs.declared.Seconds.{Seconds}
use Rattle.model.specs.declared.Job.{Job}
use Rattle.model.specs.declared.Profile.{Profile}
use Rattle.model.specs.Model.{seconds, jobs_of, periods_of, PermittedAfter, need}
use Rattle.model.specs.Testing.{allows}
use Rattle.model.proofs.Allowing.{both_true, both_hold, allowed, allowed_back}
use Rattle.table_row.specs.Table.{rows_in, start_at, periods_at}
use Rattle.table_check.specs.Formed.{GoodRow}
use Rattle.table_check.specs.Checks.{Checked, all_good, first_bad}
use Rattle.table_row.specs.Cut.{follows}
use Rattle.table_check.proofs.Turns.{below_next, standing_at, standing_before, good_follows, follows_good}
use Rattle.std.proofs.Common.{Option, Some, None}

-- permitted periods
unfoldable pub permits : Seconds → List Job → List Seconds → Bool
permits before [] [] = true
permits before [] (t ∷ ts) = false
permits before (j ∷ js) [] = false
permits before (j ∷ js) (t ∷ ts) = allows j before t && permits t js ts

permits_only : (before : Seconds) (js : List Job) (ts : List Seconds) → permits before js ts ≡ true → PermittedAfter before js ts
unfolding permits
permits_only before [] [] e = tt
permits_only before [] (t ∷ ts) e = absurd (true≢false (sym e))
permits_only before (j ∷ js) [] e = absurd (true≢false (sym e))
permits_only before (j ∷ js) (t ∷ ts) e =
    let both = both_true (allows j before t) e in
    (allowed j before t both.0, permits_only t js ts both.1)

permits_all : (before : Seconds) (js : List Job) (ts : List Seconds) → PermittedAfter before js ts → permits before js ts ≡ true
unfolding permits
permits_all before [] [] h = refl
permits_all before [] (t ∷ ts) h = absurd h
permits_all before (j ∷ js) [] h = absurd h
permits_all before (j ∷ js) (t ∷ ts) h = both_hold (allowed_back j before t h.0) (permits_all t js ts h.1)

-- m zeros from place i on
unfoldable pub zeros_from : List Seconds → ℕ → ℕ → Bool
zeros_from ts i zero = true
zeros_from ts i (suc m) = eqb (get_or ts i (seconds 0)).0 0 && zeros_from ts (i + 1) m

zeros_only : (ts : List Seconds) (m i : ℕ) → zeros_from ts i m ≡ true → (j : ℕ) → i ≤ j → j < i + m → (get_or ts j (seconds 0)).0 ≡ 0
unfolding zeros_from
zeros_only ts zero i e j from to = absurd (omega arith)
zeros_only ts (suc m) i e j from to =
    let both = both_true (eqb (get_or ts i (seconds 0)).0 0) e in
    ⊎_elim
    (λ (same : i ≡ j). subst (λ (k : ℕ). (get_or ts k (seconds 0)).0 ≡ 0) same (eqb-true _ 0 both.0))
    (λ (less : i < j). zeros_only ts m (i + 1) both.1 j (omega arith) (omega arith))
    (eq-or-lt_of_le from)

zeros_all : (ts : List Seconds) (m i : ℕ) → ((j : ℕ) → i ≤ j → j < i + m → (get_or ts j (seconds 0)).0 ≡ 0) → zeros_from ts i m ≡ true
unfolding zeros_from
zeros_all ts zero i h = refl
zeros_all ts (suc m) i h = both_hold (eq-eqb _ 0 (h i (omega arith) (omega arith))) (zeros_all ts m (i + 1) (λ j from to. h j (omega arith) (omega arith)))

unfoldable pub row_good : Profile → List ℕ → ℕ → Bool
row_good p bytes k =
    permits (seconds 1) (jobs_of p) (periods_of p (periods_at bytes k))
    && (zeros_from (periods_at bytes k) p.n (8 - p.n) && (eqb (need (jobs_of p) (periods_of p (periods_at bytes k))).0 (start_at bytes k).0 && follows (standing_before p bytes k) (standing_at p bytes k)))

-- the first of m rows from row k on that is not good, counted from 1
unfoldable pub first_bad_from : Profile → List ℕ → ℕ → ℕ → Option ℕ
first_bad_from p bytes k zero = None
first_bad_from p bytes k (suc m) = cond (row_good p bytes k) (first_bad_from p bytes (k + 1) m) (Some (k + 1))

module _ (p : Profile) (bytes : List ℕ) (few : p.n ≤ 8) where
  row_only : (k : ℕ) → row_good p bytes k ≡ true → GoodRow p bytes k
  unfolding row_good
  row_only k e =
      let a = both_true (permits (seconds 1) (jobs_of p) (periods_of p (periods_at bytes k))) e in
      let b = both_true (zeros_from (periods_at bytes k) p.n (8 - p.n)) a.1 in
      let c = both_true (eqb (need (jobs_of p) (periods_of p (periods_at bytes k))).0 (start_at bytes k).0) b.1 in
      record {
        permitted = permits_only _ _ _ a.0;
        zeros = λ i past to. zeros_only _ (8 - p.n) p.n b.0 i past (omega arith);
        start = eqb-true _ _ c.0;
        start_rises = λ j f. (follows_good p bytes k c.1 j f).0;
        loss_falls = λ j f. (follows_good p bytes k c.1 j f).1;
      }

  row_all : (k : ℕ) → GoodRow p bytes k → row_good p bytes k ≡ true
  unfolding row_good
  row_all k g =
      both_hold (permits_all _ _ _ g.permitted)
      (both_hold (zeros_all _ (8 - p.n) p.n (λ j from to. g.zeros j from (omega arith))) (both_hold (eq-eqb _ _ g.start) (good_follows p bytes k g)))

  checked_from : (m k : ℕ) → k + m ≡ rows_in bytes → ((j : ℕ) → j < k → GoodRow p bytes j) → Checked p bytes (first_bad_from p bytes k m)
  unfolding first_bad_from
  checked_from zero k e good = all_good (λ j less. good j (omega arith))
  checked_from (suc m) k e good = go (row_good p bytes k) refl (checked_from m (k + 1) (omega arith))
    where
      go : (t : Bool) → row_good p bytes k ≡ t →
          (((j : ℕ) → j < k + 1 → GoodRow p bytes j) → Checked p bytes (first_bad_from p bytes (k + 1) m)) →
          Checked p bytes (cond t (first_bad_from p bytes (k + 1) m) (Some (k + 1)))
      go true f later = later (below_next {P = GoodRow p bytes} (row_only k f) good)
      go false f later = first_bad {k = k} (record { there = omega arith; bad = λ g. true≢false (sym (row_all k g) ∙ f); before = good })

  pub bad_computed : Checked p bytes (first_bad_from p bytes 0 (rows_in bytes))
  bad_computed = checked_from (rows_in bytes) 0 (omega arith) (λ j h. absurd (not-suc-le-zero h))
