-- The row that answers a budget: sought from the last row down it is the row at hand, or else it is among those before. There is one where
-- the first start is within the budget, and there are never two. Assumes nothing.
use mathlib.Core.Path.{◌≡◌, refl, ap}
use mathlib.Core.List.{List}
use mathlib.Core.Bool.{Bool, true, false, cond}
use Prim.Native.Nat.{ℕ, zero, suc, ◌≤◌, ◌<◌}
use native.Mathlib.Nat.{not-suc-le-zero, le_antisymm, le_of_suc-le-suc, lt_of_not-le}
use native.Mathlib.Omega.{arith}
use lib.Dec.{leb}
use borrow.Author.Tests.{leb-true, leb-false}
use Rattle.model.specs.declared.PagesPerHour.{PagesPerHour}
use Rattle.model.specs.declared.Profile.{Profile}
use Rattle.table_row.specs.Table.{rows_in, start_at}
use Rattle.table_check.specs.Formed.{WholeRows, WellFormed}
use Rattle.table_check.proofs.Turns.{below_next}
use Rattle.table_lookup.specs.Lookup.{Answers}

pub some_row : (bytes : List ℕ) → WholeRows bytes → 0 < rows_in bytes
some_row bytes w = omega (arith, w.some, w.whole)

-- the last of the first m rows whose start is at most the budget; row 0 where there is none
unfoldable pub last_within : List ℕ → PagesPerHour → ℕ → ℕ
last_within bytes b zero = 0
last_within bytes b (suc m) = cond (leb (start_at bytes m).0 b.0) m (last_within bytes b m)

-- it answers among them
record LastOf (bytes : List ℕ) (b : PagesPerHour) (m k : ℕ) : Type 0 where
  there : k < m
  within : (start_at bytes k).0 ≤ b.0
  last : (i : ℕ) → k < i → i < m → b.0 < (start_at bytes i).0

last_of : (bytes : List ℕ) (b : PagesPerHour) (m : ℕ) → 0 < m → (start_at bytes 0).0 ≤ b.0 → LastOf bytes b m (last_within bytes b m)
unfolding last_within
last_of bytes b zero some h = absurd (not-suc-le-zero some)
last_of bytes b (suc m) some h = go (leb (start_at bytes m).0 b.0) refl m refl (last_of bytes b m)
  where
    later : b.0 < (start_at bytes m).0 → LastOf bytes b m (last_within bytes b m) → LastOf bytes b (suc m) (last_within bytes b m)
    later big l =
        let Beyond : ℕ → Type 0 = λ j. last_within bytes b m < j → b.0 < (start_at bytes j).0 in
        record {
          there = omega (arith, l.there);
          within = l.within;
          last = λ i after to. below_next {P = Beyond} (λ _. big) (λ j less past. l.last j past less) i (omega arith) after;
        }

    go : (t : Bool) → leb (start_at bytes m).0 b.0 ≡ t → (n : ℕ) → n ≡ m →
        (0 < m → (start_at bytes 0).0 ≤ b.0 → LastOf bytes b m (last_within bytes b m)) → LastOf bytes b (suc m) (cond t m (last_within bytes b m))
    go true e n f rec = record { there = omega arith; within = leb-true _ _ e; last = λ i after below. absurd (omega arith) }
    go false e zero f rec = absurd (omega (arith, leb-false (start_at bytes m).0 b.0 e, ap (λ (j : ℕ). (start_at bytes j).0) f))
    go false e (suc n) f rec = later (leb-false _ _ e) (rec (omega arith) h)

pub last_answers : (bytes : List ℕ) (b : PagesPerHour) → WholeRows bytes → (start_at bytes 0).0 ≤ b.0 → Answers bytes b (last_within bytes b (rows_in bytes))
last_answers bytes b w h =
    let l = last_of bytes b (rows_in bytes) (some_row bytes w) h in
    record { there = l.there; within = l.within; last = l.last }

-- numbers of which neither is the less are the same
pub neither_less : {k j : ℕ} → (k < j → ⊥) → (j < k → ⊥) → k ≡ j
neither_less not-less not_more = le_antisymm (le_of_suc-le-suc (lt_of_not-le not_more)) (le_of_suc-le-suc (lt_of_not-le not-less))

-- no two rows answer
pub one_answers : (bytes : List ℕ) (b : PagesPerHour) (k j : ℕ) → Answers bytes b k → Answers bytes b j → k ≡ j
one_answers bytes b k j one other =
    neither_less
    (λ less. omega (arith, one.last j less other.there, other.within))
    (λ less. omega (arith, other.last k less one.there, one.within))

-- along a well-formed table starts rise, so none answers a budget below the first
module _ (p : Profile) (bytes : List ℕ) (w : WellFormed p bytes) where
  pub starts_climb : (j i : ℕ) → i < j → j < rows_in bytes → (start_at bytes i).0 < (start_at bytes j).0
  starts_climb zero i after less = absurd (not-suc-le-zero after)
  starts_climb (suc j) i after less =
      let step : (start_at bytes j).0 < (start_at bytes (suc j)).0 = (w.rows (suc j) less).start_rises j (omega arith) in
      let Less : ℕ → Type 0 = λ n. (start_at bytes n).0 < (start_at bytes (suc j)).0 in
      below_next {P = Less} step (λ n more. omega (arith, starts_climb j n more (omega arith))) i (omega arith)

  pub below_none : (b : PagesPerHour) → b.0 < (start_at bytes 0).0 → (k : ℕ) → Answers bytes b k → ⊥
  below_none b less zero a = omega (arith, a.within)
  below_none b less (suc k) a = omega (arith, a.within, starts_climb (suc k) 0 (omega arith) a.there)
