-- The rows of a staircase by their places, and the rows in front that lose less by their number.
-- Assumes nothing.
use mathlib.Core.Path.{◌≡◌, refl, sym, ◌∙◌, ap}
use mathlib.Core.Logic.{⊎_elim}
use mathlib.Core.List.Memᴰ
use mathlib.Core.List.{List, [], ◌∷◌, Memᴰ}
use mathlib.Core.Bool.{Bool, true, false, cond}
use Prim.Native.Nat.{ℕ, zero, suc, ◌+◌, ◌≤◌, ◌<◌, zero-le}
use native.Mathlib.Omega.{arith}
use native.Mathlib.Decide.{dec_lt}
use lib.ListN.{length, take, drop}
use lib.Seq.{get_or-take}
use lib.Dec.{ltb}
use borrow.Author.Tests.{ltb-false, lt-ltb, le-ltb}
use Rattle.table_stairs.specs.Stairs.{Stair, stair, covered, losing_less, needing_less}
use Rattle.table_stairs.specs.Ordered.{Above, Staircase, row_at}
use Rattle.table_stairs.proofs.Updates.{covering, covers}
use Rattle.table_stairs.proofs.Order.{losing_in, losing_has, losing_staircase}

-- the row at a place stands
pub row_in : (rows : List Stair) (k : ℕ) → k < length rows → Memᴰ (row_at rows k) rows
row_in [] k h = absurd (omega arith)
row_in (r ∷ rows) zero h = Memᴰ.head refl
row_in (r ∷ rows) (suc k) h = Memᴰ.tail (row_in rows k (omega arith))

-- earlier rows stand above
pub rises : (rows : List Stair) → Staircase rows → (a b : ℕ) → a < b → b < length rows → Above (row_at rows a) (row_at rows b)
rises [] s a b less to = absurd (omega arith)
rises (r ∷ rows) s a zero less to = absurd (omega arith)
rises (r ∷ rows) s zero (suc b) less to = s.0 (row_at rows b) (row_in rows b (omega arith))
rises (r ∷ rows) s (suc a) (suc b) less to = rises rows s.1 a b (omega arith) (omega arith)

-- a later row, or the same, loses no less and needs no more
along : (rows : List Stair) → Staircase rows → (a b : ℕ) → a ≤ b → b < length rows →
    ((row_at rows a).its_loss ≤ (row_at rows b).its_loss) × ((row_at rows b).its_need ≤ (row_at rows a).its_need)
along rows s a b le to = go (dec_lt a b)
  where
    go : Dec (a < b) → ((row_at rows a).its_loss ≤ (row_at rows b).its_loss) × ((row_at rows b).its_need ≤ (row_at rows a).its_need)
    go (yes less) =
        let above = rises rows s a b less to in
        (omega (arith, above.loses), omega (arith, above.needs))
    go (no same) =
        let is : a ≡ b = omega arith in
        (omega (arith, ap (λ (k : ℕ). (row_at rows k).its_loss) is), omega (arith, ap (λ (k : ℕ). (row_at rows k).its_need) is))

pub loss_up : (rows : List Stair) → Staircase rows → (a b : ℕ) → a ≤ b → b < length rows → (row_at rows a).its_loss ≤ (row_at rows b).its_loss
loss_up rows s a b le to = (along rows s a b le to).0

pub need_down : (rows : List Stair) → Staircase rows → (a b : ℕ) → a ≤ b → b < length rows → (row_at rows b).its_need ≤ (row_at rows a).its_need
need_down rows s a b le to = (along rows s a b le to).1

-- a part of a staircase is one
staircase_drop : (i : ℕ) (rows : List Stair) → Staircase rows → Staircase (drop i rows)
staircase_drop zero rows s = s
staircase_drop (suc i) [] s = s
staircase_drop (suc i) (r ∷ rows) s = staircase_drop i rows s.1

taken_in : (n : ℕ) (rows : List Stair) {r : Stair} → Memᴰ r (take n rows) → Memᴰ r rows
taken_in zero rows m = absurd (Memᴰ.not-nil m)
taken_in (suc n) [] m = m
taken_in (suc n) (x ∷ rows) m = ⊎_elim (λ e. Memᴰ.head e) (λ o. Memᴰ.tail (taken_in n rows o)) (Memᴰ.cases_cons m)

staircase_take : (n : ℕ) (rows : List Stair) → Staircase rows → Staircase (take n rows)
staircase_take zero rows s = tt
staircase_take (suc n) [] s = s
staircase_take (suc n) (r ∷ rows) s = (λ y m. s.0 y (taken_in n rows m), staircase_take n rows s.1)

pub staircase_part : (i n : ℕ) (rows : List Stair) → Staircase rows → Staircase (take n (drop i rows))
staircase_part i n rows s = staircase_take n (drop i rows) (staircase_drop i rows s)

-- the last row needs least
pub last_least : (rows : List Stair) {r : Stair} → Staircase rows → Memᴰ r rows → (k : ℕ) → length rows ≡ suc k → (row_at rows k).its_need ≤ r.its_need
last_least [] s m k e = absurd (Memᴰ.not-nil m)
last_least (x ∷ rows) s m zero e = ⊎_elim (λ d. omega (arith, ap (λ (t : Stair). t.its_need) d)) (λ n. absurd (none rows n (omega arith))) (Memᴰ.cases_cons m)
  where
    none : (ys : List Stair) {y : Stair} → Memᴰ y ys → length ys ≡ 0 → ⊥
    none [] n d = Memᴰ.not-nil n
    none (y ∷ ys) n d = omega arith
last_least (x ∷ rows) {r} s m (suc k) e = ⊎_elim first (λ n. last_least rows s.1 n k (omega arith)) (Memᴰ.cases_cons m)
  where
    first : r ≡ x → (row_at rows k).its_need ≤ r.its_need
    first d = omega (arith, ap (λ (t : Stair). t.its_need) d, (s.0 (row_at rows k) (row_in rows k (omega arith))).needs)

module _ (l : ℕ) where
  -- the rows that lose less stand in front
  pub take_losing_less : (rows : List Stair) → take (length (losing_less l rows)) rows ≡ losing_less l rows
  unfolding losing_less
  take_losing_less [] = refl
  take_losing_less (r ∷ rows) = go (ltb r.its_loss l) (take_losing_less rows)
    where
      go : (t : Bool) → take (length (losing_less l rows)) rows ≡ losing_less l rows → take (length (cond t (r ∷ losing_less l rows) [])) (r ∷ rows) ≡ cond t (r ∷ losing_less l rows) []
      go true e = ap (λ (rs : List Stair). r ∷ rs) e
      go false e = refl

  pub losing_less_upto : (rows : List Stair) → length (losing_less l rows) ≤ length rows
  unfolding losing_less
  losing_less_upto [] = zero-le
  losing_less_upto (r ∷ rows) = go (ltb r.its_loss l) (losing_less_upto rows)
    where
      go : (t : Bool) → length (losing_less l rows) ≤ length rows → length (cond t (r ∷ losing_less l rows) []) ≤ suc (length rows)
      go true e = omega arith
      go false e = zero-le

  -- each of them does, and the row behind them does not
  pub front_loses_less : (rows : List Stair) (k : ℕ) → k < length (losing_less l rows) → (row_at rows k).its_loss < l
  front_loses_less rows k less =
      let e : row_at rows k ≡ row_at (losing_less l rows) k = sym (get_or-take (length (losing_less l rows)) rows k (stair 0 0 []) less) ∙ ap (λ (rs : List Stair). row_at rs k) (take_losing_less rows) in
      omega (arith, ap (λ (t : Stair). t.its_loss) e, (losing_in l rows (row_in (losing_less l rows) k less)).1)

  pub behind_no_less : (rows : List Stair) → length (losing_less l rows) < length rows → l ≤ (row_at rows (length (losing_less l rows))).its_loss
  unfolding losing_less
  behind_no_less [] more = absurd (omega arith)
  behind_no_less (x ∷ rows) more = go (ltb x.its_loss l) (ltb-false x.its_loss l) (behind_no_less rows) more
    where
      go : (t : Bool) → (t ≡ false → l ≤ x.its_loss) → (length (losing_less l rows) < length rows → l ≤ (row_at rows (length (losing_less l rows))).its_loss) →
          length (cond t (x ∷ losing_less l rows) []) < suc (length rows) → l ≤ (row_at (x ∷ rows) (length (cond t (x ∷ losing_less l rows) []))).its_loss
      go true h later k = later (omega arith)
      go false h later k = h refl

  -- their number: the rows before it lose less, the one behind does not
  pub losing_less_is : (rows : List Stair) (r : ℕ) → r ≤ length rows → ((k : ℕ) → k < r → (row_at rows k).its_loss < l) → (r < length rows → l ≤ (row_at rows r).its_loss) → r ≡ length (losing_less l rows)
  unfolding losing_less
  losing_less_is [] r upto less no_less = omega arith
  losing_less_is (x ∷ rows) zero upto less no_less = rw (le-ltb x.its_loss l (no_less (omega arith)))
  losing_less_is (x ∷ rows) (suc r) upto less no_less =
      rw (lt-ltb x.its_loss l (less 0 (omega arith))) (ap suc (losing_less_is rows r (omega arith) (λ k before. less (suc k) (omega arith)) (λ more. no_less (omega arith))))

-- whether some row has at most the need q and at most the loss l: the last of those that lose no more tells
module _ (q l : ℕ) (rows : List Stair) (s : Staircase rows) where
  -- a row that covers is among them
  among_lesser : covered q l rows ≡ true → (r : Stair) × (Memᴰ r (losing_less (l + 1) rows)) × (r.its_need ≤ q)
  among_lesser h =
      let c = covering q l rows h in
      (c.row, losing_has (l + 1) rows s c.stands (omega (arith, c.loses)), c.needs)

  not_covered : (covered q l rows ≡ true → ⊥) → covered q l rows ≡ false
  not_covered h = go (covered q l rows) h
    where
      go : (t : Bool) → (t ≡ true → ⊥) → t ≡ false
      go true k = absurd (k refl)
      go false k = refl

  pub none_covers : length (losing_less (l + 1) rows) ≡ 0 → covered q l rows ≡ false
  none_covers none = not_covered (λ h. let r = among_lesser h in no_row (losing_less (l + 1) rows) none r.1)
    where
      no_row : (ys : List Stair) {y : Stair} → length ys ≡ 0 → Memᴰ y ys → ⊥
      no_row [] e m = Memᴰ.not-nil m
      no_row (x ∷ ys) e m = omega arith

  module _ (k : ℕ) (is : length (losing_less (l + 1) rows) ≡ suc k) where
    last_row : row_at (losing_less (l + 1) rows) k ≡ row_at rows k
    last_row = sym (ap (λ (rs : List Stair). row_at rs k) (take_losing_less (l + 1) rows)) ∙ get_or-take (length (losing_less (l + 1) rows)) rows k (stair 0 0 []) (omega arith)

    pub last_covers_not : q < (row_at rows k).its_need → covered q l rows ≡ false
    last_covers_not more = not_covered clash
      where
        clash : covered q l rows ≡ true → ⊥
        clash h =
            let r = among_lesser h in
            omega (arith, r.2, last_least (losing_less (l + 1) rows) (losing_staircase (l + 1) rows s) r.1 k is, ap (λ (t : Stair). t.its_need) last_row)

    pub last_covers : (row_at rows k).its_need ≤ q → covered q l rows ≡ true
    last_covers needs =
        let i = losing_in (l + 1) rows (row_in (losing_less (l + 1) rows) k (omega arith)) in
        covers q l rows i.0 (omega (arith, ap (λ (t : Stair). t.its_need) last_row)) (omega (arith, i.1))

-- the first row that needs less, by its number
module _ (q : ℕ) where
  pub needing_less_from : (rows : List Stair) (j : ℕ) → j < length rows → ((k : ℕ) → k < j → q ≤ (row_at rows k).its_need) → (row_at rows j).its_need < q → drop j rows ≡ needing_less q rows
  unfolding needing_less
  needing_less_from [] j inside passed less = absurd (omega arith)
  needing_less_from (x ∷ rows) zero inside passed less = rw (lt-ltb x.its_need q less) refl
  needing_less_from (x ∷ rows) (suc j) inside passed less =
      rw (le-ltb x.its_need q (passed 0 (omega arith))) (needing_less_from rows j (omega arith) (λ k before. passed (suc k) (omega arith)) less)

  pub needing_less_none : (rows : List Stair) → ((k : ℕ) → k < length rows → q ≤ (row_at rows k).its_need) → needing_less q rows ≡ []
  unfolding needing_less
  needing_less_none [] passed = refl
  needing_less_none (x ∷ rows) passed = rw (le-ltb x.its_need q (passed 0 (omega arith))) (needing_less_none rows (λ k before. passed (suc k) (omega arith)))
