-- What the update does, case by case: when a plan enters, and which plans leave the rows alone, so that a walk may be cut.
-- Assumes nothing.
use mathlib.Core.Path.{◌≡◌, refl}
use mathlib.Core.Logic.{⊎_elim}
use mathlib.Core.List.Memᴰ
use mathlib.Core.List.{List, [], ◌∷◌, Memᴰ}
use mathlib.Core.Bool.{Bool, true, false, ◌&&◌, ◌||◌, and-false, or-true, false≢true}
use Prim.Native.Nat.{ℕ, ◌≤◌, ◌<◌}
use native.Mathlib.Nat.{le_trans}
use lib.ListN.{length, get_or, take}
use lib.Dec.{leb}
use borrow.Author.Tests.{leb-true, le-leb, lt-leb, lt-ltb, le-ltb}
use Rattle.model.specs.declared.Seconds.{Seconds}
use Rattle.table_stairs.specs.Stairs.{Stair, stair, Stairs, covered, Covering, among, at_most, enter}
use Rattle.walk.specs.Laws.{Keeps}

-- covered is: by such a row
module _ (q l : ℕ) where
  pub covering : (rows : List Stair) → covered q l rows ≡ true → Covering q l rows
  unfolding covered
  covering [] h = absurd (false≢true h)
  covering (r ∷ rows) h = first (λ k. covering rows k) (leb r.its_need q) (leb r.its_loss l) (leb-true r.its_need q) (leb-true r.its_loss l) h
    where
      later : Covering q l rows → Covering q l (r ∷ rows)
      later c = record { row = c.row; stands = Memᴰ.tail c.stands; needs = c.needs; loses = c.loses }

      first : (covered q l rows ≡ true → Covering q l rows) → (s t : Bool) → (s ≡ true → r.its_need ≤ q) → (t ≡ true → r.its_loss ≤ l) →
          (s && t) || covered q l rows ≡ true → Covering q l (r ∷ rows)
      first below true true m n k = record { row = r; stands = Memᴰ.head refl; needs = m refl; loses = n refl }
      first below true false m n k = later (below k)
      first below false true m n k = later (below k)
      first below false false m n k = later (below k)

  pub covers : (rows : List Stair) {r : Stair} → Memᴰ r rows → r.its_need ≤ q → r.its_loss ≤ l → covered q l rows ≡ true
  unfolding covered
  covers [] m n k = absurd (Memᴰ.not-nil m)
  covers (x ∷ rows) {r} m n k = ⊎_elim here (λ i. later (covers rows i n k)) (Memᴰ.cases_cons m)
    where
      later : covered q l rows ≡ true → covered q l (x ∷ rows) ≡ true
      later e = rw (e, or-true)

      here : r ≡ x → covered q l (x ∷ rows) ≡ true
      here e =
          let a : x.its_need ≤ q = rw e at n in
          let b : x.its_loss ≤ l = rw e at k in
          rw (le-leb x.its_need q a, le-leb x.its_loss l b)

-- what covers a plan covers every plan of no less need and no less loss
covered_more : {q l k m : ℕ} (rows : List Stair) → k ≤ q → m ≤ l → covered k m rows ≡ true → covered q l rows ≡ true
covered_more rows n d h =
    let c = covering _ _ rows h in
    covers _ _ rows c.stands (le_trans c.needs n) (le_trans c.loses d)

module _ (most b q l : ℕ) (ts : List Seconds) (s : Stairs) where
  -- over the budget
  pub enter_over : b < q → enter most b q l ts s ≡ s
  unfolding enter
  enter_over h = rw (lt-leb q b h)

  -- a loss that reaches the bound
  pub enter_bound : s.bound ≤ l → enter most b q l ts s ≡ s
  unfolding enter
  enter_bound h = rw (le-ltb l s.bound h, and-false)

  -- some row is no worse
  pub enter_covered : covered q l s.rows ≡ true → enter most b q l ts s ≡ s
  unfolding enter
  enter_covered h = rw (h, and-false, and-false)

  -- no row is: the plan enters
  pub enter_new : q ≤ b → l < s.bound → covered q l s.rows ≡ false → enter most b q l ts s ≡ at_most most (among q l ts s.rows) s.bound
  unfolding enter
  enter_new fits less new = rw (le-leb q b fits, lt-ltb l s.bound less, new)

-- the limit on the number of rows
module _ (most : ℕ) (rows : List Stair) (bound : ℕ) where
  pub at_most_all : length rows ≤ most → at_most most rows bound ≡ record { rows = rows; bound = bound }
  unfolding at_most
  at_most_all h = rw (le-ltb most (length rows) h)

  pub at_most_cut : most < length rows → at_most most rows bound ≡ record { rows = take most rows; bound = (get_or rows most (stair 0 0 [])).its_loss }
  unfolding at_most
  at_most_cut h = rw (lt-ltb most (length rows) h)

-- which floors let the rows stand
module _ (most b : ℕ) (s : Stairs) where
  pub keeps_over : {k : ℕ} → b < k → Keeps (enter most b) s k 0
  keeps_over h q l ts k≤ l≤ = enter_over most b q l ts s (le_trans h k≤)

  pub keeps_bound : {l : ℕ} → s.bound ≤ l → Keeps (enter most b) s 0 l
  keeps_bound h q l ts k≤ l≤ = enter_bound most b q l ts s (le_trans h l≤)

  pub keeps_covered : (k l : ℕ) → covered k l s.rows ≡ true → Keeps (enter most b) s k l
  keeps_covered k l h q m ts k≤ l≤ = enter_covered most b q m ts s (covered_more s.rows k≤ l≤ h)
