-- Rows that rise in loss are counted by parts: as long as the last row of a part loses less, so do all rows up to it, and from the first
-- part that does not on none does.
-- Assumes nothing.
use mathlib.Core.Path.{◌≡◌, sym, ◌∙◌, ap}
use mathlib.Core.List.{List, []}
use Prim.Native.Nat.{ℕ, zero, suc, ◌+◌, ◌*◌, ◌-◌, ◌/◌, ◌≤◌, ◌<◌, min, zero-le}
use native.Mathlib.Omega.{arith}
use native.Mathlib.Nat.{mul-zero, mul-suc, mul_comm, le-div_iff_mul-le, mul-le-mul_left}
use native.Mathlib.Decide.{dec_lt, ℕ_discrete}
use lib.ListN.{length, take, drop, length-take, length-drop}
use lib.Seq.{get_or-take, get_or-drop}
use Rattle.table_stairs.specs.Stairs.{Stair, stair, losing_less}
use Rattle.table_stairs.specs.Ordered.{Staircase, row_at, last_loss, PartsLoseLess}
use Rattle.table_stairs.proofs.Places.{loss_up, losing_less_upto, front_loses_less, behind_no_less, losing_less_is}

module _ {rows : List Stair} {size l : ℕ} where
  -- no part yet
  pub none_counted : PartsLoseLess rows size l 0 0
  none_counted = record { upto = zero-le; less = λ x h. absurd (omega arith); no_less = λ x h k. absurd (omega arith) }

  module _ {x r : ℕ} (here : PartsLoseLess rows size l x r) where
    -- one part more, which does not lose less
    pub one_no_less : l ≤ last_loss rows size x → PartsLoseLess rows size l (x + 1) r
    one_no_less more = record { upto = omega (arith, here.upto); less = here.less; no_less = λ y from to. go y from to (ℕ_discrete y x) }
      where
        go : (y : ℕ) → r ≤ y → y < x + 1 → Dec (y ≡ x) → l ≤ last_loss rows size y
        go y from to (yes e) = rw e more
        go y from to (no ne) = here.no_less y from (omega (arith, ne))

    -- one that does: so did all before it
    pub one_less : Staircase rows → 1 ≤ size → size * x + (size - 1) < length rows → last_loss rows size x < l → PartsLoseLess rows size l (x + 1) (r + 1)
    one_less s some inside less = go (ℕ_discrete r x)
      where
        go : Dec (r ≡ x) → PartsLoseLess rows size l (x + 1) (r + 1)
        go (yes e) = record { upto = omega (arith, e); less = λ y to. last y to (ℕ_discrete y x); no_less = λ y from to. absurd (omega (arith, e)) }
          where
            last : (y : ℕ) → y < r + 1 → Dec (y ≡ x) → last_loss rows size y < l
            last y to (yes d) = rw d less
            last y to (no ne) = here.less y (omega (arith, ne, e))
        go (no ne) =
            let before : r < x = omega (arith, ne, here.upto) in
            let le : r ≤ x = omega (arith, before) in
            let place : size * r + (size - 1) ≤ size * x + (size - 1) = omega (arith, mul-le-mul_left size le) in
            absurd (omega (arith, here.no_less r (omega arith) before, loss_up rows s (size * r + (size - 1)) (size * x + (size - 1)) place inside, less))

-- a product that is not 0, as one step more than the product before
step_back : (s b : ℕ) → 0 < s * b → (0 < b) × (s * b ≡ s * (b - 1) + s)
step_back s zero pos = absurd (omega (arith, pos, mul-zero s))
step_back s (suc b) pos =
    let e : b ≡ suc b - 1 = omega arith in
    (omega arith, mul-suc s b ∙ ap (λ (k : ℕ). s * k + s) e)

-- of the rows of whole parts those counted are in front; those in the part that is left follow
pub counted_more : (rows : List Stair) (size l b r : ℕ) → Staircase rows → 1 ≤ size → PartsLoseLess rows size l (length rows / size) b → r ≡ length (losing_less l (take size (drop (size * b) rows))) →
    size * b + r ≡ length (losing_less l rows)
counted_more rows size l b r s some counted is = losing_less_is l rows (size * b + r) (omega (arith, whole, upto, part_length)) before behind
  where
    part : List Stair
    part = take size (drop (size * b) rows)

    whole : size * b ≤ length rows
    whole = rw (← mul_comm b size) ((le-div_iff_mul-le some).0 counted.upto)

    part_length : length (take size (drop (size * b) rows)) ≡ min size (length rows - size * b)
    part_length = simp (length-take, length-drop)

    upto : r ≤ length (take size (drop (size * b) rows))
    upto = omega (arith, is, losing_less_upto l (take size (drop (size * b) rows)))

    -- a row of the part, by its place among all
    at : (k : ℕ) → k < size → row_at (take size (drop (size * b) rows)) k ≡ row_at rows (size * b + k)
    at k inside = get_or-take size (drop (size * b) rows) k (stair 0 0 []) inside ∙ get_or-drop (size * b) rows k (stair 0 0 [])

    before : (k : ℕ) → k < size * b + r → (row_at rows k).its_loss < l
    before k less = go (dec_lt k (size * b))
      where
        go : Dec (k < size * b) → (row_at rows k).its_loss < l
        go (yes front) =
            let back = step_back size b (omega (arith, front)) in
            let last : size * (b - 1) + (size - 1) < length rows = omega (arith, back.1, whole, some) in
            omega (arith, loss_up rows s k (size * (b - 1) + (size - 1)) (omega (arith, back.1, front)) last, counted.less (b - 1) (omega (arith, back.0)))
        go (no later) =
            let inside : k - size * b < size = omega (arith, less, upto, part_length) in
            let place : size * b + (k - size * b) ≡ k = omega (arith, later) in
            let e : row_at part (k - size * b) ≡ row_at rows k = at (k - size * b) inside ∙ ap (row_at rows) place in
            omega (arith, ap (λ (t : Stair). t.its_loss) e, front_loses_less l part (k - size * b) (omega (arith, less, is, later)))

    behind : size * b + r < length rows → l ≤ (row_at rows (size * b + r)).its_loss
    behind more = go (dec_lt r size)
      where
        go : Dec (r < size) → l ≤ (row_at rows (size * b + r)).its_loss
        go (yes inside) =
            let e : row_at part (length (losing_less l part)) ≡ row_at rows (size * b + r) = ap (row_at part) (sym is) ∙ at r inside in
            omega (arith, ap (λ (t : Stair). t.its_loss) e, behind_no_less l part (omega (arith, is, inside, part_length, more)))
        -- the part is whole, and the rows behind it lose no less than its last one
        go (no all) =
            let room : suc b * size ≤ length rows = omega (arith, mul_comm (suc b) size, mul-suc size b, all, more) in
            let last : last_loss rows size b ≤ (row_at rows (size * b + r)).its_loss = loss_up rows s (size * b + (size - 1)) (size * b + r) (omega (arith, all)) more in
            omega (arith, last, counted.no_less b (omega arith) ((le-div_iff_mul-le some).1 room))

-- the last row of a part stands among the rows
pub last_inside : (rows : List Stair) (size x : ℕ) → 1 ≤ size → x < length rows / size → size * x + (size - 1) < length rows
last_inside rows size x some less =
    let room : suc x * size ≤ length rows = (le-div_iff_mul-le some).0 less in
    omega (arith, mul_comm (suc x) size, mul-suc size x)

-- parts of one row
pub all_counted : (rows : List Stair) (l r : ℕ) → PartsLoseLess rows 1 l (length rows / 1) r → r ≡ length (losing_less l rows)
all_counted rows l r p = losing_less_is l rows r (omega (arith, p.upto)) (λ k less. rw (← one k) (p.less k less)) (λ more. rw (← one r) (p.no_less r (omega arith) (omega arith)))
  where
    one : (k : ℕ) → last_loss rows 1 k ≡ (row_at rows k).its_loss
    one k = let e : 1 * k + (1 - 1) ≡ k = omega arith in ap (λ (x : ℕ). (row_at rows x).its_loss) e
