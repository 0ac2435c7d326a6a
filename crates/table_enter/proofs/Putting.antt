-- A plan is put in its place: rows leave, or the last of too many leaves and its loss is the bound.
-- Assumes nothing.
use mathlib.Core.Path.{◌≡◌, refl, sym, ◌∙◌, ap, ap₂}
use mathlib.Core.List.{List, [], ◌∷◌, ◌++◌, Memᴰ, append_assoc}
use mathlib.Core.Bool.{Bool, true, false, ◌&&◌, not, false≢true}
use lib.Dec.{leb, ltb}
use Prim.Native.Nat.{ℕ, ◌+◌, ◌-◌, ◌≤◌, ◌<◌}
use native.Mathlib.Omega.{arith}
use native.Mathlib.Decide.{dec_lt}
use lib.ListN.{length, take, drop, length-append, length-take, length-drop, take-append-drop}
use lib.Seq.{take_at, get_or_at, take-append-le, take-suc, length-take-le}
use Rattle.std.proofs.lemmas.List.{drop-append-le, take_all, drop_all}
use borrow.Author.Tests.{le-ltb}
use Rattle.model.specs.declared.Seconds.{Seconds}
use Rattle.table_stairs.specs.Stairs.{Stair, stair, Stairs, most, covered, losing_less, needing_less, among, at_most, enter}
use Rattle.table_stairs.specs.Ordered.{replaced, stairs_of, row_at}
use Rattle.table_stairs.proofs.Updates.{covers, at_most_all, at_most_cut}
use Rattle.table_stairs.proofs.Order.{losing_in}
use Rattle.table_stairs.proofs.Places.{take_losing_less}

-- rows in front that need no less are passed
needing_passed : (q : ℕ) (xs ys : List Stair) → ((r : Stair) → Memᴰ r xs → q ≤ r.its_need) → needing_less q (xs ++ ys) ≡ needing_less q ys
unfolding needing_less
needing_passed q [] ys h = refl
needing_passed q (x ∷ xs) ys h = rw (le-ltb x.its_need q (h x (Memᴰ.head refl))) (needing_passed q xs ys (λ r m. h r (Memᴰ.tail m)))

-- the rows that lose less need more than a plan that none of the rows covers, so those that need less are looked for behind them
pub among_is : (q l : ℕ) (ts : List Seconds) (rows : List Stair) (i j : ℕ) → covered q l rows ≡ false → i ≡ length (losing_less l rows) → drop j rows ≡ needing_less q (drop i rows) →
    among q l ts rows ≡ replaced i j (stair q l ts) rows
unfolding among
among_is q l ts rows i j new is rest = ap₂ (λ (xs ys : List Stair). xs ++ (stair q l ts ∷ ys)) front behind
  where
    front : losing_less l rows ≡ take i rows
    front = sym (take_losing_less l rows) ∙ ap (λ (k : ℕ). take k rows) (sym is)

    needs_more : (r : Stair) → Memᴰ r (losing_less l rows) → q ≤ r.its_need
    needs_more r m = go (dec_lt r.its_need q)
      where
        go : Dec (r.its_need < q) → q ≤ r.its_need
        go (yes less) =
            let k = losing_in l rows m in
            absurd (false≢true (sym new ∙ covers q l rows k.0 (omega arith) (omega (arith, k.1))))
        go (no no_less) = omega arith

    behind : needing_less q rows ≡ drop j rows
    behind = ap (needing_less q) (sym (take-append-drop i rows) ∙ ap (λ (xs : List Stair). xs ++ drop i rows) (sym front)) ∙ needing_passed q (losing_less l rows) (drop i rows) needs_more ∙ sym rest

stairs_same : {xs ys : List Stair} {b c : ℕ} → xs ≡ ys → b ≡ c → ◌≡◌ {A = Stairs} (record { rows = xs; bound = b }) (record { rows = ys; bound = c })
stairs_same d e = rw (d, e)

-- one row too many
crowded : {all : List Stair} (xs : List Stair) (y : Stair) (bound : ℕ) → all ≡ xs ++ (y ∷ []) → length xs ≡ most → at_most most all bound ≡ record { rows = xs; bound = y.its_loss }
crowded xs y bound is full =
    let more : most < length (xs ++ (y ∷ [])) = simp length-append (omega arith) in
    ap (λ (ys : List Stair). at_most most ys bound) is
    ∙ at_most_cut most (xs ++ (y ∷ [])) bound more
    ∙ stairs_same (take_at xs (y ∷ []) most full) (ap (λ (r : Stair). r.its_loss) (get_or_at xs y [] (stair 0 0 []) most full))

-- rows in an array, before and after a plan was put in its place
module _ (old new : List Stair) (i j count bound : ℕ) (row : Stair) where
  -- there is room
  pub puts_within : take (i + 1 + (count - j)) new ≡ replaced i j row (take count old) → i + 1 + (count - j) ≤ most →
      stairs_of new (i + 1 + (count - j)) bound ≡ at_most most (replaced i j row (take count old)) bound
  puts_within is room =
      let size : length (replaced i j row (take count old)) ≤ most = omega (arith, ap length is, length-take (i + 1 + (count - j)) new) in
      stairs_same is refl ∙ sym (at_most_all most (replaced i j row (take count old)) bound size)

  module _ (size : length old ≡ most) (most-rows : count ≤ most) (order : i ≤ j) (upto : j ≤ count) (over : most < i + 1 + (count - j)) where
    -- the last row leaves
    pub puts_crowded : i < most → take (i + 1 + (most - 1 - j)) new ≡ replaced i j row (take (most - 1) old) → stairs_of new count (row_at old (most - 1)).its_loss ≡ at_most most (replaced i j row (take count old)) bound
    puts_crowded room is =
        let last : Stair = row_at old (most - 1) in
        let stay : List Stair = take (most - 1) old in
        let full : count ≡ most = omega arith in
        let all : take count old ≡ stay ++ (last ∷ []) = ap (λ (k : ℕ). take k old) full ∙ take-suc old (most - 1) (stair 0 0 []) (omega arith) in
        let stays : length stay ≡ most - 1 = length-take-le (most - 1) old (omega arith) in
        let behind : replaced i j row (take count old) ≡ replaced i j row stay ++ (last ∷ []) =
        ap (replaced i j row) all
        ∙ ap₂ (λ (xs ys : List Stair). xs ++ (row ∷ ys)) (take-append-le i stay (last ∷ []) (omega arith)) (drop-append-le j stay (last ∷ []) (omega arith))
        ∙ sym (append_assoc (take i stay) (row ∷ drop j stay) (last ∷ [])) in
        let rows : length (replaced i j row stay) ≡ most = simp (length-append, length-take, length-drop) (omega arith) in
        let number : i + 1 + (most - 1 - j) ≡ count = omega arith in
        stairs_same (rw number at is) refl ∙ sym (crowded (replaced i j row stay) last bound behind rows)

    -- the plan itself would be the one too many
    pub puts_past : most ≤ i → stairs_of old count row.its_loss ≡ at_most most (replaced i j row (take count old)) bound
    puts_past past =
        let all : take count old ≡ old = take_all count old (omega arith) in
        let front : take i old ≡ old = take_all i old (omega arith) in
        let none : drop j old ≡ [] = drop_all j old (omega arith) in
        let behind : replaced i j row (take count old) ≡ old ++ (row ∷ []) = ap (replaced i j row) all ∙ ap₂ (λ (xs ys : List Stair). xs ++ (row ∷ ys)) front none in
        stairs_same all refl ∙ sym (crowded old row bound behind size)

-- the update, by the test that a plan passes to enter
abbrev pub enters : ℕ → ℕ → ℕ → Stairs → Bool
enters b q l s = leb q b && (ltb l s.bound && not (covered q l s.rows))

module _ (b q l : ℕ) (ts : List Seconds) (s : Stairs) where
  pub enter_stays : enters b q l s ≡ false → s ≡ enter most b q l ts s
  unfolding enter
  enter_stays e = rw e refl

  pub enter_puts : (i j : ℕ) → enters b q l s ≡ true → i ≡ length (losing_less l s.rows) → drop j s.rows ≡ needing_less q (drop i s.rows) →
      at_most most (replaced i j (stair q l ts) s.rows) s.bound ≡ enter most b q l ts s
  unfolding enter
  enter_puts i j e is rest = rw e (ap (λ (rows : List Stair). at_most most rows s.bound) (sym (among_is q l ts s.rows i j (last_false (leb q b) (ltb l s.bound) (covered q l s.rows) e) is rest)))
    where
      last_false : (x y z : Bool) → x && (y && not z) ≡ true → z ≡ false
      last_false true true false h = refl
      last_false true true true h = absurd (false≢true h)
      last_false true false z h = absurd (false≢true h)
      last_false false y z h = absurd (false≢true h)
