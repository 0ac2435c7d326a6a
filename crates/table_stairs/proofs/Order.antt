-- Where the rows rise in loss and fall in need, a plan that none of them covers stands behind those that lose less and before those that need less, and the order holds.
-- Assumes nothing.
use mathlib.Core.Path.{◌≡◌, refl, sym, ◌∙◌, ap, subst}
use mathlib.Core.Logic.{◌⊎◌, inl, inr, ⊎_elim}
use mathlib.Core.List.Memᴰ
use mathlib.Core.List.{List, [], ◌∷◌, ◌++◌, Memᴰ}
use mathlib.Core.Bool.{Bool, true, false, cond, false≢true}
use Prim.Native.Nat.{ℕ, suc, ◌≤◌, ◌<◌}
use native.Mathlib.Omega.{arith}
use native.Mathlib.Decide.{dec_lt}
use native.Mathlib.Nat.{le_refl}
use lib.ListN.{length, get_or, take, drop, length-append}
use lib.Seq.{split_at}
use lib.Dec.{ltb}
use borrow.Author.Tests.{ltb-true, lt-ltb, le-ltb}
use Rattle.model.specs.declared.Seconds.{Seconds}
use Rattle.table_stairs.specs.Stairs.{Stair, stair, covered, losing_less, needing_less, among}
use Rattle.table_stairs.specs.Ordered.{Above, Staircase}
use Rattle.model.proofs.Lists.{rising_append}
use Rattle.table_stairs.proofs.Updates.{covers}

above_trans : {r s t : Stair} → Above r s → Above s t → Above r t
above_trans h k = omega arith

-- the rows in front that lose less are those rows that do
module _ (l : ℕ) where
  pub losing_in : (rows : List Stair) {r : Stair} → Memᴰ r (losing_less l rows) → Memᴰ r rows × (r.its_loss < l)
  unfolding losing_less
  losing_in [] m = absurd (Memᴰ.not-nil m)
  losing_in (x ∷ rows) {r} m = go (λ n. losing_in rows n) (ltb x.its_loss l) (ltb-true x.its_loss l) m
    where
      go : (Memᴰ r (losing_less l rows) → Memᴰ r rows × (r.its_loss < l)) → (t : Bool) → (t ≡ true → x.its_loss < l) →
          Memᴰ r (cond t (x ∷ losing_less l rows) []) → Memᴰ r (x ∷ rows) × (r.its_loss < l)
      go below true h n = ⊎_elim (λ e. (Memᴰ.head e, rw e (h refl))) (λ k. (Memᴰ.tail (below k).0, (below k).1)) (Memᴰ.cases_cons n)
      go below false h n = absurd (Memᴰ.not-nil n)

  pub losing_has : (rows : List Stair) {r : Stair} → Staircase rows → Memᴰ r rows → r.its_loss < l → Memᴰ r (losing_less l rows)
  unfolding losing_less
  losing_has [] s m less = absurd (Memᴰ.not-nil m)
  losing_has (x ∷ rows) {r} s m less = go (λ n. losing_has rows s.1 n less) (Memᴰ.cases_cons m)
    where
      go : (Memᴰ r rows → Memᴰ r (losing_less l rows)) → (r ≡ x) ⊎ Memᴰ r rows → Memᴰ r (losing_less l (x ∷ rows))
      go below (inl e) = rw (lt-ltb x.its_loss l (rw e at less)) (Memᴰ.head e)
      go below (inr n) = rw (lt-ltb x.its_loss l (omega (arith, (s.0 r n).loses))) (Memᴰ.tail (below n))

  pub losing_staircase : (rows : List Stair) → Staircase rows → Staircase (losing_less l rows)
  unfolding losing_less
  losing_staircase [] s = tt
  losing_staircase (x ∷ rows) s = go (losing_staircase rows s.1) (ltb x.its_loss l)
    where
      go : Staircase (losing_less l rows) → (t : Bool) → Staircase (cond t (x ∷ losing_less l rows) [])
      go below true = (λ y m. s.0 y (losing_in rows m).0, below)
      go below false = tt

-- the rows behind that need less are those rows that do
module _ (q : ℕ) where
  needing_in : (rows : List Stair) {r : Stair} → Staircase rows → Memᴰ r (needing_less q rows) → Memᴰ r rows × (r.its_need < q)
  unfolding needing_less
  needing_in [] s m = absurd (Memᴰ.not-nil m)
  needing_in (x ∷ rows) {r} s m = go (λ n. needing_in rows s.1 n) (ltb x.its_need q) (ltb-true x.its_need q) m
    where
      go : (Memᴰ r (needing_less q rows) → Memᴰ r rows × (r.its_need < q)) → (t : Bool) → (t ≡ true → x.its_need < q) →
          Memᴰ r (cond t (x ∷ rows) (needing_less q rows)) → Memᴰ r (x ∷ rows) × (r.its_need < q)
      go below true h n = ⊎_elim (λ e. (Memᴰ.head e, rw e (h refl))) (λ k. (Memᴰ.tail k, omega (arith, h refl, (s.0 r k).needs))) (Memᴰ.cases_cons n)
      go below false h n = (Memᴰ.tail (below n).0, (below n).1)

  needing_has : (rows : List Stair) {r : Stair} → Memᴰ r rows → r.its_need < q → Memᴰ r (needing_less q rows)
  unfolding needing_less
  needing_has [] m less = absurd (Memᴰ.not-nil m)
  needing_has (x ∷ rows) {r} m less = go (λ n. needing_has rows n less) (ltb x.its_need q) (lt-ltb x.its_need q) (Memᴰ.cases_cons m)
    where
      go : (Memᴰ r rows → Memᴰ r (needing_less q rows)) → (t : Bool) → (x.its_need < q → t ≡ true) → (r ≡ x) ⊎ Memᴰ r rows →
          Memᴰ r (cond t (x ∷ rows) (needing_less q rows))
      go below true h c = m
      go below false h (inl e) = absurd (false≢true (h (rw e at less)))
      go below false h (inr n) = below n

  needing_staircase : (rows : List Stair) → Staircase rows → Staircase (needing_less q rows)
  unfolding needing_less
  needing_staircase [] s = tt
  needing_staircase (x ∷ rows) s = go (needing_staircase rows s.1) (ltb x.its_need q)
    where
      go : Staircase (needing_less q rows) → (t : Bool) → Staircase (cond t (x ∷ rows) (needing_less q rows))
      go below true = s
      go below false = below

-- a plan among the rows
module _ (q l : ℕ) (ts : List Seconds) (rows : List Stair) (s : Staircase rows) where
  pub among_new : Memᴰ (stair q l ts) (among q l ts rows)
  unfolding among
  among_new = Memᴰ.append_right (losing_less l rows) (Memᴰ.head refl)

  pub among_some : 1 ≤ length (among q l ts rows)
  unfolding among
  among_some = omega (arith, length-append (losing_less l rows) (stair q l ts ∷ needing_less q rows))

  pub among_in : {r : Stair} → Memᴰ r (among q l ts rows) → (r ≡ stair q l ts) ⊎ Memᴰ r rows
  unfolding among
  among_in {r} m = ⊎_elim (λ n. inr (losing_in l rows n).0) (λ n. ⊎_elim inl (λ k. inr (needing_in q rows s k).0) (Memᴰ.cases_cons n)) (Memᴰ.append_cases (losing_less l rows) m)

  -- a row that leaves loses no less and needs no less
  pub among_has : {r : Stair} → Memᴰ r rows → Memᴰ r (among q l ts rows) ⊎ ((l ≤ r.its_loss) × (q ≤ r.its_need))
  unfolding among
  among_has {r} m = go (dec_lt r.its_loss l) (dec_lt r.its_need q)
    where
      go : Dec (r.its_loss < l) → Dec (r.its_need < q) → Memᴰ r (losing_less l rows ++ (stair q l ts ∷ needing_less q rows)) ⊎ ((l ≤ r.its_loss) × (q ≤ r.its_need))
      go (yes less) d = inl (Memᴰ.append_left (stair q l ts ∷ needing_less q rows) (losing_has l rows s m less))
      go (no more) (yes less) = inl (Memᴰ.append_right (losing_less l rows) (Memᴰ.tail (needing_has q rows m less)))
      go (no more) (no over) = inr (omega arith)

  pub among_staircase : covered q l rows ≡ false → Staircase (among q l ts rows)
  unfolding among
  among_staircase new = rising_append Above (losing_less l rows) (stair q l ts ∷ needing_less q rows) (losing_staircase l rows s) (lower, needing_staircase q rows s) across
    where
      uncovered : {r : Stair} → Memᴰ r rows → r.its_need ≤ q → r.its_loss ≤ l → ⊥
      uncovered m n k = false≢true (sym new ∙ covers q l rows m n k)

      upper : (x : Stair) → Memᴰ x (losing_less l rows) → Above x (stair q l ts)
      upper x m =
          let i = losing_in l rows m in
          let over : x.its_need ≤ q → ⊥ = λ n. uncovered i.0 n (omega arith) in
          record { loses = i.1; needs = omega arith }

      lower : (y : Stair) → Memᴰ y (needing_less q rows) → Above (stair q l ts) y
      lower y m =
          let i = needing_in q rows s m in
          let worse : y.its_loss ≤ l → ⊥ = λ k. uncovered i.0 (omega arith) k in
          record { loses = omega arith; needs = i.1 }

      across : (x y : Stair) → Memᴰ x (losing_less l rows) → Memᴰ y (stair q l ts ∷ needing_less q rows) → Above x y
      across x y m n = ⊎_elim (λ e. rw e (upper x m)) (λ k. above_trans (upper x m) (lower y k)) (Memᴰ.cases_cons n)

-- the rows before one are those that lose less than it
losing_before : (xs : List Stair) (r : Stair) (ys : List Stair) → Staircase (xs ++ (r ∷ ys)) → losing_less r.its_loss (xs ++ (r ∷ ys)) ≡ xs
unfolding losing_less
losing_before [] r ys s = rw (le-ltb r.its_loss r.its_loss (le_refl r.its_loss))
losing_before (x ∷ xs) r ys s = rw (lt-ltb x.its_loss r.its_loss (s.0 r (Memᴰ.append_right xs (Memᴰ.head refl))).loses) (ap (λ (zs : List Stair). x ∷ zs) (losing_before xs r ys s.1))

module _ (most : ℕ) (rows : List Stair) (s : Staircase rows) (more : most < length rows) where
  pub take_losing : take most rows ≡ losing_less (get_or rows most (stair 0 0 [])).its_loss rows
  take_losing =
      let r = get_or rows most (stair 0 0 []) in
      let e = split_at rows most (stair 0 0 []) more in
      sym (losing_before (take most rows) r (drop (suc most) rows) (subst Staircase e s)) ∙ ap (losing_less r.its_loss) (sym e)

  pub cut_in : Memᴰ (get_or rows most (stair 0 0 [])) rows
  cut_in =
      let r = get_or rows most (stair 0 0 []) in
      subst (Memᴰ r) (sym (split_at rows most (stair 0 0 []) more)) (Memᴰ.append_right (take most rows) (Memᴰ.head refl))
