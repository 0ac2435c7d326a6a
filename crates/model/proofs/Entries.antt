-- Laws of the entries of a list from one place to another, for loops that go through them one by one.
-- Assumes nothing.
use mathlib.Core.Path.{◌≡◌, refl, sym, ◌∙◌, ap, ap₂}
use mathlib.Core.List.{List, [], ◌∷◌, ◌++◌, append-nil}
use Prim.Native.Nat.{ℕ, zero, suc, ◌+◌, ◌-◌, ◌≤◌, ◌<◌}
use native.Mathlib.Nat.{zero-add, add-zero, not-suc-le-zero, le_of_suc-le-suc}
use native.Mathlib.Omega.{arith}
use lib.ListN.{length, get_or, replicate, length-append}
use lib.Seq.{get_or-append_seam, append_snoc}
use Rattle.model.specs.Model.{entries}

-- zeros, wherever they are looked at
pub get_d_zeros : (m k : ℕ) → ◌≡◌ {A = ℕ} (get_or (replicate m 0) k 0) 0
get_d_zeros zero k = refl
get_d_zeros (suc m) zero = refl
get_d_zeros (suc m) (suc k) = get_d_zeros m k

module _ {A : Type 0} (d : A) (xs : List A) (k n : ℕ) where
  pub entries_step : k < n → entries d xs k (n - k) ≡ get_or xs k d ∷ entries d xs (k + 1) (n - (k + 1))
  unfolding entries
  entries_step h =
      let e : n - k ≡ suc (n - (k + 1)) = omega arith in
      ap (entries d xs k) e

  pub entries_end : n ≤ k → entries d xs k (n - k) ≡ []
  unfolding entries
  entries_end h =
      let e : n - k ≡ 0 = omega arith in
      ap (entries d xs k) e

-- one entry more, behind
pub entries_snoc : {A : Type 0} (d : A) (xs : List A) (i k : ℕ) → entries d xs i (suc k) ≡ entries d xs i k ++ (get_or xs (i + k) d ∷ [])
unfolding entries
entries_snoc d xs i zero = ap (λ (n : ℕ). get_or xs n d ∷ []) (sym (add-zero i))
entries_snoc d xs i (suc k) =
    let place : i + 1 + k ≡ i + suc k = omega arith in
    ap (λ (l : List _). get_or xs i d ∷ l) (entries_snoc d xs (i + 1) k ∙ ap (λ (n : ℕ). entries d xs (i + 1) k ++ (get_or xs n d ∷ [])) place)

pub length_entries : {A : Type 0} (d : A) (xs : List A) (i k : ℕ) → length (entries d xs i k) ≡ k
unfolding entries
length_entries d xs i zero = refl
length_entries d xs i (suc k) = ap suc (length_entries d xs (i + 1) k)

-- the entry at a place
get_d_from : {A : Type 0} (d : A) (xs : List A) (i n j : ℕ) → j < n → get_or (entries d xs i n) j d ≡ get_or xs (i + j) d
unfolding entries
get_d_from d xs i zero j less = absurd (not-suc-le-zero less)
get_d_from d xs i (suc n) zero less = ap (λ (k : ℕ). get_or xs k d) (sym (add-zero i))
get_d_from d xs i (suc n) (suc j) less =
    let place : i + 1 + j ≡ i + suc j = omega arith in
    get_d_from d xs (i + 1) n j (le_of_suc-le-suc less) ∙ ap (λ (k : ℕ). get_or xs k d) place

pub get_d_entries : {A : Type 0} (d : A) (xs : List A) {n j : ℕ} → j < n → get_or (entries d xs 0 n) j d ≡ get_or xs j d
get_d_entries d xs {n} {j} less = get_d_from d xs 0 n j less ∙ ap (λ (k : ℕ). get_or xs k d) (zero-add j)

-- the entries that stand between others
entries_between : {A : Type 0} (d : A) (xs ys zs : List A) → entries d (xs ++ (ys ++ zs)) (length xs) (length ys) ≡ ys
unfolding entries
entries_between d xs [] zs = refl
entries_between d xs (y ∷ ys) zs =
    let front = xs ++ (y ∷ []) in
    let passed : length front ≡ length xs + 1 = length-append xs (y ∷ []) in
    let at = ap (λ (k : ℕ). entries d (xs ++ (y ∷ (ys ++ zs))) k (length ys)) (sym passed) in
    let joined = ap (λ (l : List _). entries d l (length front) (length ys)) (sym (append_snoc xs y (ys ++ zs))) in
    ap₂ ◌∷◌ (get_or-append_seam xs y (ys ++ zs) d) (at ∙ joined ∙ entries_between d front ys zs)

pub entries_front : {A : Type 0} (d : A) (ys zs : List A) → entries d (ys ++ zs) 0 (length ys) ≡ ys
entries_front d ys zs = entries_between d [] ys zs

-- as many entries as the list has are the list
pub entries_all : {A : Type 0} (d : A) (xs : List A) {k : ℕ} → length xs ≡ k → entries d xs 0 k ≡ xs
entries_all d xs size = ap₂ (λ (l : List _) (n : ℕ). entries d l 0 n) (sym (append-nil xs)) (sym size) ∙ entries_front d xs []

-- lists that agree at every place have the same entries
pub entries_same : {A : Type 0} (d : A) (xs ys : List A) (i k : ℕ) → ((j : ℕ) → get_or xs j d ≡ get_or ys j d) → entries d xs i k ≡ entries d ys i k
unfolding entries
entries_same d xs ys i zero h = refl
entries_same d xs ys i (suc k) h = ap₂ ◌∷◌ (h i) (entries_same d xs ys (i + 1) k h)
