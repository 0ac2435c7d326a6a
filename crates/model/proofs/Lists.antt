-- Lists joined of parts, lists stored in parts, and lists that rise: a strict order leaves one rising list of the same entries.
-- Assumes nothing.
use mathlib.Core.Path.{◌≡◌, refl, sym, ◌∙◌, ap, ap₂, subst}
use mathlib.Core.Logic.{◌⊎◌, inl, inr, ⊎_elim}
use mathlib.Core.List.{List, [], ◌∷◌, ◌++◌, map, flat_map, append-nil, append_assoc}
use mathlib.Core.List.Memᴰ
use mathlib.Core.List.{Memᴰ}
use Prim.Native.Nat.{ℕ, suc, ◌+◌, ◌*◌}
use native.Mathlib.Nat.{add-zero, mul-zero, mul-suc}
use native.Mathlib.Omega.{arith}
use lib.ListN.{length, set, length-append}
use lib.Seq.{sets}
use Rattle.model.specs.Model.{Rising}

-- what stands in a joined list stands in one of its parts, and the other way round
pub in_flat : {A B : Type 0} (f : A → List B) {y : B} (xs : List A) → Memᴰ y (flat_map f xs) → (x : A) × Memᴰ x xs × Memᴰ y (f x)
unfolding flat_map
in_flat f [] m = absurd (Memᴰ.not-nil m)
in_flat {A} {B} f {y} (x ∷ xs) m = go (λ n. in_flat f xs n) (Memᴰ.append_cases (f x) m)
  where
    go : (Memᴰ y (flat_map f xs) → (a : A) × Memᴰ a xs × Memᴰ y (f a)) →
        Memᴰ y (f x) ⊎ Memᴰ y (flat_map f xs) → (a : A) × Memᴰ a (x ∷ xs) × Memᴰ y (f a)
    go below (inl n) = (x, Memᴰ.head refl, n)
    go below (inr n) = let r = below n in (r.0, Memᴰ.tail r.1, r.2)

pub flat_has : {A B : Type 0} (f : A → List B) {y : B} {x : A} (xs : List A) → Memᴰ x xs → Memᴰ y (f x) → Memᴰ y (flat_map f xs)
unfolding flat_map
flat_has f [] m n = absurd (Memᴰ.not-nil m)
flat_has {A} {B} f {y} {x} (a ∷ xs) m n = ⊎_elim here (λ k. Memᴰ.append_right (f a) (flat_has f xs k n)) (Memᴰ.cases_cons m)
  where
    here : x ≡ a → Memᴰ y (f a ++ flat_map f xs)
    here e = Memᴰ.append_left (flat_map f xs) (subst (λ (b : A). Memᴰ y (f b)) e n)

-- parts of one size, joined, and one part more
pub flat_length : {A B : Type 0} (f : A → List B) (size : ℕ) → ((x : A) → length (f x) ≡ size) → (xs : List A) → length (flat_map f xs) ≡ size * length xs
unfolding flat_map
flat_length f size each [] = sym (mul-zero size)
flat_length f size each (x ∷ xs) =
    length-append (f x) (flat_map f xs) ∙ omega (arith, each x, flat_length f size each xs, mul-suc size (length xs))

pub flat_snoc : {A B : Type 0} (f : A → List B) (xs : List A) (x : A) → flat_map f (xs ++ (x ∷ [])) ≡ flat_map f xs ++ f x
unfolding flat_map
flat_snoc f [] x = append-nil (f x)
flat_snoc f (y ∷ xs) x = ap (λ (l : List _). f y ++ l) (flat_snoc f xs x) ∙ sym (append_assoc (f y) (flat_map f xs) (f x))

-- one part stored behind the other is both stored at once
pub sets_append : {A : Type 0} (l : List A) (i : ℕ) (xs ys : List A) → sets (sets l i xs) (i + length xs) ys ≡ sets l i (xs ++ ys)
sets_append l i [] ys = ap (λ (k : ℕ). sets l k ys) (add-zero i)
sets_append l i (x ∷ xs) ys =
    let place : i + suc (length xs) ≡ suc i + length xs = omega arith in
    ap (λ (k : ℕ). sets (sets (set l i x) (suc i) xs) k ys) place ∙ sets_append (set l i x) (suc i) xs ys

-- every entry of the one list stands in the other
abbrev pub Holds : {A : Type 0} → List A → List A → Type 0
Holds {A} xs ys = (x : A) → Memᴰ x xs → Memᴰ x ys

-- a function that keeps an order keeps a list rising
pub rising_map : {A B : Type 0} {R : A → A → Type 0} (S : B → B → Type 0) (f : A → B) → ((x y : A) → R x y → S (f x) (f y))
    → (xs : List A) → Rising R xs → Rising S (map f xs)
rising_map S f keeps [] h = tt
rising_map {A} {B} S f keeps (x ∷ xs) h = (later, rising_map S f keeps xs h.1)
  where
    later : (y : B) → Memᴰ y (map f xs) → S (f x) y
    later y m = let r = Memᴰ.of_map f xs m in subst (S (f x)) r.2 (keeps x r.0 (h.0 r.0 r.1))

module _ {A : Type 0} (R : A → A → Type 0) where
  pub rising_append : (xs ys : List A) → Rising R xs → Rising R ys → ((x y : A) → Memᴰ x xs → Memᴰ y ys → R x y) → Rising R (xs ++ ys)
  rising_append [] ys h k across = k
  rising_append (x ∷ xs) ys h k across = (
    λ y m. ⊎_elim (h.0 y) (λ n. across x y (Memᴰ.head refl) n) (Memᴰ.append_cases xs m),
    rising_append xs ys h.1 k (λ a b m n. across a b (Memᴰ.tail m) n),
  )

  module _ (strict : (x y : A) → R x y → R y x → ⊥) where
    -- no entry stands twice
    pub rising_once : (x : A) (xs : List A) → Rising R (x ∷ xs) → Memᴰ x xs → ⊥
    rising_once x xs h m = strict x x (h.0 x m) (h.0 x m)

    heads : (x y : A) (xs ys : List A) → Rising R (x ∷ xs) → Rising R (y ∷ ys) → Holds (x ∷ xs) (y ∷ ys) → Holds (y ∷ ys) (x ∷ xs) → x ≡ y
    heads x y xs ys h k into from = ⊎_elim (λ e. e) (λ m. ⊎_elim sym (λ n. absurd (clash m n)) (Memᴰ.cases_cons (from y (Memᴰ.head refl)))) (Memᴰ.cases_cons (into x (Memᴰ.head refl)))
      where
        clash : Memᴰ x ys → Memᴰ y xs → ⊥
        clash m n = strict y x (k.0 x m) (h.0 y n)

    tails : (x y : A) (xs ys : List A) → x ≡ y → Rising R (x ∷ xs) → Holds (x ∷ xs) (y ∷ ys) → Holds xs ys
    tails x y xs ys e h into z m = ⊎_elim (λ d. absurd (rising_once x xs h (Memᴰ.cast (e ∙ sym d) m))) (λ n. n) (Memᴰ.cases_cons (into z (Memᴰ.tail m)))

    -- two rising lists with the same entries are the same list
    pub rising_one : (xs ys : List A) → Rising R xs → Rising R ys → Holds xs ys → Holds ys xs → xs ≡ ys
    rising_one [] [] h k into from = refl
    rising_one [] (y ∷ ys) h k into from = absurd (Memᴰ.not-nil (from y (Memᴰ.head refl)))
    rising_one (x ∷ xs) [] h k into from = absurd (Memᴰ.not-nil (into x (Memᴰ.head refl)))
    rising_one (x ∷ xs) (y ∷ ys) h k into from =
        let e = heads x y xs ys h k into from in
        ap₂ ◌∷◌ e (rising_one xs ys h.1 k.1 (tails x y xs ys e h into) (tails y x ys xs (sym e) k from))
