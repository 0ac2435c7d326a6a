-- Lists of lists of periods, strictly sorted: no list comes after a later one, and none is one of the later ones.
-- Assumes nothing.
use mathlib.Core.Path.{◌≡◌, ap, subst}
use mathlib.Core.List.Memᴰ
use mathlib.Core.List.{List, [], ◌∷◌, map, flat_map, head-eq_of_cons-eq, tail-eq_of_cons-eq, Memᴰ}
use Prim.Native.Nat.{◌<◌}
use native.Mathlib.Omega.{arith}
use native.Mathlib.Nat.{le_refl}
use Rattle.model.specs.declared.Seconds.{Seconds}
use Rattle.model.specs.Model.{NotAfter}
use Rattle.model.proofs.Lists.{in_flat, rising_append, rising_map}
use Rattle.walk.specs.Laws.{RisingPeriods, Earlier, Sorted}

-- no list comes after itself
pub not_after_self : (ts : List Seconds) → NotAfter ts ts
not_after_self [] = tt
not_after_self (t ∷ ts) = (le_refl _, λ e. not_after_self ts)

earlier_head : {t u : Seconds} (ts us : List Seconds) → t.0 < u.0 → Earlier (t ∷ ts) (u ∷ us)
earlier_head {t} {u} ts us h = record {
  not_after = (omega arith, λ (e : t.0 ≡ u.0). absurd (omega arith));
  differ = λ e. clash (ap (λ (s : Seconds). s.0) (head-eq_of_cons-eq e));
}
  where
    clash : t.0 ≡ u.0 → ⊥
    clash e = omega arith

earlier_tail : (t : Seconds) {ts us : List Seconds} → Earlier ts us → Earlier (t ∷ ts) (t ∷ us)
earlier_tail t h = record { not_after = (le_refl _, λ e. h.not_after); differ = λ e. h.differ (tail-eq_of_cons-eq e) }

sorted_map : (t : Seconds) (xs : List (List Seconds)) → Sorted xs → Sorted (map (λ ts. t ∷ ts) xs)
sorted_map t xs h = rising_map Earlier (λ (ts : List Seconds). t ∷ ts) (λ us vs. earlier_tail t {ts = us} {us = vs}) xs h

-- rising first periods, each before a sorted list of lists
pub sorted_flat : (f : Seconds → List (List Seconds)) → ((t : Seconds) → Sorted (f t)) → (ts : List Seconds) → RisingPeriods ts → Sorted (flat_map (λ t. map (λ us. t ∷ us) (f t)) ts)
unfolding flat_map
sorted_flat f each [] h = tt
sorted_flat f each (t ∷ ts) h = rising_append Earlier _ _ (sorted_map t (f t) (each t)) (sorted_flat f each ts h.1) across
  where
    across : (x y : List Seconds) → Memᴰ x (map (λ us. t ∷ us) (f t)) → Memᴰ y (flat_map (λ u. map (λ us. u ∷ us) (f u)) ts) → Earlier x y
    across x y m n =
        let a = Memᴰ.of_map (λ (us : List Seconds). t ∷ us) (f t) m in
        let r = in_flat (λ (u : Seconds). map (λ us. u ∷ us) (f u)) ts n in
        let b = Memᴰ.of_map (λ (us : List Seconds). r.0 ∷ us) (f r.0) r.2 in
        subst (λ (l : List Seconds). Earlier l y) a.2 (subst (λ (l : List Seconds). Earlier (t ∷ a.0) l) b.2 (earlier_head _ _ (h.0 r.0 r.1)))
