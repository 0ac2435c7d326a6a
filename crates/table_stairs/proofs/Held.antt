-- What is put into two words for a stair is read from them again.
-- Assumes nothing.
use mathlib.Core.Path.{◌≡◌, refl, sym, ◌∙◌, ap, ap₂}
use mathlib.Core.List.{List, [], ◌∷◌, ◌++◌, map}
use Prim.Native.Nat.{ℕ, zero, suc, ◌-◌, ◌^◌, ◌≤◌, ◌<◌, zero-le}
use native.Mathlib.Omega.{arith}
use lib.ListN.{length, get_or, drop, replicate, length-append, length-map, length-replicate}
use Rattle.std.proofs.lemmas.List.{drop-replicate}
use Rattle.std.proofs.lemmas.List.Elements.{All-head, All-tail}
use Rattle.model.specs.declared.Seconds.{Seconds}
use Rattle.model.specs.Model.{seconds, padded}
use Rattle.walk.specs.Laws.{WithinHour}
use Rattle.table_row.specs.Cut.{words_of, word_periods, Fields}
use Rattle.table_row.proofs.Words.{start_back, periods_back, seconds_again}
use Rattle.table_stairs.specs.Held.{before_zero, eight, need_held, periods_held, Holds}

-- an array of zeros with the periods at its front
pub padded_array : (ts : List Seconds) → ts ++ drop (length ts) (replicate 8 (seconds 0)) ≡ padded (seconds 0) ts
padded_array ts = ap (λ (zs : List Seconds). ts ++ zs) (drop-replicate (length ts) 8 (seconds 0))

-- each of the eight numbers is within the hour
each_to : (ts : List Seconds) (m k : ℕ) → WithinHour ts → get_or (map (λ t. t.0) (ts ++ replicate m (seconds 0))) k 0 ≤ 3600
each_to [] zero k h = zero-le
each_to [] (suc m) zero h = zero-le
each_to [] (suc m) (suc k) h = each_to [] m k h
each_to (t ∷ ts) m zero h = (All-head (λ (t : Seconds). (1 ≤ t.0) × (t.0 ≤ 3600)) t ts h).1
each_to (t ∷ ts) m (suc k) h = each_to ts m k (All-tail (λ (t : Seconds). (1 ≤ t.0) × (t.0 ≤ 3600)) t ts h)

pub fields_eight : (ts : List Seconds) → length ts ≤ 8 → WithinHour ts → Fields (eight ts)
fields_eight ts few h =
    let to = λ (k : ℕ). each_to ts (8 - length ts) k h in
    let size : length (padded (seconds 0) ts) ≡ 8 = simp (length-append, length-replicate) (omega arith) in
    record { size = length-map (padded (seconds 0) ts) (λ t. t.0) ∙ size; t1 = to 0; t2 = to 1; t3 = to 2; t4 = to 3; t5 = to 4; t6 = to 5; t7 = to 6; t8 = to 7 }

-- the periods end at the first zero
ends_at_zeros : (ts : List Seconds) (m : ℕ) → WithinHour ts → before_zero (map (λ t. t.0) (ts ++ replicate m (seconds 0))) ≡ map (λ t. t.0) ts
unfolding before_zero
ends_at_zeros [] zero h = refl
ends_at_zeros [] (suc m) h = refl
ends_at_zeros (t ∷ ts) m h = go t.0 (All-head (λ (t : Seconds). (1 ≤ t.0) × (t.0 ≤ 3600)) t ts h).0 (ends_at_zeros ts m (All-tail (λ (t : Seconds). (1 ≤ t.0) × (t.0 ≤ 3600)) t ts h))
  where
    go : (x : ℕ) → 1 ≤ x → before_zero (map (λ t. t.0) (ts ++ replicate m (seconds 0))) ≡ map (λ t. t.0) ts → before_zero (x ∷ map (λ t. t.0) (ts ++ replicate m (seconds 0))) ≡ x ∷ map (λ t. t.0) ts
    go zero some later = absurd (omega arith)
    go (suc x) some later = ap (λ (xs : List ℕ). suc x ∷ xs) later

-- the words for a need and periods
module _ (need : ℕ) (ts : List Seconds) (small : need < 2 ^ 32) (few : length ts ≤ 8) (within : WithinHour ts) where
  numbers_back : word_periods (words_of need (eight ts)).high (words_of need (eight ts)).low ≡ eight ts
  numbers_back = periods_back need (eight ts) (fields_eight ts few within) small

  pub need_back : need_held (words_of need (eight ts)) ≡ need
  need_back = start_back need (eight ts) (fields_eight ts few within) small

  pub ends_back : periods_held (words_of need (eight ts)) ≡ ts
  ends_back = ap (λ (xs : List ℕ). map seconds (before_zero xs)) numbers_back ∙ ap (map seconds) (ends_at_zeros ts (8 - length ts) within) ∙ seconds_again ts

  pub holds : Holds (words_of need (eight ts))
  holds = record {
    nothing_behind = numbers_back ∙ sym (ap eight ends_back);
    words_are = ap₂ (λ (q : ℕ) (us : List Seconds). words_of q (eight us)) need_back ends_back;
  }
