-- The least need of all permitted lists is the least budget that some of them fit; the order in which they are visited does not matter.
-- Assumes nothing.
use mathlib.Core.Path.{◌≡◌, refl, sym, subst}
use mathlib.Core.Logic.{⊎_elim}
use mathlib.Core.List.Memᴰ
use mathlib.Core.List.{List, [], ◌∷◌, Memᴰ}
use Prim.Native.Nat.{min, ◌≤◌}
use native.Mathlib.Omega.{arith}
use native.Mathlib.Decide.{dec_le}
use native.Mathlib.Nat.{le_refl, le_trans}
use Rattle.model.specs.declared.Seconds.{Seconds}
use Rattle.model.specs.declared.Job.{Job}
use Rattle.model.specs.Model.{seconds, Permitted, need, loss}
use Rattle.model.specs.Valid.{ValidJobs}
use Rattle.choose.specs.Least.{LeastOrNone}
use Rattle.walk.specs.Chains.{chains_by}
use Rattle.walk.specs.Walk.{visit, start, walk_by}
use Rattle.choose_walk.specs.Least.{Least, none, least, less_need}
use Rattle.walk.specs.Laws.{ListsAllowed}
use Rattle.walk.proofs.Chains.{chains_only, chains_all}
use Rattle.walk.proofs.Walk.{walk_all}

-- What is had is the need of some permitted list.
abbrev pub IsNeed : List Job → Least → Type 0
IsNeed js none = Unit {0}
IsNeed js (least m) = (ts : List Seconds) × Permitted js ts × ((need js ts).0 ≡ m)

-- What is had is no more than the need of this list.
abbrev pub AtMost : List Job → Least → List Seconds → Type 0
AtMost js none us = ⊥
AtMost js (least m) us = m ≤ (need js us).0

-- The update, at a list with its own need and loss.
abbrev pub lessening : List Job → List Seconds → Least → Least
lessening js ts = less_need (need js ts).0 (loss js ts) ts

module _ (js : List Job) where
  step_is_need : (x : List Seconds) → Permitted js x → (had : Least) → IsNeed js had → IsNeed js (lessening js x had)
  unfolding less_need
  step_is_need x h none s = (x, h, refl)
  step_is_need x h (least m) s = go (dec_le (need js x).0 m)
    where
      go : Dec ((need js x).0 ≤ m) → (ts : List Seconds) × Permitted js ts × ((need js ts).0 ≡ min (need js x).0 m)
      go (yes le) = (x, h, omega arith)
      go (no gt) = (s.0, s.1, (let e = s.2 in omega arith))

  step_here : (x : List Seconds) (had : Least) → AtMost js (lessening js x had) x
  unfolding less_need
  step_here x none = le_refl _
  step_here x (least m) = omega arith

  step_more : (x : List Seconds) (had : Least) (us : List Seconds) → AtMost js had us → AtMost js (lessening js x had) us
  unfolding less_need
  step_more x none us k = absurd k
  step_more x (least m) us k = omega arith

  fold_is_need : (xs : List (List Seconds)) (had : Least) → ((x : List Seconds) → Memᴰ x xs → Permitted js x) → IsNeed js had → IsNeed js (visit (lessening js) had xs)
  unfolding visit
  fold_is_need [] had h s = s
  fold_is_need (x ∷ xs) had h s = fold_is_need xs (lessening js x had) (λ y m. h y (Memᴰ.tail m)) (step_is_need x (h x (Memᴰ.head refl)) had s)

  fold_more : (xs : List (List Seconds)) (had : Least) (us : List Seconds) → AtMost js had us → AtMost js (visit (lessening js) had xs) us
  unfolding visit
  fold_more [] had us k = k
  fold_more (x ∷ xs) had us k = fold_more xs (lessening js x had) us (step_more x had us k)

  fold_at_most : (xs : List (List Seconds)) (had : Least) (us : List Seconds) → Memᴰ us xs → AtMost js (visit (lessening js) had xs) us
  unfolding visit
  fold_at_most [] had us m = absurd (Memᴰ.not-nil m)
  fold_at_most (x ∷ xs) had us m = ⊎_elim here (fold_at_most xs (lessening js x had) us) (Memᴰ.cases_cons m)
    where
      here : us ≡ x → AtMost js (visit (lessening js) (lessening js x had) xs) us
      here e = fold_more xs (lessening js x had) us (subst (λ (l : List Seconds). AtMost js (lessening js x had) l) (sym e) (step_here x had))

least_or_none : (js : List Job) (after : Least) → IsNeed js after → ((us : List Seconds) → Permitted js us → AtMost js after us) → LeastOrNone js after
least_or_none js none s k = k
least_or_none js (least m) s k = record {
  enough = (s.0, s.1, (let e = s.2 in omega arith));
  fewest = λ b ts h fits. le_trans (k ts h) fits;
}

module _ {order : Seconds → Job → List Seconds} (law : ListsAllowed order) (js : List Job) (v : ValidJobs js) where
  pub fold_least : LeastOrNone js (visit (lessening js) none (chains_by order (seconds 1) js))
  fold_least =
      let all = chains_by order (seconds 1) js in
      least_or_none js (visit (lessening js) none all)
      (fold_is_need js all none (λ x m. chains_only law js x v (le_refl 1) m) tt)
      (λ us h. fold_at_most js all none us (chains_all law js us v (le_refl 1) h))

  -- the walk for the least need
  pub walk_least : LeastOrNone js (walk_by order less_need js start none)
  walk_least = rw (walk_all law less_need none js v) fold_least
