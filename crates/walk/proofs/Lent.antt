-- The walk goes through a place that is lent as through what stands there, and leaves the place as it is.
-- Assumes nothing.
use mathlib.Core.Path.{◌≡◌, refl, ◌∙◌, ap}
use mathlib.Core.List.{List, [], ◌∷◌}
use Prim.Native.Nat.{ℕ}
use Rattle.std.proofs.Common.{MutBor}
use Rattle.model.specs.declared.Seconds.{Seconds}
use Rattle.model.specs.declared.Job.{Job}
use Rattle.walk.specs.Walk.{visit, Node, next, walk_by}
use Rattle.walk.specs.Lent.{put, in_place}

module _ {A : Type 0} where
  visit_lent : {B : Type 0} (f : B → A → A) (g : B → MutBor A → MutBor A) → ((x : B) (r : MutBor A) → g x r ≡ put (f x r.now) r) → (r : MutBor A) (xs : List B) → visit g r xs ≡ put (visit f r.now xs) r
  unfolding visit
  visit_lent f g is r [] = refl
  visit_lent f g is r (x ∷ xs) = ap (λ (s : MutBor A). visit g s xs) (is x r) ∙ visit_lent f g is (put (f x r.now) r) xs

  pub walk_lent : (order : Seconds → Job → List Seconds) (f : ℕ → ℕ → List Seconds → A → A) (js : List Job) (n : Node) (r : MutBor A) → walk_by order (in_place f) js n r ≡ put (walk_by order f js n r.now) r
  unfolding walk_by
  walk_lent order f [] n r = refl
  walk_lent order f (j ∷ js) n r =
      visit_lent (λ t. walk_by order f js (next j n t)) (λ t. walk_by order (in_place f) js (next j n t)) (λ t s. walk_lent order f js (next j n t) s) r (order n.before j)

-- what holds one thing and no more is walked through as what it holds
module _ {A B : Type 0} (wrap : A → B) where
  visit_wrapped : {C : Type 0} (f : C → A → A) (g : C → B → B) → ((x : C) (a : A) → g x (wrap a) ≡ wrap (f x a)) → (a : A) (xs : List C) → visit g (wrap a) xs ≡ wrap (visit f a xs)
  unfolding visit
  visit_wrapped f g is a [] = refl
  visit_wrapped f g is a (x ∷ xs) = ap (λ (b : B). visit g b xs) (is x a) ∙ visit_wrapped f g is (f x a) xs

  pub walk_wrapped : (order : Seconds → Job → List Seconds) (f : ℕ → ℕ → List Seconds → A → A) (g : ℕ → ℕ → List Seconds → B → B) → ((q l : ℕ) (ts : List Seconds) (a : A) → g q l ts (wrap a) ≡ wrap (f q l ts a)) →
      (js : List Job) (n : Node) (a : A) → walk_by order g js n (wrap a) ≡ wrap (walk_by order f js n a)
  unfolding walk_by
  walk_wrapped order f g is [] n a = is _ _ _ a
  walk_wrapped order f g is (j ∷ js) n a =
      visit_wrapped (λ t. walk_by order f js (next j n t)) (λ t. walk_by order g js (next j n t)) (λ t b. walk_wrapped order f g is js (next j n t) b) a (order n.before j)
