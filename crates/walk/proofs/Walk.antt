-- The walk goes through the chains one after the other; where the update keeps what it has against every completion of
-- a node, so does the walk.
-- Assumes nothing.
use mathlib.Core.Path.{◌≡◌, refl, sym, ◌∙◌, ap, ap₂}
use mathlib.Core.List.{List, [], ◌∷◌, ◌++◌, map, flat_map, append-nil, Memᴰ}
use Prim.Native.Nat.{ℕ, ◌+◌, ◌*◌, ◌/◌, ◌≤◌, ◌<◌, max}
use native.Mathlib.Omega.{arith}
use native.Mathlib.Nat.{le_refl, le_trans, add_assoc, add-zero, zero-add}
use lib.Seq.{append_snoc}
use Rattle.model.specs.declared.Seconds.{Seconds}
use Rattle.model.specs.declared.Job.{Job}
use Rattle.model.specs.Model.{seconds, PermittedAfter, last_of, need, job_loss, loss}
use Rattle.model.specs.Valid.{ValidJobs}
use Rattle.step.specs.Step.{load, carried, pages_after, need_at, need_after}
use Rattle.walk.specs.Chains.{rising_from, chains_by}
use Rattle.walk.specs.Walk.{loss_floor, need_floor, visit, Node, start, next, walk_by}
use Rattle.walk.specs.Laws.{ListsAllowed, Keeps}
use Rattle.walk.proofs.Chains.{chains_only, rising_from_lem}
use Rattle.step.proofs.Shared.{need_is}
use Rattle.walk.proofs.Floors.{job_loss_mono, loss_floor_mono, loss_floor_lem, need_floor_lem, out_of_reach}

module _ {A B : Type 0} where
  pub visit_append : (f : B → A → A) (acc : A) (xs ys : List B) → visit f acc (xs ++ ys) ≡ visit f (visit f acc xs) ys
  unfolding visit
  visit_append f acc [] ys = refl
  visit_append f acc (x ∷ xs) ys = visit_append f (f x acc) xs ys

  -- two updates that agree on every entry
  pub visit_same : {f g : B → A → A} (acc : A) (xs : List B) → ((x : B) → Memᴰ x xs → (a : A) → f x a ≡ g x a) → visit f acc xs ≡ visit g acc xs
  unfolding visit
  visit_same acc [] h = refl
  visit_same {f} {g} acc (x ∷ xs) h =
      ap (λ (a : A). visit f a xs) (h x (Memᴰ.head refl) acc) ∙ visit_same (g x acc) xs (λ y m. h y (Memᴰ.tail m))

  -- an update that every entry leaves alone
  pub visit_kept : (f : B → A → A) (acc : A) (xs : List B) → ((x : B) → Memᴰ x xs → f x acc ≡ acc) → visit f acc xs ≡ acc
  unfolding visit
  visit_kept f acc [] h = refl
  visit_kept f acc (x ∷ xs) h =
      ap (λ (a : A). visit f a xs) (h x (Memᴰ.head refl)) ∙ visit_kept f acc xs (λ y m. h y (Memᴰ.tail m))

module _ {A B C : Type 0} where
  visit_map : (f : C → A → A) (g : B → C) (acc : A) (xs : List B) → visit f acc (map g xs) ≡ visit (λ x. f (g x)) acc xs
  unfolding visit
  visit_map f g acc [] = refl
  visit_map f g acc (x ∷ xs) = visit_map f g (f (g x) acc) xs

  visit_flat : (f : C → A → A) (g : B → List C) (acc : A) (xs : List B) → visit f acc (flat_map g xs) ≡ visit (λ x a. visit f a (g x)) acc xs
  unfolding visit flat_map
  visit_flat f g acc [] = refl
  visit_flat f g acc (x ∷ xs) = visit_append f acc (g x) (flat_map g xs) ∙ visit_flat f g (visit f acc (g x)) xs

-- what the update makes of the plan that completes a node by these periods
unfoldable pub at_plan : {A : Type 0} → (ℕ → ℕ → List Seconds → A → A) → List Job → Node → List Seconds → A → A
at_plan f js n ts = f (need_after n.greatest n.pages n.before js ts) (n.lost + loss js ts) (n.periods ++ ts)

module _ {A : Type 0} (order : Seconds → Job → List Seconds) (f : ℕ → ℕ → List Seconds → A → A) where
  -- the plan that completes a node by t and then ts completes the node after t by ts
  plan_next : (j : Job) (js : List Job) (n : Node) (t : Seconds) (ts : List Seconds) (a : A) → at_plan f js (next j n t) ts a ≡ at_plan f (j ∷ js) n (t ∷ ts) a
  unfolding at_plan need_after pages_after last_of loss
  plan_next j js n t ts a =
      let q = need_after (max n.greatest j.metadata) (carried n.pages n.before t (load n.greatest j)) t js ts in
      ap₂ (λ (l : ℕ) (us : List Seconds). f q l us a) (add_assoc n.lost (job_loss j t) (loss js ts)) (append_snoc n.periods t ts)

  -- the walk from a node on is the visit of the chains from there on
  pub walk_visits : (js : List Job) (n : Node) (acc : A) → walk_by order f js n acc ≡ visit (at_plan f js n) acc (chains_by order n.before js)
  unfolding walk_by chains_by visit at_plan need_after pages_after last_of loss
  walk_visits [] n acc =
      ap₂ (λ (l : ℕ) (us : List Seconds). f (need_at n.pages n.before) l us acc) (sym (add-zero n.lost)) (sym (append-nil n.periods))
  walk_visits (j ∷ js) n acc =
      let ts = order n.before j in
      let below : Seconds → List (List Seconds) = λ t. chains_by order t js in
      visit_same acc ts (λ t m a. walk_visits js (next j n t) a ∙ visit_same a (below t) (λ us k b. plan_next j js n t us b) ∙ sym (visit_map (at_plan f (j ∷ js) n) (λ us. t ∷ us) a (below t)))
      ∙ sym (visit_flat (at_plan f (j ∷ js) n) (λ t. map (λ us. t ∷ us) (below t)) acc ts)

module _ {order : Seconds → Job → List Seconds} (law : ListsAllowed order) {A : Type 0} (f : ℕ → ℕ → List Seconds → A → A) (acc : A) where
  module _ (js : List Job) (n : Node) (v : ValidJobs js) (pos : 1 ≤ n.before.0) where
    pub walk_kept : ((ts : List Seconds) → PermittedAfter n.before js ts → at_plan f js n ts acc ≡ acc) → walk_by order f js n acc ≡ acc
    walk_kept h = walk_visits order f js n acc ∙ visit_kept (at_plan f js n) acc (chains_by order n.before js) (λ ts m. h ts (chains_only law js ts v pos m))

    -- the cuts by need floor and by loss floor
    pub walk_cut : (k l : ℕ) → k ≤ need_floor n.greatest n.pages n.before js → l ≤ n.lost + loss_floor js n.before.0 → Keeps f acc k l → walk_by order f js n acc ≡ acc
    unfolding at_plan
    walk_cut k l k≤ l≤ keeps = walk_kept (λ ts h. keeps _ _ _
        (le_trans k≤ (need_floor_lem n.greatest n.pages n.before js ts v pos h))
        (let floor = loss_floor_lem n.before js ts v h in omega arith))

    -- the cut by reach
    pub walk_out_of_reach : {j : Job} → Memᴰ j js → j.hi.0 / n.before.0 * n.before.0 < j.lo.0 → walk_by order f js n acc ≡ acc
    walk_out_of_reach m far = walk_kept (λ ts h. absurd (out_of_reach n.before js ts pos m far h))

  -- the loss floor at t holds for every multiple from t on: the loop can be left
  pub rising_cut : (j : Job) (js : List Job) (n : Node) (last t : Seconds) (l : ℕ) → ValidJobs js → 1 ≤ t.0 → l ≤ n.lost + job_loss j t + loss_floor js t.0 → Keeps f acc 0 l →
      visit (λ u. walk_by order f js (next j n u)) acc (rising_from n.before last t) ≡ acc
  rising_cut j js n last t l v pos l≤ keeps = visit_kept (λ u. walk_by order f js (next j n u)) acc (rising_from n.before last t) each
    where
      each : (u : Seconds) → Memᴰ u (rising_from n.before last t) → walk_by order f js (next j n u) acc ≡ acc
      each u m =
          let on : t.0 ≤ u.0 = rising_from_lem n.before last t m in
          let here : job_loss j t ≤ job_loss j u = job_loss_mono j pos on in
          let later : loss_floor js t.0 ≤ loss_floor js u.0 = loss_floor_mono js v on in
          let total : l ≤ n.lost + job_loss j u + loss_floor js u.0 = omega arith in
          walk_cut js (next j n u) v (le_trans pos on) 0 l (omega arith) total keeps

  -- the whole walk is the visit of all permitted lists, each with its need and its loss
  pub walk_all : (js : List Job) → ValidJobs js → walk_by order f js start acc ≡ visit (λ ts. f (need js ts).0 (loss js ts) ts) acc (chains_by order (seconds 1) js)
  unfolding at_plan
  walk_all js v = walk_visits order f js start acc ∙ visit_same acc (chains_by order (seconds 1) js) each
    where
      each : (ts : List Seconds) → Memᴰ ts (chains_by order (seconds 1) js) → (a : A) → at_plan f js start ts a ≡ f (need js ts).0 (loss js ts) ts a
      each ts m a =
          let one : 1 ≤ 1 = le_refl 1 in
          let h = chains_only law js ts v one m in
          ap₂ (λ (q l : ℕ). f q l ts a) (sym (ap (λ r. r.0) (need_is js ts v h))) (zero-add (loss js ts))
