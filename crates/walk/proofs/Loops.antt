-- The loop over a job's periods: it opens at the first, takes one and goes on, may be left at a loss floor, and ends
-- past the interval.
-- Assumes nothing.
use mathlib.Core.Path.{◌≡◌, refl, ap}
use mathlib.Core.List.{List, ◌∷◌}
use Prim.Native.Nat.{ℕ, ◌+◌, ◌-◌, ◌≤◌, ◌<◌}
use Rattle.model.specs.declared.Seconds.{Seconds}
use Rattle.model.specs.declared.Job.{Job}
use Rattle.model.specs.Model.{seconds, job_loss}
use Rattle.model.specs.Valid.{ValidJobs}
use Rattle.walk.specs.Chains.{first_try, last_try, multiples, multiples_down}
use Rattle.walk.specs.Walk.{loss_floor, visit, Node, next, walk_by, walk, walk_down, walk_from, walk_down_from}
use Rattle.walk.specs.Laws.{Keeps}
use Rattle.walk.proofs.Chains.{multiples_lists, rising_step, rising_end}
use Rattle.walk.proofs.Falling.{falling_step, falling_end}
use Rattle.walk.proofs.Walk.{rising_cut}

module _ {A : Type 0} (f : ℕ → ℕ → List Seconds → A → A) (j : Job) (js : List Job) (n : Node) where
  pub loop_opens : (acc : A) → walk f (j ∷ js) n acc ≡ walk_from f j js n (first_try n.before j) acc
  unfolding walk_by walk_from multiples
  loop_opens acc = refl

  pub down_opens : (acc : A) → walk_down f (j ∷ js) n acc ≡ walk_down_from f j js n (last_try n.before j) acc
  unfolding walk_by walk_down_from multiples_down
  down_opens acc = refl

  module _ (t : Seconds) (acc : A) (pos : 1 ≤ n.before.0) where
    pub loop_takes : t.0 ≤ (last_try n.before j).0 → walk_from f j js n t acc ≡ walk_from f j js n (seconds (t.0 + n.before.0)) (walk f js (next j n t) acc)
    unfolding walk_from visit
    loop_takes h = ap (visit (λ u. walk f js (next j n u)) acc) (rising_step n.before (last_try n.before j) t pos h)

    pub loop_ends : (last_try n.before j).0 < t.0 → walk_from f j js n t acc ≡ acc
    unfolding walk_from visit
    loop_ends h = ap (visit (λ u. walk f js (next j n u)) acc) (rising_end n.before (last_try n.before j) t pos h)

    pub down_takes : n.before.0 ≤ t.0 → (first_try n.before j).0 ≤ t.0 → walk_down_from f j js n t acc ≡ walk_down_from f j js n (seconds (t.0 - n.before.0)) (walk_down f js (next j n t) acc)
    unfolding walk_down_from visit
    down_takes room h = ap (visit (λ u. walk_down f js (next j n u)) acc) (falling_step n.before (first_try n.before j) t pos room h)

    pub down_ends : t.0 < (first_try n.before j).0 → walk_down_from f j js n t acc ≡ acc
    unfolding walk_down_from visit
    down_ends h = ap (visit (λ u. walk_down f js (next j n u)) acc) (falling_end n.before (first_try n.before j) t pos h)

  pub loop_left : (t : Seconds) (l : ℕ) (acc : A) → ValidJobs js → 1 ≤ t.0 → l ≤ n.lost + job_loss j t + loss_floor js t.0 → Keeps f acc 0 l → walk_from f j js n t acc ≡ acc
  unfolding walk_from
  loop_left t l acc v pos l≤ keeps = rising_cut multiples_lists f acc j js n (last_try n.before j) t l v pos l≤ keeps
