-- The walk over all permitted lists, without its cuts, and the floors that allow the cuts. No public contract cites
-- this.
-- Assumes nothing.
use Rattle.std.specs.Prelude.{List, [], ◌∷◌, ◌++◌, ℕ, ◌+◌, ◌*◌, ◌/◌, max}
use Rattle.model.specs.declared.Seconds.{Seconds}
use Rattle.model.specs.declared.Job.{Job}
use Rattle.model.specs.Model.{seconds, job_loss}
use Rattle.step.specs.Step.{load, carried, need_at}
use Rattle.walk.specs.Chains.{first_try, last_try, rising_from, multiples, falling_from, multiples_down}

-- What these jobs lose at least when every period is at least `t`.
unfoldable pub loss_floor : List Job → ℕ → ℕ
loss_floor [] t = 0
loss_floor (j ∷ js) t = job_loss j (seconds (max j.lo.0 t)) + loss_floor js t

-- What these jobs need at least, where `greatest` is the greatest metadata of the jobs before them.
unfoldable pub least_needs : ℕ → List Job → ℕ
least_needs greatest [] = 0
least_needs greatest (j ∷ js) = 3600 * load greatest j / j.hi.0 + least_needs (max greatest j.metadata) js

-- What a plan needs at least, whose jobs before these write `pages` in `before` seconds; `greatest` is the greatest of
-- their metadata.
unfoldable pub need_floor : ℕ → ℕ → Seconds → List Job → ℕ
need_floor greatest pages before js = need_at pages before + least_needs greatest js

-- Each entry in turn changes what was had before it.
unfoldable pub visit : {A B : Type 0} → (B → A → A) → A → List B → A
visit f acc [] = acc
visit f acc (x ∷ xs) = visit f (f x acc) xs

-- A part of a plan: the last period, the greatest metadata so far, the pages in the last period, the loss so far, the
-- periods so far.
pub record Node : Type 0 where
  pub before : Seconds
  pub greatest : ℕ
  pub pages : ℕ
  pub lost : ℕ
  pub periods : List Seconds

abbrev pub node : Seconds → ℕ → ℕ → ℕ → List Seconds → Node
node before greatest pages lost periods = record { before = before; greatest = greatest; pages = pages; lost = lost; periods = periods }

abbrev pub start : Node
start = record { before = seconds 1; greatest = 0; pages = 0; lost = 0; periods = [] }

-- The part with one more job, at period `t`.
abbrev pub next : Job → Node → Seconds → Node
next j n t = record {
  before = t;
  greatest = max n.greatest j.metadata;
  pages = carried n.pages n.before t (load n.greatest j);
  lost = n.lost + job_loss j t;
  periods = n.periods ++ (t ∷ []);
}

-- Job by job through the periods that `order` lists; each whole plan, its need and its loss go to `f`.
unfoldable pub walk_by : {A : Type 0} → (Seconds → Job → List Seconds) → (ℕ → ℕ → List Seconds → A → A) → List Job → Node → A → A
walk_by order f [] n acc = f (need_at n.pages n.before) n.lost n.periods acc
walk_by order f (j ∷ js) n acc = visit (λ t. walk_by order f js (next j n t)) acc (order n.before j)

abbrev pub walk : {A : Type 0} → (ℕ → ℕ → List Seconds → A → A) → List Job → Node → A → A
walk = walk_by multiples

abbrev pub walk_down : {A : Type 0} → (ℕ → ℕ → List Seconds → A → A) → List Job → Node → A → A
walk_down = walk_by multiples_down

-- The rest of the loop over a job's periods: from `t` up, or from `t` down.
unfoldable pub walk_from : {A : Type 0} → (ℕ → ℕ → List Seconds → A → A) → Job → List Job → Node → Seconds → A → A
walk_from f j js n t acc = visit (λ u. walk f js (next j n u)) acc (rising_from n.before (last_try n.before j) t)

unfoldable pub walk_down_from : {A : Type 0} → (ℕ → ℕ → List Seconds → A → A) → Job → List Job → Node → Seconds → A → A
walk_down_from f j js n t acc = visit (λ u. walk_down f js (next j n u)) acc (falling_from n.before (first_try n.before j) t)
