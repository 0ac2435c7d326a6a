-- The tests that cut a walk, as the code makes them on the numbers that stand for the jobs: each shows that the walk
-- would change nothing.
-- Assumes nothing.
use mathlib.Core.Path.{◌≡◌, ap}
use mathlib.Core.List.{List}
use Prim.Native.Nat.{ℕ, ◌+◌, ◌*◌, ◌/◌, ◌%◌, ◌≤◌, ◌<◌, max, zero-le}
use native.Mathlib.Omega.{arith}
use native.Mathlib.Nat.{le_refl}
use Rattle.model.specs.declared.Seconds.{Seconds}
use Rattle.model.specs.declared.Job.{Job}
use Rattle.model.specs.Most.{most_pages, most_need, most_loss}
use Rattle.model.specs.Model.{seconds, Allowed}
use Rattle.step.specs.Step.{load, carried, need_at, NeedFits}
use Rattle.step.proofs.Bounds.{load_bound, start_bounded, need_bound, next_bounded, bounded_fits}
use Rattle.walk.specs.declared.Numbers.{Numbers}
use Rattle.walk.specs.declared.Begun.{Begun}
use Rattle.walk.specs.Walk.{need_floor, Node, walk_by}
use Rattle.walk.specs.Numbers.{numbers_at, HoldsJob, Held}
use Rattle.walk.specs.Steps.{MayTry, Ends, Unreached, Ready}
use Rattle.walk.specs.Laws.{ListsAllowed}
use Rattle.walk.proofs.Walk.{walk_out_of_reach}
use Rattle.walk.proofs.Bounds.{least_needs_bound}
use Rattle.walk.proofs.Held.{held_open, held_at, held_valid}

module _ {m : Numbers} {i : ℕ} where
  -- the need floor is one of the jobs to come
  pub need_floor_is : {greatest : ℕ} {j : Job} {js : List Job} → HoldsJob m i greatest j js → (t : Seconds) (written : ℕ) → need_at written t + (numbers_at m i).later.0 ≡ need_floor (max greatest j.metadata) written t js
  unfolding need_floor
  need_floor_is h t written = ap (λ (x : ℕ). need_at written t + x) h.later

  -- an interval of a later job that holds no multiple of t
  pub unreached : {order : Seconds → Job → List Seconds} → ListsAllowed order → {A : Type 0} (f : ℕ → ℕ → List Seconds → A → A) (acc : A) (js : List Job) (p : Node) →
      {greatest : ℕ} → 1 ≤ p.before.0 → Held m i greatest js → Unreached m i p.before → walk_by order f js p acc ≡ acc
  unreached law f acc js p pos h u =
      let a = held_at u.0 js u.1 u.2 h in
      let far = u.3 in
      let lo = a.holds.shortest in
      let hi : (numbers_at m u.0).hi.0 / p.before.0 * p.before.0 ≡ a.job.hi.0 / p.before.0 * p.before.0 = ap (λ (x : ℕ). x / p.before.0 * p.before.0) a.holds.longest in
      walk_out_of_reach law f acc js p (held_valid js h) pos a.member (omega arith)

-- The part of a plan with one more job, at period t.
abbrev pub more_begun : Begun → Seconds → ℕ → ℕ → Begun
more_begun b t written lost = record { jobs = b.jobs + 1; last = t; written = written; lost = lost }

module _ {m : Numbers} {b : Begun} (r : Ready m b) where
  place_to : b.jobs ≤ 8
  place_to = omega (arith, r.held.count, r.held.most)

  pub ready_more : (b.jobs ≡ m.n → ⊥) → b.jobs < m.n
  ready_more some = omega (arith, r.held.count)

  pub ready_need : NeedFits b.written b.last
  ready_need = bounded_fits r.bounded place_to r.from r.to

  pub ready_ends : Ends m b.jobs b.last
  ready_ends = record { most = r.held.most; from = r.from }

  -- the need floor of the jobs to come
  pub need_floor_to : need_floor r.greatest b.written b.last r.js ≤ most_need
  unfolding need_floor
  need_floor_to =
      omega (arith, need_bound r.bounded r.from, least_needs_bound r.greatest r.js (held_valid r.js r.held), r.held.count, r.held.most)

  -- what a whole plan is asked for
  pub ready_plan : NeedFits b.written b.last × (b.lost ≤ most_loss * 8)
  ready_plan = (ready_need, omega (arith, r.bounded.lost_to, place_to))

  -- what the need floor asks
  pub ready_floor : (b.jobs ≤ 8) × (NeedFits b.written b.last × (need_floor r.greatest b.written b.last r.js ≤ most_need))
  ready_floor = (place_to, (ready_need, need_floor_to))

  -- one more job
  module _ (less : b.jobs < m.n) where
    -- the periods that it may try
    pub ready_tries : MayTry (numbers_at m b.jobs) b.last
    ready_tries =
        let o = held_open r.js less r.held in
        record { from = r.from; to = r.to; shortest_to = omega (arith, o.holds.valid, o.holds.shortest); longest_to = omega (arith, o.holds.valid, o.holds.longest) }

    -- its pages
    pub ready_own : (numbers_at m b.jobs).load ≤ most_pages
    ready_own =
        let o = held_open r.js less r.held in
        omega (arith, o.holds.for_need, load_bound r.greatest o.job o.holds.valid)

    -- at a multiple of the period before
    module _ (t : Seconds) (multiple : t.0 % b.last.0 ≡ 0) (above : (numbers_at m b.jobs).lo.0 ≤ t.0) (below : t.0 ≤ (numbers_at m b.jobs).hi.0) where
      pub next_allowed : {greatest : ℕ} (j : Job) {js : List Job} → HoldsJob m b.jobs greatest j js → Allowed j b.last t
      next_allowed j h = record { above = rw h.shortest at above; below = rw h.longest at below; multiple = multiple }

      pub next_ready : {lost : ℕ} → lost ≤ most_loss * (b.jobs + 1) → Ready m (more_begun b t (carried b.written b.last t (numbers_at m b.jobs).load) lost)
      next_ready lost≤ =
          let o = held_open r.js less r.held in
          let v = o.holds.valid in
          let lo = o.holds.shortest in
          let hi = o.holds.longest in
          let own = o.holds.for_need in
          let c = next_bounded r.bounded r.greatest o.job t v (next_allowed o.job o.holds) in
          let p : carried b.written b.last t (load r.greatest o.job) ≤ most_pages * (b.jobs + 1) * t.0 = c.pages_to in
          record { greatest = max r.greatest o.job.metadata; js = o.rest; held = o.later; from = omega arith; to = omega arith; bounded = record { pages_to = omega arith; lost_to = lost≤ } }

      -- the need floor with it
      pub next_floor : need_at (carried b.written b.last t (numbers_at m b.jobs).load) t + (numbers_at m b.jobs).later.0 ≤ most_need
      next_floor =
          let n = next_ready {lost = 0} zero-le in
          let o = held_open r.js less r.held in
          omega (arith, need_bound n.bounded n.from, least_needs_bound (max r.greatest o.job.metadata) o.rest (held_valid o.rest o.later), o.holds.later, o.later.count, o.later.most)

-- where a walk begins
pub ready_start : {m : Numbers} {greatest : ℕ} {js : List Job} → Held m 0 greatest js → Ready m (record { jobs = 0; last = seconds 1; written = 0; lost = 0 })
ready_start {greatest = g} {js = js} held = record { greatest = g; js = js; held = held; from = le_refl 1; to = omega arith; bounded = start_bounded }
