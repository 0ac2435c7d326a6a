-- The loop of the least need's walk, turn by turn: what is had is what the walk from the present multiple down would
-- start from, for jobs of every stiffness with which the numbers can hold them.
-- Assumes nothing.
use mathlib.Core.Path.{◌≡◌, refl, sym, ◌∙◌, ap, subst}
use mathlib.Core.List.{List, [], ◌∷◌, ◌++◌}
use Prim.Native.Nat.{ℕ, ◌+◌, ◌*◌, ◌-◌, ◌/◌, ◌%◌, ◌≤◌, ◌<◌, min, max, zero-le}
use native.Mathlib.Omega.{arith}
use native.Mathlib.Nat.{le_trans, le-div_iff_mul-le, div-mul-le_self, mul-mod_left}
use Rattle.std.specs.Prelude.{Option}
use Rattle.model.specs.declared.Seconds.{Seconds}
use Rattle.model.specs.declared.PagesPerHour.{PagesPerHour}
use Rattle.model.specs.declared.Job.{Job}
use Rattle.model.specs.Model.{seconds, job_loss}
use Rattle.model.specs.Most.{most_pages, most_need}
use Rattle.model.proofs.Rounding.{round_up_above, multiple_is, multiple_above, split_product}
use Rattle.step.specs.Step.{load, carried, need_at, NeedFits}
use Rattle.walk.specs.declared.Tries.{Tries}
use Rattle.walk.specs.declared.JobNumbers.{JobNumbers}
use Rattle.walk.specs.declared.Numbers.{Numbers}
use Rattle.walk.specs.declared.Begun.{Begun}
use Rattle.walk.specs.Walk.{need_floor, node, next, walk_by, walk_down, walk_down_from}
use Rattle.walk.specs.Numbers.{numbers_at, Held}
use Rattle.walk.specs.Steps.{tries_held, MayTry, Ends, Unreached, Ready}
use Rattle.walk.specs.Laws.{Keeps}
use Rattle.walk.proofs.Falling.{down_lists}
use Rattle.walk.proofs.Walk.{walk_cut}
use Rattle.walk.proofs.Loops.{down_opens, down_takes, down_ends}
use Rattle.walk.proofs.Held.{Opened, held_open, held_none, held_next, held_valid}
use Rattle.walk.proofs.Cuts.{need_floor_is, unreached, more_begun, ready_more, ready_need, ready_own, ready_tries, next_ready, next_floor}
use Rattle.choose_walk.specs.Least.{less_need, least}
use Rattle.choose_walk.specs.Steps.{ButForStiffness, nothing_lost, ReadyForNeed, least_in, LessensHeld, Lessens}

-- the least of two needs, where one is no more
pub least_kept : (q k : ℕ) → k ≤ q → least (min q k) ≡ least k
least_kept q k h = ap least (let e : min q k ≡ k = omega arith in e)

-- Before each turn: t is the period whose turn it is, and the walk from it down, begun with what is had, ends as the
-- whole walk does.
pub record Down (m : Numbers) (b : Begun) (had now : Option PagesPerHour) (t : Seconds) : Type 0 where
  pub multiple : t.0 % b.last.0 ≡ 0
  pub below : t.0 ≤ (numbers_at m b.jobs).hi.0
  pub is : (g : ℕ) (j : Job) (js : List Job) (lost : ℕ) (ts : List Seconds) → Held m b.jobs g (j ∷ js) →
      walk_down_from less_need j js (node b.last g b.written lost ts) t (least_in now) ≡ walk_down less_need (j ∷ js) (node b.last g b.written lost ts) (least_in had)

-- A turn of the loop: what stands before it, and a period that may be tried.
pub record DownTurn (m : Numbers) (b : Begun) (tries : Tries) (had now : Option PagesPerHour) (t : Seconds) : Type 0 where
  pub ready : Ready m b
  pub less : b.jobs < m.n
  pub told : tries ≡ tries_held (numbers_at m b.jobs) b.last
  pub down : Down m b had now t
  pub from : tries.first.0 ≤ t.0

module _ {m : Numbers} {b : Begun} (r : Ready m b) where
  -- the last job has its period: one plan, its need
  pub down_leaf : b.jobs ≡ m.n → (had after : Option PagesPerHour) → ((l : ℕ) (ts : List Seconds) → least_in after ≡ less_need (need_at b.written b.last) l ts (least_in had)) → LessensHeld m b had after
  unfolding walk_by
  down_leaf e had after one g js lost ts h =
      let none : js ≡ [] = held_none js (subst (λ (x : ℕ). Held m x g js) e h) in
      rw none (one lost ts)

  -- the loop opens at the last period that may be tried
  module _ {tries : Tries} (told : tries ≡ tries_held (numbers_at m b.jobs) b.last) where
    pub down_starts : (had : Option PagesPerHour) → Down m b had had tries.last
    down_starts had = rw told (record { multiple = mul-mod_left _ _; below = div-mul-le_self _ _; is = opens })
      where
        opens : (g : ℕ) (j : Job) (js : List Job) (lost : ℕ) (ts : List Seconds) → Held m b.jobs g (j ∷ js) →
            walk_down_from less_need j js (node b.last g b.written lost ts) (tries_held (numbers_at m b.jobs) b.last).last (least_in had) ≡ walk_down less_need (j ∷ js) (node b.last g b.written lost ts) (least_in had)
        opens g j js lost ts h = rw h.jobs.0.longest (sym (down_opens less_need j js (node b.last g b.written lost ts) (least_in had)))

    -- and ends below the first
    pub down_done : b.jobs < m.n → {had now : Option PagesPerHour} {t : Seconds} → Down m b had now t → t.0 < tries.first.0 → LessensHeld m b had now
    down_done less {had} {now} {t} d past g js lost ts h =
        let o = held_open js less h in
        let p = node b.last g b.written lost ts in
        let k : Held m b.jobs g (o.job ∷ o.rest) = subst (Held m b.jobs g) o.is h in
        rw o.is (sym (down_ends less_need o.job o.rest p t (least_in now) r.from (rw (told, o.holds.shortest) at past)) ∙ d.is g o.job o.rest lost ts k)

module _ {m : Numbers} {b : Begun} {tries : Tries} {had now : Option PagesPerHour} {t : Seconds} (d : DownTurn m b tries had now t) where
  from_held : (tries_held (numbers_at m b.jobs) b.last).first.0 ≤ t.0
  from_held = rw d.told at d.from

  above : (numbers_at m b.jobs).lo.0 ≤ t.0
  above = le_trans (round_up_above (numbers_at m b.jobs).lo.0 d.ready.from) from_held

  opened : Opened m b.jobs d.ready.greatest d.ready.js
  opened = held_open d.ready.js d.less d.ready.held

  t-from : 1 ≤ t.0
  t-from = omega (arith, above, opened.holds.shortest, opened.holds.valid)

  pub down_to : t.0 ≤ 3600
  down_to = omega (arith, d.down.below, ready_tries d.ready d.less)

  pub down_room : b.last.0 ≤ t.0
  down_room = multiple_above b.last.0 t.0 t-from d.down.multiple

  pub down_falls : t.0 - b.last.0 < t.0
  down_falls = omega (arith, down_room, d.ready.from)

  -- the pages carried on
  pub down_carry : NeedFits b.written b.last × (t.0 ≤ 3600) × ((numbers_at m b.jobs).load ≤ most_pages)
  down_carry = (ready_need d.ready, down_to, ready_own d.ready d.less)

  pub down_ends_at : Ends m (b.jobs + 1) t
  down_ends_at = record { most = d.ready.held.most; from = t-from }

  -- The walk below this period takes what is had to `after`.
  abbrev Below : Option PagesPerHour → Type 0
  Below after = (g : ℕ) (j : Job) (js : List Job) (lost : ℕ) (ts : List Seconds) → Held m b.jobs g (j ∷ js) → walk_down less_need js (next j (node b.last g b.written lost ts) t) (least_in now) ≡ least_in after

  -- one turn
  turn : {after : Option PagesPerHour} → Below after → Down m b had after (seconds (t.0 - b.last.0))
  turn {after} below = record { multiple = multiple; below = omega (arith, d.down.below); is = turned }
    where
      multiple : (t.0 - b.last.0) % b.last.0 ≡ 0
      multiple =
          let whole : t.0 ≡ t.0 / b.last.0 * b.last.0 = multiple_is t.0 b.last.0 d.down.multiple in
          let pos = d.ready.from in
          let room = down_room in
          let one : 1 ≤ t.0 / b.last.0 = (le-div_iff_mul-le pos).1 (omega arith) in
          let parts : t.0 / b.last.0 * b.last.0 ≡ 1 * b.last.0 + (t.0 / b.last.0 - 1) * b.last.0 = split_product b.last.0 one in
          let e : t.0 - b.last.0 ≡ (t.0 / b.last.0 - 1) * b.last.0 = omega arith in
          rw e (mul-mod_left _ _)

      turned : (g : ℕ) (j : Job) (js : List Job) (lost : ℕ) (ts : List Seconds) → Held m b.jobs g (j ∷ js) →
          walk_down_from less_need j js (node b.last g b.written lost ts) (seconds (t.0 - b.last.0)) (least_in after) ≡ walk_down less_need (j ∷ js) (node b.last g b.written lost ts) (least_in had)
      turned g j js lost ts h =
          let p = node b.last g b.written lost ts in
          ap (walk_down_from less_need j js p (seconds (t.0 - b.last.0))) (sym (below g j js lost ts h))
          ∙ sym (down_takes less_need j js p t (least_in now) d.ready.from down_room (rw h.jobs.0.shortest at from_held))
          ∙ d.down.is g j js lost ts h

  -- a later interval holds no multiple of this period
  pub down_unreached : Unreached m (b.jobs + 1) t → Down m b had now (seconds (t.0 - b.last.0))
  down_unreached far = turn {after = now} (λ g j js lost ts h. unreached down_lists less_need (least_in now) js (next j (node b.last g b.written lost ts) t) t-from (held_next j js h) far)

  module _ {written : ℕ} (carries : written ≡ carried b.written b.last t (numbers_at m b.jobs).load) where
    -- the part of a plan with this job
    pub down_next : Ready m (more_begun b t written b.lost)
    down_next = rw carries (next_ready d.ready d.less t d.down.multiple above d.down.below (omega (arith, d.ready.bounded.lost_to)))

    -- what the need floor asks
    pub down_need : NeedFits written t
    down_need = ready_need down_next

    pub down_need_to : need_at written t + (numbers_at m b.jobs).later.0 ≤ most_need
    down_need_to = rw carries (next_floor d.ready d.less t d.down.multiple above d.down.below)

    -- the pages with a job at hand
    pages : {g : ℕ} {j : Job} {js : List Job} → Held m b.jobs g (j ∷ js) → written ≡ carried b.written b.last t (load g j)
    pages h = carries ∙ ap (λ (x : ℕ). carried b.written b.last t x) h.jobs.0.for_need

    -- what the walk below this period makes of what is had
    pub down_turn : {after : Option PagesPerHour} → LessensHeld m (more_begun b t written b.lost) now after → Down m b had after (seconds (t.0 - b.last.0))
    down_turn {after} lessens = turn below
      where
        below : Below after
        below g j js lost ts h = sym (rw (pages h) at (lessens _ js (lost + job_loss j t) (ts ++ (t ∷ [])) (held_next j js h)))

    -- what is had stands against the need floor: the walk is not made
    pub down_kept : Keeps less_need (least_in now) (need_at written t + (numbers_at m b.jobs).later.0) 0 → Down m b had now (seconds (t.0 - b.last.0))
    down_kept keeps = turn {after = now} below
      where
        below : Below now
        below g j js lost ts h =
            let valid = held_valid js (held_next j js h) in
            let least = need_at written t + (numbers_at m b.jobs).later.0 in
            let is : least ≡ need_floor (max g j.metadata) (carried b.written b.last t (load g j)) t js = need_floor_is h.jobs.0 t written ∙ ap (λ (x : ℕ). need_floor (max g j.metadata) x t js) (pages h) in
            walk_cut down_lists less_need (least_in now) js (next j (node b.last g b.written lost ts) t) valid t-from least 0 (omega arith) zero-le keeps

-- numbers are themselves but for stiffness
pub same_numbers : (m : Numbers) → ButForStiffness m m
same_numbers m = record { count = refl; jobs = λ i. refl }

-- what is ready for the other walk may be asked about, and is told of
pub need_ready : {m : Numbers} {b : Begun} → Ready m b → ReadyForNeed m b
need_ready {m} r = record {
  numbers = m;
  same = same_numbers m;
  ready = record { greatest = r.greatest; js = r.js; held = r.held; from = r.from; to = r.to; bounded = record { pages_to = r.bounded.pages_to; lost_to = zero-le } };
}

pub lessens_held : (m : Numbers) (b : Begun) (had r : Option PagesPerHour) → Lessens m b had r → LessensHeld m b had r
lessens_held m b had r l = l m (same_numbers m)

-- Before each turn, whatever the stiffnesses.
abbrev pub DownForNeed : Numbers → Begun → Option PagesPerHour → Option PagesPerHour → Seconds → Type 0
DownForNeed m b had now t = (x : ReadyForNeed m b) → Down x.numbers (nothing_lost b) had now t

-- From the numbers that the code has to those that hold the jobs, and back.
module _ {m : Numbers} {b : Begun} (x : ReadyForNeed m b) where
  same_lo : (i : ℕ) → (numbers_at x.numbers i).lo ≡ (numbers_at m i).lo
  same_lo i = ap (λ (j : JobNumbers). j.lo) (x.same.jobs i)

  same_hi : (i : ℕ) → (numbers_at x.numbers i).hi ≡ (numbers_at m i).hi
  same_hi i = ap (λ (j : JobNumbers). j.hi) (x.same.jobs i)

  pub same_load : (i : ℕ) → (numbers_at x.numbers i).load ≡ (numbers_at m i).load
  same_load i = ap (λ (j : JobNumbers). j.load) (x.same.jobs i)

  pub same_later : (i : ℕ) → (numbers_at x.numbers i).later ≡ (numbers_at m i).later
  same_later i = ap (λ (j : JobNumbers). j.later) (x.same.jobs i)

  -- jobs that are held with other stiffnesses are as ready
  pub lessens_all : (had r : Option PagesPerHour) → ((y : ReadyForNeed m b) → LessensHeld y.numbers (nothing_lost b) had r) → Lessens m b had r
  lessens_all had r each k s g js lost ts h =
      let ready : Ready k (nothing_lost b) = record { greatest = g; js = js; held = h; from = x.ready.from; to = x.ready.to; bounded = x.ready.bounded } in
      each (record { numbers = k; same = s; ready = ready }) g js lost ts h

  -- every job has its period, or there is one more
  pub need_whole : b.jobs ≡ m.n → b.jobs ≡ x.numbers.n
  need_whole e = e ∙ sym x.same.count

  pub need_more : (b.jobs ≡ m.n → ⊥) → b.jobs < x.numbers.n
  need_more some = ready_more x.ready (λ e. some (e ∙ x.same.count))

  -- the periods that it may try
  pub need_tries : (b.jobs ≡ m.n → ⊥) → MayTry (numbers_at m b.jobs) b.last
  need_tries some =
      let may = ready_tries x.ready (need_more some) in
      record { from = may.from; to = may.to; shortest_to = rw (same_lo b.jobs) at may.shortest_to; longest_to = rw (same_hi b.jobs) at may.longest_to }

  pub need_told : {tries : Tries} → tries ≡ tries_held (numbers_at m b.jobs) b.last → tries ≡ tries_held (numbers_at x.numbers b.jobs) b.last
  need_told told = rw (same_lo b.jobs, same_hi b.jobs) told

  -- the pages with it
  pub need_carries : (t : Seconds) {written : ℕ} → written ≡ carried b.written b.last t (numbers_at m b.jobs).load → written ≡ carried b.written b.last t (numbers_at x.numbers b.jobs).load
  need_carries t carries = rw (same_load b.jobs) carries

  -- the jobs after it
  pub need_ends : {i : ℕ} {t : Seconds} → Ends x.numbers i t → Ends m i t
  need_ends e = record { most = rw x.same.count at e.most; from = e.from }

  pub need_unreached : {i : ℕ} (t : Seconds) → Unreached m i t → Unreached x.numbers i t
  need_unreached t u = (u.0, u.1, rw x.same.count u.2, rw (same_lo u.0, same_hi u.0) u.3)
