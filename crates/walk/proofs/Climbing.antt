-- The loop of a rising walk, turn by turn, whatever the walk keeps: from the present period up, begun with what is had,
-- it ends as the whole walk does.
-- Assumes nothing.
use mathlib.Core.Path.{◌≡◌, refl, sym, ◌∙◌, ap, subst}
use mathlib.Core.List.{List, [], ◌∷◌, ◌++◌}
use Prim.Native.Nat.{ℕ, zero, suc, ◌+◌, ◌*◌, ◌-◌, ◌/◌, ◌%◌, ◌≤◌, ◌<◌, max}
use native.Mathlib.Omega.{arith}
use native.Mathlib.Numerals.{add-one}
use native.Mathlib.Nat.{le_refl, le_trans, mul-mod_left, add-mod_right, mul-div_cancel, div-mul-le_self}
use lib.ListN.{length, take, set}
use lib.Seq.{take-suc-set, take-set-le}
use Rattle.std.specs.Prelude.{All}
use Rattle.std.proofs.lemmas.List.Elements.{All-push}
use Rattle.model.specs.declared.Seconds.{Seconds}
use Rattle.model.specs.declared.Job.{Job}
use Rattle.model.specs.Most.{most_pages, most_need, most_loss}
use Rattle.model.proofs.Bounds.{job_loss_bound}
use Rattle.model.specs.Model.{seconds, job_loss}
use Rattle.model.specs.Rounding.{round_up}
use Rattle.step.specs.Step.{load, carried, need_at, NeedFits}
use Rattle.walk.specs.declared.Tries.{Tries}
use Rattle.walk.specs.declared.Numbers.{Numbers}
use Rattle.walk.specs.declared.Begun.{Begun}
use Rattle.walk.specs.Walk.{need_floor, next, walk, walk_from, walk_by}
use Rattle.walk.specs.Numbers.{numbers_at, HoldsJob, Held}
use Rattle.walk.specs.Steps.{loss_held, LossHeldFits, tries_held, Ends, Unreached, PassedOver, Repeats, node_of, Later, IsLossFloor, Ready, Walked}
use Rattle.walk.specs.Laws.{IsPeriod, Pageless, Keeps, Absorbs}
use Rattle.model.proofs.Rounding.{round_up_above, round_up_some}
use Rattle.walk.proofs.Bounds.{loss_floor_bound}
use Rattle.walk.proofs.Chains.{multiples_lists}
use Rattle.walk.proofs.Walk.{walk_cut}
use Rattle.walk.proofs.Pageless.{SettledTo, settled_first, settled_more, settled_passes}
use Rattle.walk.proofs.Loops.{loop_opens, loop_takes, loop_ends, loop_left}
use Rattle.walk.proofs.Held.{Opened, held_open, held_none, held_next, held_valid, job_loss_fits, job_loss_is}
use Rattle.walk.proofs.Cuts.{need_floor_is, unreached, more_begun, ready_need, ready_own, ready_tries, next_ready, next_floor}

-- the periods with one more
periods_more : (i : ℕ) (t : Seconds) (ps : List Seconds) → i < length ps → take (i + 1) (set ps i t) ≡ take i ps ++ (t ∷ [])
periods_more i t ps h = ap (λ (k : ℕ). take k (set ps i t)) (add-one i) ∙ take-suc-set ps i t h

-- lists alike up to one place more are alike up to this one
shorter : (i : ℕ) (xs ys : List Seconds) → take (suc i) xs ≡ take (suc i) ys → take i xs ≡ take i ys
shorter i xs ys e = sym (twice i xs) ∙ ap (take i) e ∙ twice i ys
  where
    twice : (k : ℕ) (zs : List Seconds) → take k (take (suc k) zs) ≡ take k zs
    twice zero zs = refl
    twice (suc k) [] = refl
    twice (suc k) (z ∷ zs) = ap (λ (l : List Seconds). z ∷ l) (twice k zs)

-- one more period, where of each period no more is asked than that it is one
module _ (P : Seconds → Type 0) (asks : (t : Seconds) → IsPeriod t → P t) where
  pub hour_set : (ps : List Seconds) (i : ℕ) (t : Seconds) → i < length ps → 1 ≤ t.0 → t.0 ≤ 3600 → All P (take i ps) → All P (take (i + 1) (set ps i t))
  hour_set ps i t h from to within = rw (periods_more i t ps h) (All-push P (take i ps) t within (asks t (from, to)))

multiple_more : (t p : ℕ) → t % p ≡ 0 → (t + p) % p ≡ 0
multiple_more t p e = add-mod_right t p ∙ e

module _ {A : Type 0} (f : ℕ → ℕ → List Seconds → A → A) (m : Numbers) (b : Begun) where
  -- Before each turn: t is the period whose turn it is, and the walk from it up, begun with what is had, ends as the
  -- whole walk does; no completion of an earlier one would change what is had.
  pub record Up (ps₀ : List Seconds) (acc₀ : A) (ps : List Seconds) (acc : A) (t : Seconds) : Type 0 where
    pub before : take b.jobs ps ≡ take b.jobs ps₀
    pub multiple : t.0 % b.last.0 ≡ 0
    pub above : (numbers_at m b.jobs).lo.0 ≤ t.0
    pub is : (g : ℕ) (j : Job) (js : List Job) → Held m b.jobs g (j ∷ js) →
        walk_from f j js (node_of b g (take b.jobs ps₀)) t acc ≡ walk f (j ∷ js) (node_of b g (take b.jobs ps₀)) acc₀
    pub settled : (g : ℕ) (j : Job) (js : List Job) → Held m b.jobs g (j ∷ js) → SettledTo f j js (node_of b g (take b.jobs ps₀)) t.0 acc

  -- A turn of the loop: what stands before it, and a period that may be tried; the update absorbs what it visits.
  pub record Turn (Good : A → Type 0) (tries : Tries) (ps₀ : List Seconds) (acc₀ : A) (ps : List Seconds) (acc : A) (t : Seconds) : Type 0 where
    pub ready : Ready m b
    pub less : b.jobs < m.n
    pub told : tries ≡ tries_held (numbers_at m b.jobs) b.last
    pub up : Up ps₀ acc₀ ps acc t
    pub on : t.0 ≤ tries.last.0
    pub absorbs : Absorbs Good f
    pub good : Good acc

  -- The walk below the period t takes what is had from acc to acc'.
  abbrev Below : List Seconds → Seconds → A → A → Type 0
  Below ps₀ t acc acc' = (g : ℕ) (j : Job) (js : List Job) → Held m b.jobs g (j ∷ js) → walk f js (next j (node_of b g (take b.jobs ps₀)) t) acc ≡ acc'

module _ {A : Type 0} {f : ℕ → ℕ → List Seconds → A → A} {m : Numbers} {b : Begun} where
  module _ (r : Ready m b) where
    -- the last job has its period: one plan
    pub up_leaf : {ps : List Seconds} {acc acc' : A} → b.jobs ≡ m.n → acc' ≡ f (need_at b.written b.last) b.lost (take m.n ps) acc → Walked f m b ps ps acc acc'
    unfolding walk_by
    up_leaf {ps} {acc} {acc'} e o = record { before = refl; is = one }
      where
        one : (g : ℕ) (js : List Job) → Held m b.jobs g js → acc' ≡ walk f js (node_of b g (take b.jobs ps)) acc
        one g js h =
            let none : js ≡ [] = held_none js (subst (λ (x : ℕ). Held m x g js) e h) in
            rw (none, e) o

    -- the loop opens at the first period that may be tried
    module _ {tries : Tries} (told : tries ≡ tries_held (numbers_at m b.jobs) b.last) where
      pub up_starts : {ps : List Seconds} {acc : A} → Up f m b ps acc ps acc tries.first
      up_starts {ps} {acc} =
          rw told (record { before = refl; multiple = mul-mod_left _ _; above = round_up_above (numbers_at m b.jobs).lo.0 r.from; is = opens; settled = none })
        where
          opens : (g : ℕ) (j : Job) (js : List Job) → Held m b.jobs g (j ∷ js) →
              walk_from f j js (node_of b g (take b.jobs ps)) (tries_held (numbers_at m b.jobs) b.last).first acc ≡ walk f (j ∷ js) (node_of b g (take b.jobs ps)) acc
          opens g j js h = rw h.jobs.0.shortest (sym (loop_opens f j js (node_of b g (take b.jobs ps)) acc))

          none : (g : ℕ) (j : Job) (js : List Job) → Held m b.jobs g (j ∷ js) → SettledTo f j js (node_of b g (take b.jobs ps)) (tries_held (numbers_at m b.jobs) b.last).first.0 acc
          none g j js h = rw h.jobs.0.shortest (settled_first f j js (node_of b g (take b.jobs ps)) acc r.from)

      -- and ends past the last
      pub up_done : b.jobs < m.n → {ps₀ ps : List Seconds} {acc₀ acc : A} {t : Seconds} → Up f m b ps₀ acc₀ ps acc t → tries.last.0 < t.0 → Walked f m b ps₀ ps acc₀ acc
      up_done less {ps₀} {ps} {acc₀} {acc} {t} u past = record { before = u.before; is = done }
        where
          done : (g : ℕ) (js : List Job) → Held m b.jobs g js → acc ≡ walk f js (node_of b g (take b.jobs ps₀)) acc₀
          done g js h =
              let o = held_open js less h in
              let k : Held m b.jobs g (o.job ∷ o.rest) = subst (Held m b.jobs g) o.is h in
              let end = loop_ends f o.job o.rest (node_of b g (take b.jobs ps₀)) t acc r.from (rw (told, o.holds.longest) at past) in
              rw o.is (sym end ∙ u.is g o.job o.rest k)

  module _ {Good : A → Type 0} {tries : Tries} {ps₀ ps : List Seconds} {acc₀ acc : A} {t : Seconds} (u : Turn f m b Good tries ps₀ acc₀ ps acc t) where
    on_held : t.0 ≤ (tries_held (numbers_at m b.jobs) b.last).last.0
    on_held = rw u.told at u.on

    below_longest : t.0 ≤ (numbers_at m b.jobs).hi.0
    below_longest = le_trans on_held (div-mul-le_self (numbers_at m b.jobs).hi.0 b.last.0)

    -- the period is within the hour, and so is the next one's sum
    pub up_to_lem : t.0 ≤ 3600
    up_to_lem = omega (arith, below_longest, ready_tries u.ready u.less)

    pub up_next_to : t.0 + b.last.0 ≤ 7200
    up_next_to = omega (arith, up_to_lem, u.ready.to)

    pub up_place : b.jobs < 8
    up_place = omega (arith, u.less, u.ready.held.most)

    -- less is left to try
    pub up_falls : tries.last.0 + 1 - (t.0 + b.last.0) < tries.last.0 + 1 - t.0
    up_falls = omega (arith, u.on, u.ready.from)

    opened : Opened m b.jobs u.ready.greatest u.ready.js
    opened = held_open u.ready.js u.less u.ready.held

    -- the loss so far with this job's
    pub up_loss_fits : LossHeldFits (numbers_at m b.jobs) t
    up_loss_fits = job_loss_fits opened.holds t (rw opened.holds.shortest at u.up.above)

    loss_here : {g : ℕ} (j : Job) {js : List Job} → HoldsJob m b.jobs g j js → loss_held (numbers_at m b.jobs) t ≡ job_loss j t
    loss_here j h = job_loss_is h t (rw h.shortest at u.up.above)

    pub up_later : Later m (b.jobs + 1) t
    up_later = record { greatest = max u.ready.greatest opened.job.metadata; js = opened.rest; held = opened.later; from = omega (arith, opened.holds.valid.lo_from, opened.holds.shortest, u.up.above) }

    pub up_ends : Ends m (b.jobs + 1) t
    up_ends = record { most = u.ready.held.most; from = up_later.from }

    -- the first multiplier that reaches the interval
    pub up_first : 1 ≤ tries.first.0 / b.last.0
    up_first = rw (u.told, mul-div_cancel (round_up (numbers_at m b.jobs).lo.0 b.last.0) u.ready.from) (round_up_some some u.ready.from)
      where
        some : 1 ≤ (numbers_at m b.jobs).lo.0
        some = omega (arith, opened.holds.valid.lo_from, opened.holds.shortest)

    -- the pages carried on
    pub up_carry : NeedFits b.written b.last × (t.0 ≤ 3600) × ((numbers_at m b.jobs).load ≤ most_pages)
    up_carry = (ready_need u.ready, up_to_lem, ready_own u.ready u.less)

    -- one turn, where the walk below this period takes what is had to acc'
    turn : {ps' : List Seconds} {acc' : A} → take b.jobs ps' ≡ take b.jobs ps₀ → Below f m b ps₀ t acc acc' → Up f m b ps₀ acc₀ ps' acc' (seconds (t.0 + b.last.0))
    turn {ps'} {acc'} same below =
        record { before = same; multiple = multiple_more t.0 b.last.0 u.up.multiple; above = omega (arith, u.up.above); is = turned; settled = more }
      where
        turned : (g : ℕ) (j : Job) (js : List Job) → Held m b.jobs g (j ∷ js) →
            walk_from f j js (node_of b g (take b.jobs ps₀)) (seconds (t.0 + b.last.0)) acc' ≡ walk f (j ∷ js) (node_of b g (take b.jobs ps₀)) acc₀
        turned g j js h =
            ap (walk_from f j js (node_of b g (take b.jobs ps₀)) (seconds (t.0 + b.last.0))) (sym (below g j js h))
            ∙ sym (loop_takes f j js (node_of b g (take b.jobs ps₀)) t acc u.ready.from (rw h.jobs.0.longest at on_held))
            ∙ u.up.is g j js h

        more : (g : ℕ) (j : Job) (js : List Job) → Held m b.jobs g (j ∷ js) → SettledTo f j js (node_of b g (take b.jobs ps₀)) (t.0 + b.last.0) acc'
        more g j js h =
            let valid = held_valid js (held_next j js h) in
            let had = u.up.settled g j js h in
            subst (SettledTo f j js (node_of b g (take b.jobs ps₀)) (t.0 + b.last.0)) (below g j js h)
            (settled_more f j js (node_of b g (take b.jobs ps₀)) acc u.ready.from valid t.0 up_later.from u.up.multiple had u.absorbs u.good multiples_lists)

    -- without pages, and at a multiple of an earlier period: nothing here that was not had there
    pub up_pass : Repeats (numbers_at m b.jobs) b.last tries.first t → Up f m b ps₀ acc₀ ps acc (seconds (t.0 + b.last.0))
    up_pass repeats = turn u.up.before below
      where
        q : ℕ
        q = round_up (numbers_at m b.jobs).lo.0 b.last.0

        passed : PassedOver (t.0 / b.last.0) q
        passed = rw (u.told, mul-div_cancel q u.ready.from) at repeats.passed

        below : Below f m b ps₀ t acc acc
        below g j js h =
            let idle : Pageless g j = record { for_need = sym h.jobs.0.for_need ∙ repeats.for_need; for_loss = sym h.jobs.0.for_loss ∙ repeats.for_loss } in
            let valid = held_valid js (held_next j js h) in
            let had = u.up.settled g j js h in
            let over : PassedOver (t.0 / b.last.0) (round_up j.lo.0 b.last.0) = rw h.jobs.0.shortest at passed in
            settled_passes f j js (node_of b g (take b.jobs ps₀)) acc u.ready.from valid t.0 up_later.from u.up.multiple had idle over multiples_lists

    -- a later interval holds no multiple of this period
    pub up_unreached : Unreached m (b.jobs + 1) t → Up f m b ps₀ acc₀ ps acc (seconds (t.0 + b.last.0))
    up_unreached far = turn u.up.before below
      where
        below : Below f m b ps₀ t acc acc
        below g j js h = unreached multiples_lists f acc js (next j (node_of b g (take b.jobs ps₀)) t) up_later.from (held_next j js h) far

    -- with this job the loss is `lost`
    module _ {lost : ℕ} (own : lost ≡ b.lost + loss_held (numbers_at m b.jobs) t) where
      pub up_lost : lost ≤ most_loss * (b.jobs + 1)
      up_lost = omega (arith, own, loss_here opened.job opened.holds, job_loss_bound opened.job t opened.holds.valid, u.ready.bounded.lost_to)

      module _ {low : ℕ} (floor : IsLossFloor m (b.jobs + 1) t low) where
        pub up_floor : lost + low ≤ most_loss * 8
        up_floor =
            let l = up_later in
            let k = loss_floor_bound l.js t.0 (held_valid l.js l.held) in
            omega (arith, k, floor l.greatest l.js l.held, up_lost, l.held.count, l.held.most)

        -- what is had stands against the loss floor: nothing from here on changes it
        pub up_left : Keeps f acc 0 (lost + low) → Walked f m b ps₀ ps acc₀ acc
        up_left keeps = record { before = u.up.before; is = left }
          where
            left : (g : ℕ) (js : List Job) → Held m b.jobs g js → acc ≡ walk f js (node_of b g (take b.jobs ps₀)) acc₀
            left g js h =
                let o = held_open js u.less h in
                let k : Held m b.jobs g (o.job ∷ o.rest) = subst (Held m b.jobs g) o.is h in
                let e = loss_here o.job o.holds in
                let low-is = floor _ o.rest o.later in
                let valid = held_valid o.rest o.later in
                let stays = loop_left f o.job o.rest (node_of b g (take b.jobs ps₀)) t (lost + low) acc valid up_later.from (omega arith) keeps in
                rw o.is (sym stays ∙ u.up.is g o.job o.rest k)

        -- it stands against both floors: nothing below this period changes it
        module _ {written : ℕ} (carries : written ≡ carried b.written b.last t (numbers_at m b.jobs).load) where
          pub up_kept : Keeps f acc (need_at written t + (numbers_at m b.jobs).later.0) (lost + low) → Up f m b ps₀ acc₀ ps acc (seconds (t.0 + b.last.0))
          up_kept keeps = turn u.up.before below
            where
              below : Below f m b ps₀ t acc acc
              below g j js h =
                  let e = loss_here j h.jobs.0 in
                  let low-is = floor _ js (held_next j js h) in
                  let valid = held_valid js (held_next j js h) in
                  let least = need_at written t + (numbers_at m b.jobs).later.0 in
                  let pages : written ≡ carried b.written b.last t (load g j) = carries ∙ ap (λ (x : ℕ). carried b.written b.last t x) h.jobs.0.for_need in
                  let is : least ≡ need_floor (max g j.metadata) (carried b.written b.last t (load g j)) t js = need_floor_is h.jobs.0 t written ∙ ap (λ (x : ℕ). need_floor (max g j.metadata) x t js) pages in
                  walk_cut multiples_lists f acc js (next j (node_of b g (take b.jobs ps₀)) t) valid up_later.from least (lost + low) (omega arith) (omega arith) keeps

      module _ {written : ℕ} (carries : written ≡ carried b.written b.last t (numbers_at m b.jobs).load) where
        pub up_next : Ready m (more_begun b t written lost)
        up_next = rw carries (next_ready u.ready u.less t u.up.multiple u.up.above below_longest up_lost)

        -- what the need floor asks
        pub up_need : NeedFits written t
        up_need = ready_need up_next

        pub up_need_to : need_at written t + (numbers_at m b.jobs).later.0 ≤ most_need
        up_need_to = rw carries (next_floor u.ready u.less t u.up.multiple u.up.above below_longest)

        pub up_turn : {ps' : List Seconds} {acc' : A} → b.jobs < length ps → Walked f m (more_begun b t written lost) (set ps b.jobs t) ps' acc acc' →
            Up f m b ps₀ acc₀ ps' acc' (seconds (t.0 + b.last.0))
        up_turn {ps'} {acc'} place w = turn same below
          where
            same : take b.jobs ps' ≡ take b.jobs ps₀
            same = shorter b.jobs ps' (set ps b.jobs t) (rw (add-one b.jobs) at w.before) ∙ take-set-le b.jobs ps b.jobs t (le_refl b.jobs) ∙ u.up.before

            below : Below f m b ps₀ t acc acc'
            below g j js h =
                let e : lost ≡ b.lost + job_loss j t = own ∙ ap (λ (x : ℕ). b.lost + x) (loss_here j h.jobs.0) in
                let so_far = ap (λ (l : List Seconds). l ++ (t ∷ [])) u.up.before in
                let ts : take (b.jobs + 1) (set ps b.jobs t) ≡ take b.jobs ps₀ ++ (t ∷ []) = periods_more b.jobs t ps place ∙ so_far in
                let after = w.is _ js (held_next j js h) in
                sym (rw (carries, h.jobs.0.for_need, e, ts) at after)
