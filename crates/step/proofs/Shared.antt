-- The law behind every need: at each moment the jobs that run are the first few, so the one commit, as large as the largest of theirs,
-- is what each of them adds to the greatest before it; and a job runs once in each of its periods. So the pages of any number of
-- seconds, counted moment by moment, are the jobs' loads, each as often as its period fits. Assumes nothing.
use mathlib.Core.Path.{◌≡◌, refl, sym, ◌∙◌, ap, ap₂}
use mathlib.Core.List.{List, [], ◌∷◌}
use mathlib.Core.Bool.{Bool, true, false, cond}
use Prim.Native.Nat.{ℕ, zero, suc, ◌+◌, ◌*◌, ◌/◌, ◌%◌, ◌≤◌, ◌<◌, max}
use native.Mathlib.Omega.{arith}
use native.Mathlib.Nat.{zero-add, add-zero, zero-mul, mul-zero, mul-one, mul_comm, mul_assoc, mul-mod_left, add-mod_right, mod_self, mod-lt, zero-div, div-add-mod, div-eq_of_lt-le, div-eq_of_eq-mul_left, div-div-eq-div-mul, mul-div-mul_right}
use lib.ListN.{take}
use lib.Dec.{eqb}
use lib.Arith.{mod-mul}
use borrow.Author.Tests.{ne_eqb, eqb-true, eqb-false}
use Rattle.model.specs.declared.Seconds.{Seconds}
use Rattle.model.specs.declared.PagesPerHour.{PagesPerHour}
use Rattle.model.specs.declared.Job.{Job}
use Rattle.model.specs.Model.{seconds, pages_per_hour, PermittedAfter, Permitted, last_of, running, data_of, commit_of, pages_at, sum_over, pages_in, per_hour, exact_need, need}
use Rattle.model.specs.Rounding.{round_up}
use Rattle.model.specs.Valid.{ValidJobs}
use Rattle.model.proofs.Rounding.{round_up_scaled, multiple_is, multiple_above, factors}
use Rattle.model.proofs.Exact.{remainder_below, exact_need_is, need_as_it_was}
use Rattle.step.specs.Step.{load, loads_in, pages_after, need_after}
use Rattle.step.proofs.Fits.{need_rounded}
use Rattle.step.proofs.Pages.{multiple_trans, last_multiple, last_positive, pages_after_lem}

-- what these jobs add at a second, each with its load
unfoldable loads_at : ℕ → List Job → List Seconds → ℕ → ℕ
loads_at greatest [] ts moment = 0
loads_at greatest (j ∷ js) [] moment = 0
loads_at greatest (j ∷ js) (t ∷ ts) moment = cond (eqb (moment % t.0) 0) (load greatest j) 0 + loads_at (max greatest j.metadata) js ts moment

-- where a job does not run, no later one does: its period would divide theirs
module _ (moment : ℕ) where
  none_runs : (t : Seconds) (js : List Job) (ts : List Seconds) → (moment % t.0 ≡ 0 → ⊥) → PermittedAfter t js ts →
      (running js ts moment ≡ []) × ((greatest : ℕ) → loads_at greatest js ts moment ≡ 0)
  unfolding running loads_at
  none_runs t [] [] off h = (refl, λ g. refl)
  none_runs t [] (u ∷ us) off h = absurd h
  none_runs t (j ∷ js) [] off h = absurd h
  none_runs t (j ∷ js) (u ∷ us) off h =
      let still : moment % u.0 ≡ 0 → ⊥ = λ on. off (multiple_trans t.0 u.0 moment h.0.multiple on) in
      let later = none_runs u js us still h.1 in
      let test = ne_eqb (moment % u.0) 0 still in
      (rw test later.0, λ g. rw test (zero-add _ ∙ later.1 (max g j.metadata)))

  -- At each second the jobs that run are the first few of the order.
  pub first_few_run : (before : Seconds) (js : List Job) (ts : List Seconds) → PermittedAfter before js ts → (k : ℕ) × (running js ts moment ≡ take k js)
  unfolding running
  first_few_run before [] [] h = (0, refl)
  first_few_run before [] (t ∷ ts) h = absurd h
  first_few_run before (j ∷ js) [] h = absurd h
  first_few_run before (j ∷ js) (t ∷ ts) h = go (eqb (moment % t.0) 0) refl (first_few_run t js ts h.1)
    where
      go : (runs : Bool) → eqb (moment % t.0) 0 ≡ runs → (k : ℕ) × (running js ts moment ≡ take k js) → (k : ℕ) × (running (j ∷ js) (t ∷ ts) moment ≡ take k (j ∷ js))
      go true e later = (suc later.0, rw e (ap (λ (ks : List Job). j ∷ ks) later.1))
      go false e later = (0, rw e (none_runs t js ts (eqb-false _ 0 e) h.1).0)

  -- what the drive writes at a moment, over the greatest metadata of jobs before that run too
  moment_by_load : (before : Seconds) (js : List Job) (ts : List Seconds) → PermittedAfter before js ts → (greatest : ℕ) →
      data_of (running js ts moment) + max greatest (commit_of (running js ts moment)) ≡ greatest + loads_at greatest js ts moment
  unfolding running data_of commit_of loads_at load
  moment_by_load before [] [] h g = omega arith
  moment_by_load before [] (t ∷ ts) h g = absurd h
  moment_by_load before (j ∷ js) [] h g = absurd h
  moment_by_load before (j ∷ js) (t ∷ ts) h g = go (eqb (moment % t.0) 0) refl (moment_by_load t js ts h.1 (max g j.metadata))
    where
      rest : List Job
      rest = running js ts moment

      go : (runs : Bool) → eqb (moment % t.0) 0 ≡ runs →
          data_of rest + max (max g j.metadata) (commit_of rest) ≡ max g j.metadata + loads_at (max g j.metadata) js ts moment →
          data_of (running (j ∷ js) (t ∷ ts) moment) + max g (commit_of (running (j ∷ js) (t ∷ ts) moment)) ≡ g + loads_at g (j ∷ js) (t ∷ ts) moment
      go true e later = simp e (omega arith)
      go false e later =
          let none = none_runs t js ts (eqb-false _ 0 e) h.1 in
          simp (e, none.0, none.1 (max g j.metadata)) (omega arith)

-- the multiples of t up to x and up to p more, x and t being multiples of p
module _ (c p t x : ℕ) (pos : 1 ≤ p) (t-pos : 1 ≤ t) (x-multiple : x % p ≡ 0) (t-multiple : t % p ≡ 0) where
  one_later : (x + p) % t ≡ 0 → (x + p) / t ≡ x / t + 1
  one_later e = go ((x + p) / t) refl
    where
      go : (q : ℕ) → (x + p) / t ≡ q → q ≡ x / t + 1
      go zero f = let is = multiple_is (x + p) t e in let none : (x + p) / t * t ≡ 0 * t = ap (λ (y : ℕ). y * t) f in absurd (omega arith)
      go (suc q) f =
          let is = multiple_is (x + p) t e in
          let at : (x + p) / t * t ≡ suc q * t = ap (λ (y : ℕ). y * t) f in
          let short : p ≤ t = multiple_above p t t-pos t-multiple in
          let before : x / t ≡ q = div-eq_of_lt-le t (omega arith) (omega arith) in
          omega arith

  none_later : ((x + p) % t ≡ 0 → ⊥) → (x + p) / t ≡ x / t
  none_later off =
      let q = (x + p) / t in
      let r = (x + p) % t in
      let m = t / p in
      let is : t ≡ m * p = multiple_is t p t-multiple in
      let whole : (x + p) % p ≡ 0 = add-mod_right x p ∙ x-multiple in
      let cut : r ≡ ((x + p) / p % m) * p + (x + p) % p = ap (λ (y : ℕ). (x + p) % y) is ∙ mod-mul (x + p) (factors m p t-pos is).0 pos in
      let far : p ≤ r = multiple_above p r (omega arith) (ap (λ (y : ℕ). y % p) (cut ∙ ap (λ (y : ℕ). ((x + p) / p % m) * p + y) whole ∙ add-zero _) ∙ mul-mod_left _ p) in
      let less : r < t = mod-lt (x + p) t-pos in
      let split = div-add-mod (x + p) t in
      sym (div-eq_of_lt-le t (omega arith) (omega arith))

  run_more : c * ((x + p) / t) ≡ c * (x / t) + cond (eqb ((x + p) % t) 0) c 0
  run_more = go (eqb ((x + p) % t) 0) refl
    where
      go : (runs : Bool) → eqb ((x + p) % t) 0 ≡ runs → c * ((x + p) / t) ≡ c * (x / t) + cond (eqb ((x + p) % t) 0) c 0
      go true e = simp e (let q = ap (λ (y : ℕ). c * y) (one_later (eqb-true _ 0 e)) in omega arith)
      go false e = simp e (let q = ap (λ (y : ℕ). c * y) (none_later (eqb-false _ 0 e)) in omega arith)

-- p divides every period
module _ (p : ℕ) (pos : 1 ≤ p) where
  -- the loads up to one moment more
  loads_more : (x : ℕ) → x % p ≡ 0 → (before : Seconds) → before.0 % p ≡ 0 → (js : List Job) (ts : List Seconds) → ValidJobs js → PermittedAfter before js ts → (greatest : ℕ) →
      loads_in greatest (seconds (x + p)) js ts ≡ loads_in greatest (seconds x) js ts + loads_at greatest js ts (x + p)
  unfolding loads_in loads_at
  loads_more x whole before from [] [] v h g = refl
  loads_more x whole before from [] (t ∷ ts) v h g = absurd h
  loads_more x whole before from (j ∷ js) [] v h g = absurd h
  loads_more x whole before from (j ∷ js) (t ∷ ts) v h g =
      let multiple : t.0 % p ≡ 0 = multiple_trans p before.0 t.0 from h.0.multiple in
      let here = run_more (load g j) p t.0 x pos (omega (arith, h.0.above, v.0.lo_from)) whole multiple in
      let later = loads_more x whole t multiple js ts v.1 h.1 (max g j.metadata) in
      omega arith

  -- the seconds past the last multiple of p add nothing
  loads_whole : (time : ℕ) (before : Seconds) → before.0 % p ≡ 0 → (js : List Job) (ts : List Seconds) → PermittedAfter before js ts → (greatest : ℕ) →
      loads_in greatest (seconds (time / p * p)) js ts ≡ loads_in greatest (seconds time) js ts
  unfolding loads_in
  loads_whole time before from [] [] h g = refl
  loads_whole time before from [] (t ∷ ts) h g = absurd h
  loads_whole time before from (j ∷ js) [] h g = absurd h
  loads_whole time before from (j ∷ js) (t ∷ ts) h g =
      let multiple : t.0 % p ≡ 0 = multiple_trans p before.0 t.0 from h.0.multiple in
      let m = t.0 / p in
      let is : t.0 ≡ m * p = multiple_is t.0 p multiple in
      let here : time / p * p / t.0 ≡ time / t.0 = ap (λ (y : ℕ). time / p * p / y) is ∙ mul-div-mul_right (time / p) m pos ∙ div-div-eq-div-mul time p m ∙ ap (λ (y : ℕ). time / y) (mul_comm p m ∙ sym is) in
      ap₂ (λ (q l : ℕ). load g j * q + l) here (loads_whole time t multiple js ts h.1 (max g j.metadata))

-- in no time nothing
loads_none : (greatest : ℕ) (js : List Job) (ts : List Seconds) → loads_in greatest (seconds 0) js ts ≡ 0
unfolding loads_in
loads_none g [] ts = refl
loads_none g (j ∷ js) [] = refl
loads_none g (j ∷ js) (t ∷ ts) = ap₂ (λ (q l : ℕ). load g j * q + l) (zero-div t.0) (loads_none (max g j.metadata) js ts) ∙ add-zero _ ∙ mul-zero (load g j)

-- moment by moment
module _ (p : Seconds) (pos : 1 ≤ p.0) (js : List Job) (ts : List Seconds) (v : ValidJobs js) (h : PermittedAfter p js ts) where
  summed : (k : ℕ) → sum_over (pages_at js ts) p.0 k ≡ loads_in 0 (seconds (k * p.0)) js ts
  unfolding sum_over pages_at
  summed zero = sym (ap (λ (x : ℕ). loads_in 0 (seconds x) js ts) (zero-mul p.0) ∙ loads_none 0 js ts)
  summed (suc k) =
      let on : suc k * p.0 ≡ k * p.0 + p.0 = omega arith in
      let at = moment_by_load (suc k * p.0) p js ts h 0 in
      let more = loads_more p.0 pos (k * p.0) (mul-mod_left k p.0) p (mod_self p.0) js ts v h 0 in
      let same = ap (λ (x : ℕ). loads_in 0 (seconds x) js ts) on in
      let again = ap (loads_at 0 js ts) on in
      let before = summed k in
      omega arith

  timed : (time : ℕ) → sum_over (pages_at js ts) p.0 (time / p.0) ≡ loads_in 0 (seconds time) js ts
  timed time = summed (time / p.0) ∙ loads_whole p.0 pos time p (mod_self p.0) js ts h 0

-- The pages of any number of seconds are the loads, each as often as its job's period fits.
pub pages_by_load : (js : List Job) (ts : List Seconds) → ValidJobs js → Permitted js ts → (time : Seconds) → pages_in time js ts ≡ loads_in 0 time js ts
unfolding pages_in loads_in
pages_by_load [] [] v h time = refl
pages_by_load [] (t ∷ ts) v h time = absurd h
pages_by_load (j ∷ js) [] v h time = absurd h
pages_by_load (j ∷ js) (t ∷ ts) v h time =
    let a = h.0 in
    let itself : PermittedAfter t (j ∷ js) (t ∷ ts) = (record { above = a.above; below = a.below; multiple = mod_self t.0 }, h.1) in
    timed t (omega (arith, a.above, v.0.lo_from)) (j ∷ js) (t ∷ ts) v itself time.0

-- The moments leave no second out: summed over every second the pages are the same.
pub every_second : (js : List Job) (ts : List Seconds) → ValidJobs js → Permitted js ts → (time : Seconds) → pages_in time js ts ≡ sum_over (pages_at js ts) 1 time.0
every_second js ts v h time = pages_by_load js ts v h time ∙ sym (summed (seconds 1) (omega arith) js ts v h time.0 ∙ ap (λ (x : ℕ). loads_in 0 (seconds x) js ts) (mul-one time.0))

-- in k times Tn, which every period divides, the loads come k times
loads_times : (k greatest : ℕ) (before : Seconds) (js : List Job) (ts : List Seconds) → ValidJobs js → PermittedAfter before js ts →
    loads_in greatest (seconds (k * (last_of before ts).0)) js ts ≡ k * loads_in greatest (last_of before ts) js ts
unfolding loads_in last_of
loads_times k g before [] [] v h = sym (mul-zero k)
loads_times k g before [] (t ∷ ts) v h = absurd h
loads_times k g before (j ∷ js) [] v h = absurd h
loads_times k g before (j ∷ js) (t ∷ ts) v h =
    let last = (last_of t ts).0 in
    let q = last / t.0 in
    let pos : 1 ≤ t.0 = omega (arith, h.0.above, v.0.lo_from) in
    let is : last ≡ q * t.0 = multiple_is last t.0 (last_multiple t js ts h.1) in
    let whole : k * last / t.0 ≡ k * q = div-eq_of_eq-mul_left pos (ap (λ (x : ℕ). k * x) is ∙ sym (mul_assoc k q t.0)) in
    let here : load g j * (k * last / t.0) ≡ load g j * (k * q) = ap (λ (x : ℕ). load g j * x) whole in
    let later = loads_times k (max g j.metadata) t js ts v.1 h.1 in
    omega arith

-- So the need is what is carried from job to job, exactly and rounded up.
module _ (js : List Job) (ts : List Seconds) (v : ValidJobs js) (h : Permitted js ts) where
  pub exact_need_carried : exact_need js ts ≡ per_hour (pages_after 0 0 (seconds 1) js ts) (last_of (seconds 1) ts)
  unfolding exact_need
  exact_need_carried =
      let p = pages_after_lem 0 0 (seconds 1) js ts v (omega arith) h in
      let shared = pages_by_load js ts v h (last_of (seconds 1) ts) in
      let e : pages_in (last_of (seconds 1) ts) js ts ≡ pages_after 0 0 (seconds 1) js ts = omega arith in
      ap (λ (x : ℕ). per_hour x (last_of (seconds 1) ts)) e

  pub need_is : need js ts ≡ pages_per_hour (need_after 0 0 (seconds 1) js ts)
  unfolding need need_after
  need_is = need_rounded _ _ exact_need_carried refl

  -- Its remainder is below Tn.
  pub exact_remainder_below : (exact_need js ts).remainder.0 < (last_of (seconds 1) ts).0
  unfolding exact_need
  exact_remainder_below = remainder_below _ _ (last_positive (seconds 1) js ts v (omega arith) h)

  -- The pages of k cycles, a cycle being Tn seconds, which every period divides, are k times those of one.
  cycles : (k : ℕ) → let last = last_of (seconds 1) ts in pages_in (seconds (k * last.0)) js ts ≡ k * pages_in last js ts
  cycles k =
      let last = last_of (seconds 1) ts in
      pages_by_load js ts v h (seconds (k * last.0)) ∙ loads_times k 0 (seconds 1) js ts v h ∙ ap (λ (x : ℕ). k * x) (sym (pages_by_load js ts v h last))

  -- So the need rounded up is the same over any number of them,
  pub any_cycles : (k : ℕ) → 1 ≤ k → let last = last_of (seconds 1) ts in round_up (3600 * pages_in (seconds (k * last.0)) js ts) (k * last.0) ≡ (need js ts).0
  any_cycles k pos =
      let last = last_of (seconds 1) ts in
      let pages = pages_in last js ts in
      let times = cycles k in
      let all : 3600 * pages_in (seconds (k * last.0)) js ts ≡ 3600 * pages * k = omega arith in
      ap (λ (x : ℕ). round_up x (k * last.0)) all ∙ round_up_scaled (3600 * pages) last.0 k (last_positive (seconds 1) js ts v (omega arith) h) pos ∙ ap (λ (q : PagesPerHour). q.0) (sym (need_as_it_was js ts))

  -- and hours of the need without rounding add up to the pages that are written in them, where whole cycles fill them.
  pub hours_add_up : (hours k : ℕ) → let last = last_of (seconds 1) ts in 3600 * hours ≡ k * last.0 →
      hours * ((exact_need js ts).whole.0 * last.0 + (exact_need js ts).remainder.0) ≡ pages_in (seconds (3600 * hours)) js ts * last.0
  hours_add_up hours k fill =
      let last = last_of (seconds 1) ts in
      let pages = pages_in last js ts in
      let exact = ap (λ (x : ℕ). hours * x) (exact_need_is js ts) in
      let written : pages_in (seconds (3600 * hours)) js ts ≡ k * pages = ap (λ (x : ℕ). pages_in (seconds x) js ts) fill ∙ cycles k in
      let there = ap (λ (x : ℕ). x * last.0) written in
      let here = ap (λ (x : ℕ). pages * x) fill in
      omega arith
