-- A job without pages adds nothing to need and loss: what completes its period t completes a shorter one that divides
-- t, at the same need and loss. So where an update keeps what it has against the completions of the shorter one, the
-- longer one can be passed over.
-- Assumes nothing.
use mathlib.Core.Path.{◌≡◌, sym, ◌∙◌, ap, ap₂, subst}
use mathlib.Core.Logic.{⊎_elim}
use mathlib.Core.List.Memᴰ
use mathlib.Core.List.{List, [], ◌∷◌, ◌++◌, Memᴰ}
use Prim.Native.Nat.{ℕ, suc, ◌+◌, ◌*◌, ◌-◌, ◌/◌, ◌%◌, ◌^◌, ◌≤◌, ◌<◌, max}
use native.Mathlib.Omega.{arith}
use native.Mathlib.Nat.{le_refl, mul-mod_left, mul-mod_right, mod-one, mul_assoc, zero-div}
use native.Mathlib.Nat.{le-div_iff_mul-le, mul-le-mul_left, mul-le-mul_right, mul-lt-mul_of_pos_right, lt_of_mul-lt-mul_right}
use native.Mathlib.Decide.{ℕ_discrete}
use Rattle.model.specs.declared.Seconds.{Seconds}
use Rattle.model.specs.declared.Job.{Job}
use Rattle.model.specs.Model.{seconds, cost, PermittedAfter, last_of, rate, job_loss, loss}
use Rattle.model.specs.Rounding.{round_up}
use Rattle.model.specs.Valid.{ValidJobs}
use Rattle.step.specs.Step.{load, carried, pages_after, need_at, need_after}
use Rattle.walk.specs.Chains.{chains_by}
use Rattle.walk.specs.Walk.{visit, Node, next, walk_by}
use Rattle.walk.specs.Steps.{PassedOver}
use Rattle.model.proofs.Rounding.{round_up_le, round_up_above, round_up_scaled, multiple_is, factors}
use Rattle.walk.specs.Laws.{ListsAllowed, Pageless, Unmoved, Settled, Absorbs}
use Rattle.walk.proofs.Chains.{chains_all}
use Rattle.step.proofs.Fits.{need_at_is}
use Rattle.step.proofs.Pages.{multiple_trans, quotient_trans}
use Rattle.walk.proofs.Walk.{at_plan, walk_visits, walk_kept}

-- a number above 1 repeats 1; one with a factor repeats the other factor
pub one_passes : {a : ℕ} → 1 < a → PassedOver a 1
one_passes {a} h = (1, le_refl 1, h, mod-one a)

pub factor_passes : (a p first : ℕ) → 1 ≤ first → 2 ≤ p → p ≤ a / first → a % p ≡ 0 → PassedOver a first
factor_passes a p first some two within multiple =
    let product : p * first ≤ a = (le-div_iff_mul-le some).0 within in
    let pos : 1 ≤ p = omega arith in
    let turned : first * p ≤ a = omega arith in
    let reached : first ≤ a / p = (le-div_iff_mul-le pos).1 turned in
    let is : a ≡ a / p * p = multiple_is a p multiple in
    let more : a / p * 2 ≤ a / p * p = mul-le-mul_left (a / p) two in
    (a / p, reached, omega arith, ap (λ (x : ℕ). x % (a / p)) is ∙ mul-mod_right (a / p) p)

-- t is a multiple of u, a period
module _ (u t : Seconds) (pos : 1 ≤ u.0) (t-pos : 1 ≤ t.0) (multiple : t.0 % u.0 ≡ 0) where
  -- what is permitted after a period is permitted after what divides it
  pub permitted_after_divisor : (js : List Job) (ts : List Seconds) → PermittedAfter t js ts → PermittedAfter u js ts
  permitted_after_divisor [] [] h = tt
  permitted_after_divisor [] (s ∷ ts) h = absurd h
  permitted_after_divisor (j ∷ js) [] h = absurd h
  permitted_after_divisor (j ∷ js) (s ∷ ts) h =
      (record { above = h.0.above; below = h.0.below; multiple = multiple_trans u.0 t.0 s.0 multiple h.0.multiple }, h.1)

  -- the pages of u seconds, and as many times over in t seconds: one need, however both are completed
  pub need_scaled : (greatest pages : ℕ) (js : List Job) (ts : List Seconds) → PermittedAfter t js ts → need_after greatest (pages * (t.0 / u.0)) t js ts ≡ need_after greatest pages u js ts
  unfolding need_after pages_after last_of
  need_scaled g pages [] [] h =
      let k = t.0 / u.0 in
      let is : t.0 ≡ k * u.0 = multiple_is t.0 u.0 multiple in
      let k-pos : 1 ≤ k = (factors k u.0 t-pos is).0 in
      let e : 3600 * (pages * k) ≡ 3600 * pages * k = omega arith in
      need_at_is (pages * k) t t-pos ∙ ap₂ round_up e is ∙ round_up_scaled (3600 * pages) u.0 k pos k-pos ∙ sym (need_at_is pages u pos)
  need_scaled g pages [] (s ∷ ts) h = absurd h
  need_scaled g pages (j ∷ js) [] h = absurd h
  need_scaled g pages (j ∷ js) (s ∷ ts) h =
      let whole : s.0 / u.0 ≡ t.0 / u.0 * (s.0 / t.0) = quotient_trans u.0 t.0 s.0 pos multiple h.0.multiple in
      let moved : pages * (t.0 / u.0) * (s.0 / t.0) ≡ pages * (s.0 / u.0) = mul_assoc pages (t.0 / u.0) (s.0 / t.0) ∙ ap (λ (x : ℕ). pages * x) (sym whole) in
      ap (λ (x : ℕ). need_at (pages_after (max g j.metadata) (x + load g j) s js ts) (last_of s ts)) moved

-- without pages every period loses the same
pub pageless_loss : (j : Job) (t u : Seconds) → cost j ≡ 0 → job_loss j t ≡ job_loss j u
unfolding job_loss rate
pageless_loss j t u none = ap (λ (x : ℕ). j.stiffness * (3600 * cost j / j.lo.0 - x) ^ 2) (idle t.0 ∙ sym (idle u.0))
  where
    idle : (x : ℕ) → 3600 * cost j / x ≡ 0
    idle x = ap (λ (c : ℕ). 3600 * c / x) none ∙ zero-div x

-- u and t are multiples of the period before, and t of u: a job without pages at u takes every completion that it has
-- at t
module _ {order : Seconds → Job → List Seconds} (law : ListsAllowed order) {A : Type 0} (f : ℕ → ℕ → List Seconds → A → A) (s : A) (j : Job) (js : List Job) (n : Node) (u t : Seconds) where
  pub passed_over : ValidJobs js → Pageless n.greatest j → 1 ≤ n.before.0 → 1 ≤ u.0 → 1 ≤ t.0 → u.0 % n.before.0 ≡ 0 → t.0 % u.0 ≡ 0 → Settled f js (next j n u) s → walk_by order f js (next j n t) s ≡ s
  unfolding at_plan
  passed_over v none pos u-pos t-pos u-multiple t-multiple settled = walk_kept law f s js (next j n t) v t-pos stands
    where
      g : ℕ
      g = max n.greatest j.metadata

      own : ℕ
      own = load n.greatest j

      need_same : (ts : List Seconds) → PermittedAfter t js ts →
          need_after g (carried n.pages n.before t own) t js ts ≡ need_after g (carried n.pages n.before u own) u js ts
      need_same ts h =
          let p = n.before.0 in
          let idle = none.for_need in
          let whole : t.0 / p ≡ u.0 / p * (t.0 / u.0) = quotient_trans p u.0 t.0 pos u-multiple t-multiple in
          let moved : n.pages * (u.0 / p) * (t.0 / u.0) ≡ n.pages * (t.0 / p) = mul_assoc n.pages (u.0 / p) (t.0 / u.0) ∙ ap (λ (x : ℕ). n.pages * x) (sym whole) in
          let at-t : n.pages * (t.0 / p) + own ≡ n.pages * (u.0 / p) * (t.0 / u.0) = omega arith in
          let at-u : n.pages * (u.0 / p) ≡ n.pages * (u.0 / p) + own = omega arith in
          ap (λ (x : ℕ). need_after g x t js ts) at-t ∙ need_scaled u t u-pos t-pos t-multiple g (n.pages * (u.0 / p)) js ts h ∙ ap (λ (x : ℕ). need_after g x u js ts) at-u

      stands : (ts : List Seconds) → PermittedAfter t js ts → at_plan f js (next j n t) ts s ≡ s
      stands ts h =
          ap₂ (λ (q l : ℕ). f q (n.lost + l + loss js ts) ((n.periods ++ (t ∷ [])) ++ ts) s) (need_same ts h) (pageless_loss j t u none.for_loss)
          ∙ settled ts (permitted_after_divisor u t u-pos t-pos t-multiple js ts h) ((n.periods ++ (t ∷ [])) ++ ts)

module _ {A : Type 0} {Good : A → Type 0} {f : ℕ → ℕ → List Seconds → A → A} (a : Absorbs Good f) where
  -- through a visit of plans, what is unmoved stays so, and each plan is settled
  visit_stays : (js : List Job) (n : Node) (s : A) (tss : List (List Seconds)) → Good s → {q l : ℕ} → Unmoved f s q l → Unmoved f (visit (at_plan f js n) s tss) q l
  unfolding visit at_plan
  visit_stays js n s [] g h = h
  visit_stays js n s (ts ∷ tss) g h = visit_stays js n (at_plan f js n ts s) tss (a.good _ _ (n.periods ++ ts) s g) (a.stays _ _ _ _ (n.periods ++ ts) s g h)

  visit_settles : (js : List Job) (n : Node) (s : A) (tss : List (List Seconds)) → Good s → (ts : List Seconds) → Memᴰ ts tss →
      Unmoved f (visit (at_plan f js n) s tss) (need_after n.greatest n.pages n.before js ts) (n.lost + loss js ts)
  unfolding visit at_plan
  visit_settles js n s [] g ts m = absurd (Memᴰ.not-nil m)
  visit_settles js n s (us ∷ tss) g ts m = ⊎_elim here (λ k. visit_settles js n (at_plan f js n us s) tss next_good ts k) (Memᴰ.cases_cons m)
    where
      next_good : Good (at_plan f js n us s)
      next_good = a.good (need_after n.greatest n.pages n.before js us) (n.lost + loss js us) (n.periods ++ us) s g

      at : Unmoved f (at_plan f js n us s) (need_after n.greatest n.pages n.before js us) (n.lost + loss js us)
      at = a.after (need_after n.greatest n.pages n.before js us) (n.lost + loss js us) (n.periods ++ us) s g

      here : ts ≡ us → Unmoved f (visit (at_plan f js n) (at_plan f js n us s) tss) (need_after n.greatest n.pages n.before js ts) (n.lost + loss js ts)
      here e = rw e (visit_stays js n (at_plan f js n us s) tss next_good at)

  module _ {order : Seconds → Job → List Seconds} (law : ListsAllowed order) (js : List Job) (n : Node) (s : A) (g : Good s) where
    -- what is unmoved stays so through a walk
    pub walk_stays : {q l : ℕ} → Unmoved f s q l → Unmoved f (walk_by order f js n s) q l
    walk_stays {q} {l} h = subst (λ (r : A). Unmoved f r q l) (sym (walk_visits order f js n s)) (visit_stays js n s (chains_by order n.before js) g h)

    -- a walk settles its node
    pub walk_settles : ValidJobs js → 1 ≤ n.before.0 → Settled f js n (walk_by order f js n s)
    walk_settles v pos ts h =
        subst (λ (r : A). Unmoved f r (need_after n.greatest n.pages n.before js ts) (n.lost + loss js ts)) (sym (walk_visits order f js n s))
        (visit_settles js n s (chains_by order n.before js) g ts (chains_all law js ts v pos h))

-- Before the turn of t in the loop over a job's multiples: each one before t is settled.
abbrev pub SettledTo : {A : Type 0} → (ℕ → ℕ → List Seconds → A → A) → Job → List Job → Node → ℕ → A → Type 0
SettledTo f j js n t s = (u : ℕ) → u % n.before.0 ≡ 0 → j.lo.0 ≤ u → u < t → Settled f js (next j n (seconds u)) s

module _ {A : Type 0} (f : ℕ → ℕ → List Seconds → A → A) (j : Job) (js : List Job) (n : Node) (s : A) (pos : 1 ≤ n.before.0) where
  -- the first multiple has none before it
  pub settled_first : SettledTo f j js n (round_up j.lo.0 n.before.0 * n.before.0) s
  settled_first u multiple above less =
      let p = n.before.0 in
      let is : u ≡ u / p * p = multiple_is u p multiple in
      let q : round_up j.lo.0 p ≤ u / p = (round_up_le j.lo.0 (u / p) pos).1 (rw (← is) above) in
      let m : round_up j.lo.0 p * p ≤ u / p * p = mul-le-mul_right p q in
      absurd (omega arith)

  module _ (v : ValidJobs js) (t : ℕ) (t-pos : 1 ≤ t) (multiple : t % n.before.0 ≡ 0) (to : SettledTo f j js n t s) where
    -- the walk below t settles t too
    pub settled_more : {Good : A → Type 0} → Absorbs Good f → Good s → {order : Seconds → Job → List Seconds} → ListsAllowed order → SettledTo f j js n (t + n.before.0) (walk_by order f js (next j n (seconds t)) s)
    settled_more a g {order} law u u-multiple above less = which (ℕ_discrete u t)
      where
        here : u ≡ t → Settled f js (next j n (seconds u)) (walk_by order f js (next j n (seconds t)) s)
        here e = rw e (walk_settles a law js (next j n (seconds t)) s g v t-pos)

        earlier : (u ≡ t → ⊥) → Settled f js (next j n (seconds u)) (walk_by order f js (next j n (seconds t)) s)
        earlier other ts h =
            let p = n.before.0 in
            let u-is : u ≡ u / p * p = multiple_is u p u-multiple in
            let t-is : t ≡ t / p * p = multiple_is t p multiple in
            let k : u / p < suc (t / p) = lt_of_mul-lt-mul_right p (omega arith) in
            let m : u / p * p ≤ t / p * p = mul-le-mul_right p (omega arith) in
            walk_stays a law js (next j n (seconds t)) s g (to u u-multiple above (omega arith) ts h)

        which : Dec (u ≡ t) → Settled f js (next j n (seconds u)) (walk_by order f js (next j n (seconds t)) s)
        which (yes e) = here e
        which (no other) = earlier other

    -- a multiplier that repeats an earlier one, for a job without pages
    pub settled_passes : Pageless n.greatest j → PassedOver (t / n.before.0) (round_up j.lo.0 n.before.0) → {order : Seconds → Job → List Seconds} → ListsAllowed order → walk_by order f js (next j n (seconds t)) s ≡ s
    settled_passes none r law =
        let p = n.before.0 in
        let a = t / p in
        let d = r.0 in
        let t-is : t ≡ a * p = multiple_is t p multiple in
        let a-is : a ≡ a / d * d = multiple_is a d r.3 in
        let above : j.lo.0 ≤ round_up j.lo.0 p * p = round_up_above j.lo.0 pos in
        let more : round_up j.lo.0 p * p ≤ d * p = mul-le-mul_right p r.1 in
        let less : d * p < a * p = mul-lt-mul_of_pos_right r.2 pos in
        let apart : a * p ≡ a / d * d * p = ap (λ (x : ℕ). x * p) a-is in
        let over : t ≡ a / d * (d * p) = omega arith in
        let u-pos : 1 ≤ d * p = (factors (a / d) (d * p) t-pos over).1 in
        let u-multiple : d * p % p ≡ 0 = mul-mod_left d p in
        let t-multiple : t % (d * p) ≡ 0 = ap (λ (x : ℕ). x % (d * p)) over ∙ mul-mod_left (a / d) (d * p) in
        passed_over law f s j js n (seconds (d * p)) (seconds t) v none pos u-pos t-pos u-multiple t-multiple (to (d * p) u-multiple (omega arith) (omega arith))
