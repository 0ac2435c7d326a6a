-- Going through all permitted lists in order, every list so far that fits and loses less than the bound is served by a row: a row
-- leaves only for a plan that serves all that it served, or with the bound set to its loss.
-- Assumes nothing.
use mathlib.Core.Path.{◌≡◌, refl, sym, ◌∙◌, subst}
use mathlib.Core.Logic.{⊎_elim}
use mathlib.Core.List.Memᴰ
use mathlib.Core.List.{List, [], ◌∷◌, Memᴰ}
use mathlib.Core.Bool.{false, false≢true}
use Prim.Native.Nat.{ℕ, ◌≤◌, ◌<◌}
use native.Mathlib.Omega.{arith}
use native.Mathlib.Nat.{le_refl, le_trans}
use Rattle.model.specs.declared.Seconds.{Seconds}
use Rattle.model.specs.declared.Job.{Job}
use Rattle.model.specs.Model.{seconds, Permitted, need, loss, NotAfter}
use Rattle.model.specs.Valid.{ValidJobs}
use Rattle.walk.specs.Chains.{chains}
use Rattle.walk.specs.Walk.{visit, start, walk}
use Rattle.table_stairs.specs.Stairs.{Stair, stair, Stairs, no_stairs, covered, Covering, among, enter}
use Rattle.walk.specs.Laws.{Sorted}
use Rattle.walk.proofs.Sorted.{not_after_self}
use Rattle.walk.proofs.Chains.{multiples_lists, chains_only, chains_all, chains_sorted}
use Rattle.walk.proofs.Walk.{walk_all}
use Rattle.table_stairs.specs.Ordered.{Ordered}
use Rattle.table_climb.specs.Collected.{Plan, Law, Served, Serves, Collected}
use Rattle.table_stairs.proofs.Updates.{covers}
use Rattle.table_stairs.proofs.Order.{among_new, among_some, among_in, among_has}
use Rattle.table_stairs.proofs.Ordered.{entered, Limited, Entry, enter_either}

-- by the same row, among others
pub still_served : {js : List Job} {rows : List Stair} (others : List Stair) {us : List Seconds} (a : Served js rows us) → Memᴰ a.by.row others → Served js others us
still_served others a m = record { by = record { row = a.by.row; stands = m; needs = a.by.needs; loses = a.by.loses }; first = a.first }

-- From `had` to `after`, with the lists xs to come: what was served still is.
record Change (js : List Job) (b : ℕ) (xs : List (List Seconds)) (had after : Stairs) : Type 0 where
  law : Law js b xs after
  serves : (us : List Seconds) → Serves js b had us → Serves js b after us

-- the limit on the number of rows
limits : {js : List Job} {b : ℕ} {xs : List (List Seconds)} {s after : Stairs} → Law js b xs s → Limited s after → Change js b xs s after
limits {js} {b} {xs} {s} {after} law few = record {
  law = record {
    ordered = few.ordered;
    plans = λ r n. law.plans r (few.stood r n);
    not_after = λ r n. law.not_after r (few.stood r n);
    unbound = λ e. (few.none e).1 ∙ law.unbound (few.none e).0;
  };
  serves = serves;
}
  where
    serves : (us : List Seconds) → Serves js b s us → (need js us).0 ≤ b → loss js us < after.bound → Served js after.rows us
    serves us h fits less =
        let a = h fits (omega (arith, few.lower)) in
        still_served after.rows a (few.stands a.by.row a.by.stands (omega (arith, a.by.loses)))

-- From `had` to `after` by the list x: that is served too.
record Step (js : List Job) (b : ℕ) (x : List Seconds) (xs : List (List Seconds)) (had after : Stairs) : Type 0 where
  change : Change js b xs had after
  here : Serves js b after x

-- The update, at a list with its own need and loss.
abbrev entering : List Job → ℕ → ℕ → List Seconds → Stairs → Stairs
entering js most b ts = enter most b (need js ts).0 (loss js ts) ts

module _ (js : List Job) (b : ℕ) (x : List Seconds) (xs : List (List Seconds)) (s : Stairs) (law : Law js b (x ∷ xs) s) where
  -- the same rows
  kept : Serves js b s x → Step js b x xs s s
  kept h = record {
    change = record {
      law = record { ordered = law.ordered; plans = law.plans; not_after = λ r m us n. law.not_after r m us (Memᴰ.tail n); unbound = law.unbound };
      serves = λ us k. k;
    };
    here = h;
  }

  module _ (permitted : Permitted js x) (later : (y : List Seconds) → Memᴰ y xs → NotAfter x y) where
    -- x among them
    taken : (need js x).0 ≤ b → covered (need js x).0 (loss js x) s.rows ≡ false → Ordered (entered (need js x).0 (loss js x) x s) → Step js b x xs s (entered (need js x).0 (loss js x) x s)
    taken fits new ordered = record {
      change = record {
        law = record {
          ordered = ordered;
          plans = each (Plan js b) (record { need_is = refl; loss_is = refl; permitted = permitted; fits = fits }) law.plans;
          not_after = each (λ r. (us : List Seconds) → Memᴰ us xs → NotAfter r.periods us) later (λ r m us n. law.not_after r m us (Memᴰ.tail n));
          unbound = λ e. absurd (omega (arith, among_some q l x s.rows law.ordered.order));
        };
        serves = λ us h fit low. serves us (h fit low);
      };
      here = λ fit low. by_x x (le_refl q) (le_refl l) (λ e d. not_after_self x);
    }
      where
        q : ℕ
        q = (need js x).0

        l : ℕ
        l = loss js x

        -- what holds of x and of the rows that there were
        each : (P : Stair → Type 0) → P (stair q l x) → ((r : Stair) → Memᴰ r s.rows → P r) → (r : Stair) → Memᴰ r (among q l x s.rows) → P r
        each P at_x at_rows r m = ⊎_elim (λ e. subst P (sym e) at_x) (at_rows r) (among_in q l x s.rows law.ordered.order m)

        by_x : (us : List Seconds) → q ≤ (need js us).0 → l ≤ loss js us → (q ≡ (need js us).0 → l ≡ loss js us → NotAfter x us) → Served js (among q l x s.rows) us
        by_x us needs loses first = record { by = record { row = stair q l x; stands = among_new q l x s.rows law.ordered.order; needs = needs; loses = loses }; first = first }

        -- a row that leaves has no less need and no less loss than x, and not both the same: it would have covered x
        serves : (us : List Seconds) → Served js s.rows us → Served js (among q l x s.rows) us
        serves us a = ⊎_elim (still_served (among q l x s.rows) a) leaves (among_has q l x s.rows law.ordered.order a.by.stands)
          where
            r : Stair
            r = a.by.row

            leaves : (l ≤ r.its_loss) × (q ≤ r.its_need) → Served js (among q l x s.rows) us
            leaves h = by_x us (le_trans h.1 a.by.needs) (le_trans h.0 a.by.loses) (λ e d. absurd (clash e d))
              where
                clash : q ≡ (need js us).0 → l ≡ loss js us → ⊥
                clash e d = false≢true (sym new ∙ covers q l s.rows a.by.stands (omega (arith, a.by.needs)) (omega (arith, a.by.loses)))

    step : (most : ℕ) → 1 ≤ most → Step js b x xs s (entering js most b x s)
    step most pos = enter_either most pos b q l x s law.ordered (Step js b x xs s) takes (λ h. kept (λ fit low. by_row (h fit low)))
      where
        q : ℕ
        q = (need js x).0

        l : ℕ
        l = loss js x

        by_row : Covering q l s.rows → Served js s.rows x
        by_row c = record { by = c; first = λ e d. law.not_after c.row c.stands x (Memᴰ.head refl) }

        takes : (after : Stairs) → Entry b q l x s after → Step js b x xs s after
        takes after e =
            let one = taken e.fits e.new e.ordered in
            let few = limits one.change.law e.limited in
            record {
              change = record { law = few.law; serves = λ us h. few.serves us (one.change.serves us h) };
              here = few.serves x one.here;
            }

-- From `had` to `after` by all the lists xs.
record Passed (js : List Job) (b : ℕ) (xs : List (List Seconds)) (had after : Stairs) : Type 0 where
  law : Law js b [] after
  serves : (us : List Seconds) → Memᴰ us xs → Serves js b after us
  serves_more : (us : List Seconds) → Serves js b had us → Serves js b after us

module _ (js : List Job) (most b : ℕ) (pos : 1 ≤ most) where
  fold_passes : (xs : List (List Seconds)) (s : Stairs) → Sorted xs → ((x : List Seconds) → Memᴰ x xs → Permitted js x) → Law js b xs s → Passed js b xs s (visit (entering js most b) s xs)
  unfolding visit
  fold_passes [] s sorted h law = record { law = law; serves = λ us m. absurd (Memᴰ.not-nil m); serves_more = λ us k. k }
  fold_passes (x ∷ xs) s sorted h law =
      let one = step js b x xs s law (h x (Memᴰ.head refl)) (λ y m. (sorted.0 y m).not_after) most pos in
      let all = fold_passes xs (entering js most b x s) sorted.1 (λ y m. h y (Memᴰ.tail m)) one.change.law in
      let after = visit (entering js most b) (entering js most b x s) xs in
      record {
        law = all.law;
        serves = λ us m. ⊎_elim (λ e. subst (Serves js b after) (sym e) (all.serves_more x one.here)) (all.serves us) (Memᴰ.cases_cons m);
        serves_more = λ us k. all.serves_more us (one.change.serves us k);
      }

-- the walk that collects
pub walk_collects : (js : List Job) (most b : ℕ) → ValidJobs js → 1 ≤ most → Collected js b (walk (enter most b) js start no_stairs)
walk_collects js most b v pos = rw (walk_all multiples_lists (enter most b) no_stairs js v) (record { law = all.law; serves = λ us h. all.serves us (chains_all multiples_lists js us v (le_refl 1) h) })
  where
    none_yet : Law js b (chains (seconds 1) js) no_stairs
    none_yet = record {
      ordered = record { order = tt; bounded = λ r m. absurd (Memᴰ.not-nil m) };
      plans = λ r m. absurd (Memᴰ.not-nil m);
      not_after = λ r m. absurd (Memᴰ.not-nil m);
      unbound = λ e. refl;
    }

    all : Passed js b (chains (seconds 1) js) no_stairs (visit (entering js most b) no_stairs (chains (seconds 1) js))
    all = fold_passes js most b pos (chains (seconds 1) js) no_stairs (chains_sorted (seconds 1) js) (λ x m. chains_only multiples_lists js x v (le_refl 1) m) none_yet
