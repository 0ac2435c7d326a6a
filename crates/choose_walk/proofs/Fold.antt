-- Going through all permitted lists in order, what is had is no worse than all that went before; at the end it is the
-- best.
-- Assumes nothing.
use mathlib.Core.Path.{◌≡◌, refl, sym, ◌∙◌, subst}
use mathlib.Core.Logic.{⊎_elim}
use mathlib.Core.List.Memᴰ
use mathlib.Core.List.{List, [], ◌∷◌, Memᴰ}
use Prim.Native.Nat.{ℕ, ◌≤◌, ◌<◌}
use native.Mathlib.Omega.{arith}
use native.Mathlib.Decide.{dec_le, dec_lt, ℕ_discrete}
use native.Mathlib.Nat.{le_refl}
use Rattle.model.specs.declared.Seconds.{Seconds}
use Rattle.model.specs.declared.PagesPerHour.{PagesPerHour}
use Rattle.model.specs.declared.Job.{Job}
use Rattle.model.specs.Model.{seconds, Permitted, need, loss, NotAfter, NoWorse}
use Rattle.model.specs.Valid.{ValidJobs}
use Rattle.walk.specs.Chains.{chains}
use Rattle.walk.specs.Walk.{visit, start, walk}
use Rattle.choose_offer.specs.Found.{Found, nothing, found, pick}
use Rattle.choose_walk.specs.Best.{BestOrNone}
use Rattle.walk.specs.Laws.{Sorted}
use Rattle.walk.proofs.Sorted.{not_after_self}
use Rattle.walk.proofs.Chains.{multiples_lists, chains_only, chains_all, chains_sorted}
use Rattle.walk.proofs.Walk.{walk_all}
use Rattle.choose_offer.proofs.Updates.{pick_over, pick_first, pick_less_loss, pick_less_need, pick_more_loss, pick_no_less}

module _ (js : List Job) where
  no_worse_self : (ts : List Seconds) → NoWorse js ts ts
  no_worse_self ts = record { loss_first = le_refl _; need_next = λ e. le_refl _; list_last = λ e d. not_after_self ts }

  -- strictly better than a list that is no worse than another
  less_loss_first : (ts us ws : List Seconds) → loss js ts < loss js us → NoWorse js us ws → NoWorse js ts ws
  less_loss_first ts us ws h k = record { loss_first = omega arith; need_next = λ e. absurd (omega arith); list_last = λ e d. absurd (omega arith) }

  less_need_first : (ts us ws : List Seconds) → loss js ts ≡ loss js us → (need js ts).0 < (need js us).0 → NoWorse js us ws → NoWorse js ts ws
  less_need_first ts us ws e h k = record {
    loss_first = omega arith;
    need_next = λ d. (let n = k.need_next (sym e ∙ d) in omega arith);
    list_last = λ d q. (let n = k.need_next (sym e ∙ d) in absurd (omega arith));
  }

-- What is had is a plan that fits, with its own need and loss, and comes after none of the lists to come.
pub record Stands (js : List Job) (b q l : ℕ) (ts : List Seconds) (rest : List (List Seconds)) : Type 0 where
  pub its_need : q ≡ (need js ts).0
  pub its_loss : l ≡ loss js ts
  pub permitted : Permitted js ts
  pub fits : (need js ts).0 ≤ b
  pub in_order : (us : List Seconds) → Memᴰ us rest → NotAfter ts us

abbrev pub Standing : List Job → ℕ → Found → List (List Seconds) → Type 0
Standing js b nothing rest = Unit {0}
Standing js b (found q l ts) rest = Stands js b q l ts rest

-- What is had is no worse than this list, if the list fits.
abbrev pub Covers : List Job → ℕ → Found → List Seconds → Type 0
Covers js b nothing us = (need js us).0 ≤ b → ⊥
Covers js b (found q l ts) us = (need js us).0 ≤ b → NoWorse js ts us

-- From `had` to `after` by the list x, with the lists xs to come.
record Step (js : List Job) (b : ℕ) (x : List Seconds) (xs : List (List Seconds)) (had after : Found) : Type 0 where
  standing : Standing js b after xs
  covers_here : Covers js b after x
  covers_more : (us : List Seconds) → Covers js b had us → Covers js b after us

-- From `had` to `after` by all the lists xs.
pub record Passed (js : List Job) (b : ℕ) (xs : List (List Seconds)) (had after : Found) : Type 0 where
  pub standing : Standing js b after []
  pub covers : (us : List Seconds) → Memᴰ us xs → Covers js b after us
  pub covers_more : (us : List Seconds) → Covers js b had us → Covers js b after us

-- The update, at a list with its own need and loss.
abbrev pub choosing : List Job → ℕ → List Seconds → Found → Found
choosing js b ts = pick b (need js ts).0 (loss js ts) ts

module _ (js : List Job) (b : ℕ) (x : List Seconds) (xs : List (List Seconds)) (here : Permitted js x) (later : (y : List Seconds) → Memᴰ y xs → NotAfter x y) where
  taken : (had : Found) → (need js x).0 ≤ b → ((us : List Seconds) → Covers js b had us → (need js us).0 ≤ b → NoWorse js x us) → Step js b x xs had (found (need js x).0 (loss js x) x)
  taken had fits better = record {
    standing = record { its_need = refl; its_loss = refl; permitted = here; fits = fits; in_order = later };
    covers_here = λ f. no_worse_self js x;
    covers_more = better;
  }

  step_nothing : Dec ((need js x).0 ≤ b) → Step js b x xs nothing (choosing js b x nothing)
  step_nothing (yes fits) = rw (pick_first b (need js x).0 (loss js x) x fits) (taken nothing fits (λ us none-fits f. absurd (none-fits f)))
  step_nothing (no over) = rw (pick_over b (need js x).0 (loss js x) x nothing (omega arith)) (record { standing = tt; covers_here = over; covers_more = λ us k. k })

  module _ (q l : ℕ) (ts : List Seconds) (s : Stands js b q l ts (x ∷ xs)) where
    kept : Covers js b (found q l ts) x → Step js b x xs (found q l ts) (found q l ts)
    kept k = record {
      standing = record { its_need = s.its_need; its_loss = s.its_loss; permitted = s.permitted; fits = s.fits; in_order = λ us m. s.in_order us (Memᴰ.tail m) };
      covers_here = k;
      covers_more = λ us c. c;
    }

    step_fitting : (need js x).0 ≤ b → Dec (loss js x < l) → Dec (loss js x ≡ l) → Dec ((need js x).0 < q) → Step js b x xs (found q l ts) (choosing js b x (found q l ts))
    step_fitting fits (yes less) same leaner =
        rw (pick_less_loss b (need js x).0 (loss js x) x q l ts fits less) (taken (found q l ts) fits (λ us c f. less_loss_first js x ts us (omega arith) (c f)))
    step_fitting fits (no nless) (yes same) (yes leaner) =
        rw (pick_less_need b (need js x).0 (loss js x) x q l ts fits same leaner) (taken (found q l ts) fits (λ us c f. less_need_first js x ts us (omega arith) (omega arith) (c f)))
    step_fitting fits (no nless) (yes same) (no nleaner) =
        rw (pick_no_less b (need js x).0 (loss js x) x q l ts (omega arith) (omega arith)) (kept no_worse)
      where
        no_worse : Covers js b (found q l ts) x
        no_worse f = record { loss_first = omega arith; need_next = λ e. omega arith; list_last = λ e d. s.in_order x (Memᴰ.head refl) }
    step_fitting fits (no nless) (no differ) leaner =
        rw (pick_more_loss b (need js x).0 (loss js x) x q l ts (omega arith)) (kept no_worse)
      where
        no_worse : Covers js b (found q l ts) x
        no_worse f = record { loss_first = omega arith; need_next = λ e. absurd (omega arith); list_last = λ e d. absurd (omega arith) }

    step_found : Dec ((need js x).0 ≤ b) → Step js b x xs (found q l ts) (choosing js b x (found q l ts))
    step_found (yes fits) = step_fitting fits (dec_lt (loss js x) l) (ℕ_discrete (loss js x) l) (dec_lt (need js x).0 q)
    step_found (no over) = rw (pick_over b (need js x).0 (loss js x) x (found q l ts) (omega arith)) (kept (λ f. absurd (over f)))

  step : (had : Found) → Standing js b had (x ∷ xs) → Step js b x xs had (choosing js b x had)
  step nothing s = step_nothing (dec_le (need js x).0 b)
  step (found q l ts) s = step_found q l ts s (dec_le (need js x).0 b)

module _ (js : List Job) (b : ℕ) where
  pub fold_passes : (xs : List (List Seconds)) (had : Found) → Sorted xs → ((x : List Seconds) → Memᴰ x xs → Permitted js x) → Standing js b had xs →
      Passed js b xs had (visit (choosing js b) had xs)
  unfolding visit
  fold_passes [] had sorted h s = record { standing = s; covers = λ us m. absurd (Memᴰ.not-nil m); covers_more = λ us k. k }
  fold_passes (x ∷ xs) had sorted h s =
      let one = step js b x xs (h x (Memᴰ.head refl)) (λ y m. (sorted.0 y m).not_after) had s in
      let after = visit (choosing js b) (choosing js b x had) xs in
      let all = fold_passes xs (choosing js b x had) sorted.1 (λ y m. h y (Memᴰ.tail m)) one.standing in
      record {
        standing = all.standing;
        covers = λ us m. ⊎_elim (here after (all.covers_more x one.covers_here) us) (all.covers us) (Memᴰ.cases_cons m);
        covers_more = λ us k. all.covers_more us (one.covers_more us k);
      }
    where
      here : (after : Found) → Covers js b after x → (us : List Seconds) → us ≡ x → Covers js b after us
      here after c us e = subst (Covers js b after) (sym e) c

best_or_none : (js : List Job) (b : PagesPerHour) → ValidJobs js → (after : Found) → Passed js b.0 (chains (seconds 1) js) nothing after → BestOrNone js b after
best_or_none js b v nothing p = λ ts h fits. p.covers ts (chains_all multiples_lists js ts v (le_refl 1) h) fits
best_or_none js b v (found q l ts) p = record {
  its_need = p.standing.its_need;
  its_loss = p.standing.its_loss;
  best = record {
    permitted = p.standing.permitted;
    fits = p.standing.fits;
    first = λ us h fits. p.covers us (chains_all multiples_lists js us v (le_refl 1) h) fits;
  };
}

pub fold_best : (js : List Job) (b : PagesPerHour) → ValidJobs js → BestOrNone js b (visit (choosing js b.0) nothing (chains (seconds 1) js))
fold_best js b v =
    let all = chains (seconds 1) js in
    let permitted : (x : List Seconds) → Memᴰ x all → Permitted js x = λ x m. chains_only multiples_lists js x v (le_refl 1) m in
    best_or_none js b v (visit (choosing js b.0) nothing all) (fold_passes js b.0 all nothing (chains_sorted (seconds 1) js) permitted tt)

-- the walk that chooses
pub walk_best : (js : List Job) (b : PagesPerHour) → ValidJobs js → BestOrNone js b (walk (pick b.0) js start nothing)
walk_best js b v = rw (walk_all multiples_lists (pick b.0) nothing js v) (fold_best js b v)
