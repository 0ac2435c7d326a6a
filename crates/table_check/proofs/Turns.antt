-- The turns of the loop over rows and of the loop over a row's periods: what is known before each, and what each way out of it says.
-- Assumes nothing.
use mathlib.Core.Path.{◌≡◌, refl, sym, ◌∙◌, ap, subst}
use mathlib.Core.List.{List}
use mathlib.Core.Logic.{⊎_elim}
use mathlib.Core.Bool.{Bool, true, false, not, true≢false}
use Prim.Native.Nat.{ℕ, zero, suc, ◌+◌, ◌≤◌, ◌<◌}
use native.Mathlib.Nat.{not-suc-le-zero, eq-or-lt_of_le, le_of_suc-le-suc}
use native.Mathlib.Numerals.{add-one}
use native.Mathlib.Omega.{arith}
use Rattle.std.proofs.Common.{Option, Some, None}
use lib.ListN.{get_or}
use lib.Dec.{ltb}
use borrow.Author.Tests.{not-true, not-false, ltb-true, lt-ltb}
use Rattle.model.specs.declared.Seconds.{Seconds}
use Rattle.model.specs.declared.PagesPerHour.{PagesPerHour}
use Rattle.model.specs.declared.Profile.{Profile}
use Rattle.model.specs.Model.{seconds, pages_per_hour, no_job, jobs_of, periods_of, Permitted, need, job_loss, loss}
use Rattle.model.specs.Testing.{allows}
use Rattle.model.specs.Valid.{Valid}
use Rattle.model.proofs.Allowing.{both_true, both_hold, allowed, allowed_back}
use Rattle.step.specs.Step.{load_at, carried, need_at}
use Rattle.step.proofs.Along.{Along, along_starts, along_allows, along_next, along_beyond, along_permitted, along_need, along_lost}
use Rattle.table_row.specs.declared.TableRow.{TableRow}
use Rattle.table_row.specs.declared.Standing.{Standing}
use Rattle.table_row.specs.Table.{rows_in, start_at, periods_at, loss_at}
use Rattle.table_row.specs.Cut.{row_at, follows}
use Rattle.table_check.specs.Formed.{GoodRow}
use Rattle.table_check.specs.Checks.{Checked, all_good, first_bad}

-- where a row of a table stands, and what stands before it
abbrev pub standing_at : Profile → List ℕ → ℕ → Standing
standing_at p bytes k = record { start = start_at bytes k; loss = loss_at p bytes k }

abbrev pub standing_before : Profile → List ℕ → ℕ → Option Standing
standing_before p bytes zero = None
standing_before p bytes (suc k) = Some (standing_at p bytes k)

-- before a turn of the loop over rows: those before the k-th are good, and the last of them is known
pub record RowsLeft (p : Profile) (bytes : List ℕ) (last : Option Standing) (k : ℕ) : Type 0 where
  pub good : (j : ℕ) → j < k → GoodRow p bytes j
  pub last_is : last ≡ standing_before p bytes k

pub first_rows : (p : Profile) (bytes : List ℕ) → RowsLeft p bytes None 0
first_rows p bytes = record { good = λ j h. absurd (not-suc-le-zero h); last_is = refl }

-- what holds below k and at k holds below k + 1
pub below_next : {P : ℕ → Type 0} {k : ℕ} → P k → ((j : ℕ) → j < k → P j) → (j : ℕ) → j < k + 1 → P j
below_next {P} {k} here below j h =
    ⊎_elim (λ (same : j ≡ k). subst P (sym same) here) (λ (less : j < k). below j less) (eq-or-lt_of_le (le_of_suc-le-suc (omega arith)))

-- before a turn of the loop over a row's periods: what the jobs before the i-th place have written and lost is carried along, and
-- the places before it that are beyond the jobs hold zeros
pub record PlacesLeft (p : Profile) (ts : List Seconds) (before : Seconds) (written lost i : ℕ) : Type 0 where
  pub along : Along p ts i before written lost
  pub zeros : (j : ℕ) → p.n ≤ j → j < i → (get_or ts j (seconds 0)).0 ≡ 0

pub first_places : (p : Profile) (ts : List Seconds) → PlacesLeft p ts (seconds 1) 0 0 0
first_places p ts = record { along = along_starts p ts; zeros = λ j past h. absurd (not-suc-le-zero h) }

-- a job's place
module _ {p : Profile} {ts : List Seconds} {before : Seconds} {written lost i : ℕ} (v : Valid p) (l : PlacesLeft p ts before written lost i) (less : i < p.n) where
  pub place_off : allows (get_or p.jobs i no_job) before (get_or ts i (seconds 0)) ≡ false → Permitted (jobs_of p) (periods_of p ts) → ⊥
  place_off e h = true≢false (sym (allowed_back _ before _ (along_allows l.along v less h)) ∙ e)

  pub next_place :
      let j = get_or p.jobs i no_job in
      let t = get_or ts i (seconds 0) in
      allows j before t ≡ true → PlacesLeft p ts t (carried written before t (load_at p i)) (lost + job_loss j t) (i + 1)
  next_place e = record { along = along_next l.along v less (allowed _ before _ e); zeros = λ k past h. absurd (omega arith) }

-- a place beyond the jobs
pub next_zero : {p : Profile} {ts : List Seconds} {before : Seconds} {written lost i : ℕ} → PlacesLeft p ts before written lost i →
    p.n ≤ i → i < 8 → (get_or ts i (seconds 0)).0 ≡ 0 → PlacesLeft p ts before written lost (i + 1)
next_zero {p} {ts} l past less e = record {
  along = along_beyond l.along past less;
  zeros = λ j beyond h. below_next {P = λ (m : ℕ). p.n ≤ m → (get_or ts m (seconds 0)).0 ≡ 0} (λ b. e) (λ m to b. l.zeros m b to) j h beyond;
}

-- what is known of row k once its places are found right
pub record Scanned (p : Profile) (bytes : List ℕ) (k : ℕ) (row : TableRow) (needs : PagesPerHour) (lost : ℕ) : Type 0 where
  pub permitted : Permitted (jobs_of p) (periods_of p (periods_at bytes k))
  pub zeros : (i : ℕ) → p.n ≤ i → i < 8 → (get_or (periods_at bytes k) i (seconds 0)).0 ≡ 0
  pub start_is : row.start ≡ start_at bytes k
  pub need_is : needs ≡ need (jobs_of p) (periods_of p (periods_at bytes k))
  pub loss_is : lost ≡ loss_at p bytes k

pub scanned_row : {p : Profile} {bytes : List ℕ} {k : ℕ} {row : TableRow} {before : Seconds} {written lost i : ℕ} → Valid p →
    row ≡ row_at bytes k → PlacesLeft p row.periods before written lost i → 8 ≤ i →
    Scanned p bytes k row (pages_per_hour (need_at written before)) lost
scanned_row {p} {bytes} {k} {row} {i} v e l all =
    let past : p.n ≤ i = omega (arith, v.n_to) in
    let same = ap (λ (x : TableRow). x.periods) e in
    record {
      permitted = subst (λ (ts : List Seconds). Permitted (jobs_of p) (periods_of p ts)) same (along_permitted l.along past);
      zeros = λ j beyond less. ap (λ (ts : List Seconds). (get_or ts j (seconds 0)).0) (sym same) ∙ l.zeros j beyond (omega arith);
      start_is = ap (λ (x : TableRow). x.start) e;
      need_is = along_need l.along past v ∙ ap (λ (ts : List Seconds). need (jobs_of p) (periods_of p ts)) same;
      loss_is = along_lost l.along past ∙ ap (λ (ts : List Seconds). loss (jobs_of p) (periods_of p ts)) same;
    }

-- the rule of the row before
module _ (p : Profile) (bytes : List ℕ) where
  pub good_follows : (k : ℕ) → GoodRow p bytes k → follows (standing_before p bytes k) (standing_at p bytes k) ≡ true
  unfolding follows
  good_follows zero g = refl
  good_follows (suc k) g = both_hold (lt-ltb _ _ (g.start_rises k (sym (add-one k)))) (lt-ltb _ _ (g.loss_falls k (sym (add-one k))))

  pub follows_good : (k : ℕ) → follows (standing_before p bytes k) (standing_at p bytes k) ≡ true →
      (before : ℕ) → k ≡ before + 1 → ((start_at bytes before).0 < (start_at bytes k).0) × (loss_at p bytes k < loss_at p bytes before)
  unfolding follows
  follows_good zero f before e = absurd (omega arith)
  follows_good (suc k) f before e =
      let same : before ≡ k = omega arith in
      let both = both_true (ltb (start_at bytes k).0 (start_at bytes (suc k)).0) f in
      rw same (ltb-true _ _ both.0, ltb-true _ _ both.1)

-- what the row at hand does to the answer
module _ {p : Profile} {bytes : List ℕ} {last : Option Standing} {k : ℕ} (left : RowsLeft p bytes last k) where
  pub no_more : rows_in bytes ≤ k → Checked p bytes None
  no_more h = all_good (λ j less. left.good j (omega arith))

  module _ (less : k < rows_in bytes) where
    named : (GoodRow p bytes k → ⊥) → Checked p bytes (Some (k + 1))
    named h = first_bad (record { there = less; bad = h; before = left.good })

    module _ {row : TableRow} (e : row ≡ row_at bytes k) where
      pub place_fails : (Permitted (jobs_of p) (periods_of p row.periods) → ⊥) → Checked p bytes (Some (k + 1))
      place_fails f = named (λ g. f (subst (λ (x : TableRow). Permitted (jobs_of p) (periods_of p x.periods)) (sym e) g.permitted))

      pub zero_fails : {i : ℕ} → p.n ≤ i → i < 8 → ((get_or row.periods i (seconds 0)).0 ≡ 0 → ⊥) → Checked p bytes (Some (k + 1))
      zero_fails {i} past to f = named (λ g. f (ap (λ (x : TableRow). (get_or x.periods i (seconds 0)).0) e ∙ g.zeros i past to))

    module _ {row : TableRow} {needs : PagesPerHour} {lost : ℕ} (s : Scanned p bytes k row needs lost) where
      pub start_fails : (needs.0 ≡ row.start.0 → ⊥) → Checked p bytes (Some (k + 1))
      start_fails ne = named (λ g. ne (ap (λ (x : PagesPerHour). x.0) s.need_is ∙ g.start ∙ sym (ap (λ (x : PagesPerHour). x.0) s.start_is)))

      -- the rule of the row before, by the numbers at hand
      at_hand : follows last (record { start = row.start; loss = lost }) ≡ follows (standing_before p bytes k) (standing_at p bytes k)
      at_hand = rw (left.last_is, s.start_is, s.loss_is) refl

      pub order_fails : {t : Bool} → t ≡ follows last (record { start = row.start; loss = lost }) → not t ≡ true → Checked p bytes (Some (k + 1))
      order_fails d f = named (λ g. true≢false (sym (good_follows p bytes k g) ∙ sym at_hand ∙ sym d ∙ not-true _ f))

      pub next_row : {t : Bool} → needs.0 ≡ row.start.0 → t ≡ follows last (record { start = row.start; loss = lost }) → not t ≡ false →
          RowsLeft p bytes (Some (record { start = row.start; loss = lost })) (k + 1)
      next_row e d f =
          let after = follows_good p bytes k (sym at_hand ∙ sym d ∙ not-false _ f) in
          let good : GoodRow p bytes k = record {
            permitted = s.permitted;
            zeros = s.zeros;
            start = sym (ap (λ (x : PagesPerHour). x.0) s.need_is) ∙ e ∙ ap (λ (x : PagesPerHour). x.0) s.start_is;
            start_rises = λ j g. (after j g).0;
            loss_falls = λ j g. (after j g).1;
          } in
          record { good = below_next {P = GoodRow p bytes} good left.good; last_is = rw (add-one k, s.start_is, s.loss_is) refl }
