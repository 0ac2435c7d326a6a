-- Periods put one by one: each takes at most a space and four digits. Assumes nothing.
use mathlib.Core.Path.{◌≡◌, refl, sym, ◌∙◌, ap}
use mathlib.Core.List.{List, [], ◌∷◌, ◌++◌, append_assoc, append-nil}
use Prim.Native.Nat.{ℕ, ◌+◌, ◌*◌, ◌≤◌, ◌<◌}
use native.Mathlib.Nat.{zero-add, add-zero}
use native.Mathlib.Numerals.{add-one}
use native.Mathlib.Omega.{arith}
use lib.ListN.{length, get_or, take, length-take}
use lib.Seq.{get_or-take}
use Rattle.model.specs.declared.Seconds.{Seconds}
use Rattle.model.specs.Model.{seconds, entries}
use Rattle.model.proofs.Entries.{entries_snoc}
use Rattle.ladder_line.specs.Lines.{spaced, spaced_periods}
use Rattle.ladder_line.specs.Writing.{Puts, Printable}
use Rattle.ladder_line.proofs.Decimals.{spaced_few}
use Rattle.ladder_line.proofs.Putting.{put_then}

pub period_few : (t : Seconds) → t.0 ≤ 3600 → length (spaced t.0) ≤ 5
period_few t h = spaced_few 3 t.0 (omega arith)

spaced_snoc : (ts : List Seconds) (t : Seconds) → spaced_periods (ts ++ (t ∷ [])) ≡ spaced_periods ts ++ spaced t.0
unfolding spaced_periods
spaced_snoc [] t = append-nil (spaced t.0)
spaced_snoc (x ∷ ts) t = ap (λ (l : List ℕ). spaced x.0 ++ l) (spaced_snoc ts t) ∙ sym (append_assoc (spaced x.0) (spaced_periods ts) (spaced t.0))

-- one period more
next_period : (periods : List Seconds) (k : ℕ) →
    spaced_periods (entries (seconds 0) periods 0 k) ++ spaced (get_or periods k (seconds 0)).0 ≡ spaced_periods (entries (seconds 0) periods 0 (k + 1))
next_period periods k =
    let from-0 : 0 + k ≡ k = zero-add k in
    sym (rw (add-one k, entries_snoc (seconds 0) periods 0 k, from-0) (spaced_snoc (entries (seconds 0) periods 0 k) (get_or periods k (seconds 0))))

-- after k periods
pub record PeriodsPut (old : List ℕ) (at : ℕ) (periods : List Seconds) (n k end : ℕ) (text : List ℕ) : Type 0 where
  pub upto : k ≤ n
  pub puts : Puts old at (spaced_periods (entries (seconds 0) periods 0 k)) end text
  pub within : end ≤ at + 5 * k

module _ (old : List ℕ) (at : ℕ) (periods : List Seconds) (n : ℕ) where
  pub no_period : at ≤ length old → PeriodsPut old at periods n 0 at old
  unfolding spaced_periods entries
  no_period h = record { upto = omega arith; puts = record { place = sym (add-zero at); room = h; text = refl }; within = omega arith }

  -- the next of the first n
  module _ {k end wide : ℕ} {text : List ℕ} (p : Printable periods n) (i : PeriodsPut old at periods n k end text)
      (h : k < length (take n periods)) (is : wide ≡ (get_or (take n periods) k (seconds 0)).0) where
    inside : k < n
    inside = omega (arith, length-take n periods)

    wide_is : wide ≡ (get_or periods k (seconds 0)).0
    wide_is = is ∙ ap (λ (t : Seconds). t.0) (get_or-take n periods k (seconds 0) inside)

    few : length (spaced wide) ≤ 5
    few = rw wide_is (period_few (get_or periods k (seconds 0)) (p.each k inside))

    pub period_room : at + 5 * n ≤ 80 → end + length (spaced wide) ≤ 80
    period_room room = omega (arith, i.within, inside, few)

    pub one_period : {next : ℕ} {new : List ℕ} → Puts text end (spaced wide) next new → PeriodsPut old at periods n (k + 1) next new
    one_period {next} {new} put =
        let next = next_period periods k in
        record {
          upto = omega (arith, inside);
          puts = rw (← next, ← wide_is) (put_then i.puts put);
          within = omega (arith, put.place, i.within, few);
        }
