-- Which line comes when: each way out of `line` is one case of `line_at`. Assumes nothing.
use mathlib.Core.Path.{◌≡◌, refl}
use mathlib.Core.List.{List}
use Prim.Native.Nat.{ℕ, zero, suc, ◌-◌, ◌≤◌, ◌<◌}
use native.Mathlib.Nat.{not-suc-le-zero}
use native.Mathlib.Omega.{arith}
use borrow.Author.Tests.{lt-ltb, le-ltb}
use Rattle.std.specs.Prelude.{Result, Ok, Err}
use Rattle.model.specs.declared.Refusal.{Refusal}
use Rattle.ladder_listing.specs.declared.Listing.{Listing}
use Rattle.ladder_line.specs.Lines.{refusal_line, header_line}
use Rattle.ladder_listing.specs.Listing.{line_of_row, line_at, Prints}
use Rattle.ladder_line.specs.Writing.{Puts}
use Rattle.ladder_line.proofs.Putting.{put_none, put_front}

-- what is put to the front is printed
pub printed : (l : Result Listing Refusal) (table : List ℕ) (k : ℕ) {old new : List ℕ} {r : ℕ} → Puts old 0 (line_at l table k) r new → Prints l table k old r new
printed l table k puts = record { size = omega (arith, puts.place); text = put_front puts }

module _ {table old new : List ℕ} {r : ℕ} where
  pub refusal_printed : {refusal : Refusal} {k : ℕ} → k ≡ 0 → Puts old 0 (refusal_line (Err refusal)) r new → Prints (Err refusal) table k old r new
  unfolding line_at
  refusal_printed {refusal} e puts = rw e (printed (Err refusal) table 0 puts)

  pub header_printed : {l : Listing} {k : ℕ} → k ≡ 0 → Puts old 0 (header_line l.profile.n l.rows) r new → Prints (Ok l) table k old r new
  unfolding line_at
  header_printed {l} e puts = rw e (printed (Ok l) table 0 puts)

  pub row_printed : {l : Listing} {k : ℕ} → (k ≡ 0 → ⊥) → k ≤ l.rows → Puts old 0 (line_of_row l.profile table (k - 1)) r new → Prints (Ok l) table k old r new
  unfolding line_at
  row_printed {k = zero} some to puts = absurd (some refl)
  row_printed {l} {k = suc k} some to puts =
      let e : suc k - 1 ≡ k = omega arith in
      printed (Ok l) table (suc k) (rw (lt-ltb k l.rows (omega arith), ← e) puts)

module _ {table old : List ℕ} where
  pub none_beyond : {l : Listing} {k : ℕ} → l.rows < k → Prints (Ok l) table k old 0 old
  unfolding line_at
  none_beyond {k = zero} past = absurd (not-suc-le-zero past)
  none_beyond {l} {k = suc k} past = printed (Ok l) table (suc k) (rw (le-ltb k l.rows (omega arith)) (put_none old))

  pub none_beside : {refusal : Refusal} {k : ℕ} → (k ≡ 0 → ⊥) → Prints (Err refusal) table k old 0 old
  unfolding line_at
  none_beside {k = zero} some = absurd (some refl)
  none_beside {refusal} {k = suc k} some = printed (Err refusal) table (suc k) (put_none old)
