-- Storing in runs: what is left to store, stored from its place on, makes the same whole before and after each run.
-- Assumes nothing.
use mathlib.Core.Path.{◌≡◌, sym, ◌∙◌, ap, ap₂}
use mathlib.Core.List.{List, [], ◌++◌}
use Prim.Native.Nat.{ℕ, ◌+◌}
use lib.ListN.{length}
use lib.Seq.{sets}
use Rattle.model.proofs.Lists.{sets_append}

-- Before each turn: what is left, stored from `at` on, makes the whole.
pub record Completes {A : Type 0} (whole now : List A) (at : ℕ) (left : List A) : Type 0 where
  pub is : sets now at left ≡ whole

module _ {A : Type 0} {whole now left : List A} {at : ℕ} where
  pub run_stored : (run rest : List A) {then : List A} {next : ℕ} → left ≡ run ++ rest → then ≡ sets now at run → next ≡ at + length run →
      Completes whole now at left → Completes whole then next rest
  run_stored run rest parts stored place c =
      record { is = ap₂ (λ (l : List A) (n : ℕ). sets l n rest) stored place ∙ sets_append now at run rest ∙ ap (sets now at) (sym parts) ∙ c.is }

  pub all_stored : left ≡ [] → Completes whole now at left → now ≡ whole
  all_stored none c = ap (sets now at) (sym none) ∙ c.is
