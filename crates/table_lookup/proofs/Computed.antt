-- What looking a budget up answers can be computed: the checks as tests, in their order, and what each leaves meets the contract. So
-- every lookup has an answer, and worked cases are computed. Assumes nothing.
use mathlib.Core.Path.{◌≡◌, refl, sym, ◌∙◌, subst}
use mathlib.Core.List.{List}
use mathlib.Core.Bool.{Bool, true, false, cond, ◌&&◌, true≢false}
use Prim.Native.Nat.{ℕ, ◌+◌, ◌%◌, ◌≤◌, ◌<◌}
use lib.ListN.{length}
use Rattle.std.specs.Prelude.{Option, Some, None, Result, Ok, Err}
use Rattle.std.proofs.lemmas.Option.{none-some}
use lib.Dec.{eqb, ltb}
use borrow.Author.Tests.{eqb-true, ltb-true, ltb-false, lt-ltb, eq-eqb}
use Rattle.model.specs.declared.PagesPerHour.{PagesPerHour}
use Rattle.model.specs.declared.Profile.{Profile}
use Rattle.model.specs.declared.Refusal.{Refusal}
use Rattle.model.specs.declared.Refusal.TheVariants.{Budget, Row}
use Rattle.model.specs.Model.{or_else, verdict_of}
use Rattle.model.proofs.Allowing.{both_true}
use Rattle.model.proofs.ProfileFirst.{computed_first}
use Rattle.model.proofs.Validity.{sound_valid}
use Rattle.table_row.specs.Table.{rows_in, start_at}
use Rattle.table_check.specs.Formed.{GoodRow, WholeRows, WellFormed}
use Rattle.table_check.specs.Checks.{Checked, all_good, first_bad}
use Rattle.table_check.proofs.Tests.{first_bad_from, bad_computed}
use Rattle.table_lookup.specs.Lookup.{Finds, wrong_length, bad_row, below_first, answering, Locates}
use Rattle.table_lookup.proofs.Finding.{last_within, last_answers}

-- what the check of the rows says
pub none_bad : {p : Profile} {bytes : List ℕ} {r : Option ℕ} → Checked p bytes r → r ≡ None → (k : ℕ) → k < rows_in bytes → GoodRow p bytes k
none_bad (all_good good) e = good
none_bad (first_bad f) e = absurd (none-some _ (sym e))

pub formed : {p : Profile} {bytes : List ℕ} {r : Option ℕ} → WholeRows bytes → Checked p bytes r → r ≡ None → WellFormed p bytes
formed w checked e = record { size = w; rows = none_bad checked e }

pub bad_named : {p : Profile} {bytes : List ℕ} {b : PagesPerHour} {r : Option ℕ} {n : ℕ} → Checked p bytes r → r ≡ Some n → WholeRows bytes → Finds p bytes b (Err (Row n))
bad_named (all_good good) e w = absurd (none-some _ e)
bad_named {p} {bytes} {b} {n = n} (first_bad {k} f) e w =
    let number : k + 1 ≡ n = cc in
    subst (λ (m : ℕ). Finds p bytes b (Err (Row m))) number (bad_row w f)

-- past the checks of a table its first start decides
pub from_first : {p : Profile} {bytes : List ℕ} {b : PagesPerHour} → WellFormed p bytes → (start_at bytes 0).0 ≤ b.0 → Finds p bytes b (Ok (last_within bytes b (rows_in bytes) + 1))
from_first {bytes} {b} w h = answering w (last_answers bytes b w.size h)

unfoldable pub whole_rows : List ℕ → Bool
whole_rows bytes = ltb 0 (length bytes) && eqb (length bytes % 16) 0

unfoldable pub unless_bad : Option ℕ → Result ℕ Refusal → Result ℕ Refusal
unless_bad None rest = rest
unless_bad (Some k) rest = Err (Row k)

unfoldable pub find_for : Profile → List ℕ → PagesPerHour → Result ℕ Refusal
find_for p bytes b =
    cond (whole_rows bytes)
    (unless_bad (first_bad_from p bytes 0 (rows_in bytes)) (cond (ltb b.0 (start_at bytes 0).0) (Err (Budget (start_at bytes 0))) (Ok (last_within bytes b (rows_in bytes) + 1))))
    (Err (Row 0))

unfoldable pub locate_for : Profile → List ℕ → PagesPerHour → Result ℕ Refusal
locate_for p bytes b = or_else (verdict_of p) (find_for p bytes b)

module _ (p : Profile) (bytes : List ℕ) (b : PagesPerHour) where
  whole_only : whole_rows bytes ≡ true → WholeRows bytes
  unfolding whole_rows
  whole_only e =
      let both = both_true (ltb 0 (length bytes)) e in
      record { some = ltb-true 0 (length bytes) both.0; whole = eqb-true _ 0 both.1 }

  whole_all : WholeRows bytes → whole_rows bytes ≡ true
  unfolding whole_rows
  whole_all w = rw (lt-ltb 0 (length bytes) w.some, eq-eqb (length bytes % 16) 0 w.whole)

  find_meets : p.n ≤ 8 → Finds p bytes b (find_for p bytes b)
  unfolding find_for unless_bad
  find_meets few = go (whole_rows bytes) refl (first_bad_from p bytes 0 (rows_in bytes)) refl (ltb b.0 (start_at bytes 0).0) refl
    where
      checked : Checked p bytes (first_bad_from p bytes 0 (rows_in bytes))
      checked = bad_computed p bytes few

      last : Result ℕ Refusal
      last = Ok (last_within bytes b (rows_in bytes) + 1)

      go : (t : Bool) → whole_rows bytes ≡ t → (bad : Option ℕ) → first_bad_from p bytes 0 (rows_in bytes) ≡ bad → (s : Bool) → ltb b.0 (start_at bytes 0).0 ≡ s
          → Finds p bytes b (cond t (unless_bad bad (cond s (Err (Budget (start_at bytes 0))) last)) (Err (Row 0)))
      go false e bad f s g = wrong_length (λ w. true≢false (sym (whole_all w) ∙ e))
      go true e (Some n) f s g = bad_named checked f (whole_only e)
      go true e None f true g = below_first (formed (whole_only e) checked f) (ltb-true _ _ g)
      go true e None f false g = from_first (formed (whole_only e) checked f) (ltb-false _ _ g)

  pub locate_meets : Locates p bytes b (locate_for p bytes b)
  unfolding locate_for
  locate_meets = computed_first (find_for p bytes b) (λ e. find_meets (sound_valid p e).n_to)
