-- Any two outcomes that the public contract of this crate allows are equal: the answer, and the bytes of the lent buffer.
-- Past a sound profile both speak of the same rows; beside a refused one the rows do not matter.
-- Assumes nothing.
use mathlib.Core.Path.{◌≡◌, ap}
use mathlib.Core.List.{List}
use Prim.Native.Nat.{ℕ}
use lib.ListN.{length}
use Rattle.std.specs.Prelude.{Result}
use Rattle.model.specs.declared.Seconds.{Seconds}
use Rattle.model.specs.declared.Job.{Job}
use Rattle.model.specs.declared.Profile.{Profile}
use Rattle.model.specs.declared.Refusal.{Refusal}
use Rattle.model.specs.Model.{jobs_of}
use Rattle.model.proofs.FrontPut.{puts_rows_one}
use Rattle.table.specs.Table.{TableOf, table_bytes, Built}
use Rattle.table.proofs.Descent.{table_below, below_one}
use Rattle.table.proofs.build_table.Reads as build-table-contract

-- Jobs have one table.
pub table_one : (js : List Job) {xs ys : List (List Seconds)} → TableOf js xs → TableOf js ys → xs ≡ ys
table_one js a b = below_one (table_below a) (table_below b)

pub built_one : (p : Profile) (old : List ℕ) {r s : Result ℕ Refusal} {new other-new : List ℕ} → Built p old r new → Built p old s other-new → (r ≡ s) × (new ≡ other-new)
built_one p old one other =
    puts_rows_one p old (λ sound. let same = table_one (jobs_of p) (one.are sound) (other.are sound) in (ap length same, ap (table_bytes (jobs_of p)) same)) one.puts other.puts

-- Any two outcomes that a function's own contract allows for the same arguments are equal: `Post` is what the checker makes of its
-- clauses, so a contract that says less breaks this.

pub build_table_one_outcome : (κs : _) (a : _) (r s : Result ℕ Refusal) (e e' : _) → build-table-contract.Post κs a r e → build-table-contract.Post κs a s e' → (r ≡ s) × (e.1.0.now ≡ e'.1.0.now)
build_table_one_outcome κs a r s e e' one other = built_one _ _ one other
