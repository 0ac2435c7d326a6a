-- Any two outcomes that a function's own contract allows for the same arguments are equal: `Post` is what the checker makes of its
-- clauses, so a contract that says less breaks this. Here each says which value the answer, or the lent table, is. Assumes nothing.
use mathlib.Core.Path.{◌≡◌, ◌∙◌, sym, ap}
use Rattle.model.specs.declared.PagesPerHour.{PagesPerHour}
use Rattle.model.specs.Model.{pages_per_hour}
use Rattle.table_row.specs.declared.TableRow.{TableRow}
use Rattle.table_row.proofs.put_row.Reads as put-row-contract
use Rattle.table_row.proofs.start_of.Reads as start-of-contract
use Rattle.table_row.proofs.TableRowFromRowWords.from.Reads as cut-row-contract

pub put_row_one_outcome : (κs : _) (a : _) (r s : _) (e e' : _) → put-row-contract.Post κs a r e → put-row-contract.Post κs a s e' → e.0.now ≡ e'.0.now
put_row_one_outcome κs a r s e e' one other = one ∙ sym other

pub start_of_one_outcome : (κs : _) (a : _) (r s : PagesPerHour) (e e' : _) → start-of-contract.Post κs a r e → start-of-contract.Post κs a s e' → r ≡ s
start_of_one_outcome κs a r s e e' one other = ap pages_per_hour (one ∙ sym other)

pub cut_row_one_outcome : (κs : _) (a : _) (r s : TableRow) (e e' : _) → cut-row-contract.Post κs a r e → cut-row-contract.Post κs a s e' → r ≡ s
cut_row_one_outcome κs a r s e e' one other = one ∙ sym other
