-- Any two outcomes that a function's own contract allows for the same arguments are equal: `Post` is what the checker makes of its
-- clauses, so a contract that says less breaks this. Here each says which value the answer, or the lent buffer, is. Assumes nothing.
use mathlib.Core.Path.{◌≡◌, ◌∙◌, sym}
use mathlib.Core.List.{List}
use Prim.Native.Nat.{ℕ}
use Rattle.codec.specs.declared.RowWords.{RowWords}
use Rattle.codec.proofs.put_row.Reads as put-row-contract
use Rattle.codec.proofs.get_row.Reads as get-row-contract
use Rattle.codec.proofs.unpack_widths.Reads as unpack-widths-contract
use Rattle.codec.proofs.pack_widths.Reads as pack-widths-contract
use Rattle.codec.proofs.unpack_fields.Reads as unpack-fields-contract
use Rattle.codec.proofs.pack_fields.Reads as pack-fields-contract

pub put_row_one_outcome : (κs : _) (a : _) (r s : _) (e e' : _) → put-row-contract.Post κs a r e → put-row-contract.Post κs a s e' → e.0.now ≡ e'.0.now
put_row_one_outcome κs a r s e e' one other = one ∙ sym other

pub get_row_one_outcome : (κs : _) (a : _) (r s : RowWords) (e e' : _) → get-row-contract.Post κs a r e → get-row-contract.Post κs a s e' → r ≡ s
get_row_one_outcome κs a r s e e' one other = one ∙ sym other

pub unpack_widths_one_outcome : (n fits κs : _) (a : _) (r s : List ℕ) (e e' : _) → unpack-widths-contract.Post n fits κs a r e → unpack-widths-contract.Post n fits κs a s e' → r ≡ s
unpack_widths_one_outcome n fits κs a r s e e' one other = one ∙ sym other

pub pack_widths_one_outcome : (n fits κs : _) (a : _) (r s : ℕ) (e e' : _) → pack-widths-contract.Post n fits κs a r e → pack-widths-contract.Post n fits κs a s e' → r ≡ s
pack_widths_one_outcome n fits κs a r s e e' one other = one ∙ sym other

pub unpack_fields_one_outcome : (κs : _) (a : _) (r s : List ℕ) (e e' : _) → unpack-fields-contract.Post κs a r e → unpack-fields-contract.Post κs a s e' → r ≡ s
unpack_fields_one_outcome κs a r s e e' one other = one ∙ sym other

pub pack_fields_one_outcome : (κs : _) (a : _) (r s : ℕ) (e e' : _) → pack-fields-contract.Post κs a r e → pack-fields-contract.Post κs a s e' → r ≡ s
pack_fields_one_outcome κs a r s e e' one other = one ∙ sym other
