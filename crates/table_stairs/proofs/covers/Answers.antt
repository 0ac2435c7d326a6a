-- `table_stairs::covers` meets its contract: of the rows that lose no more, the last needs least.
-- Assumes nothing.
use mathlib.Core.Path.{◌≡◌, sym, ◌∙◌, ap}
use mathlib.Core.List.{[]}
use mathlib.Core.Bool.{true, false}
use Prim.Native.Nat.{suc, ◌+◌, ◌-◌, ◌<◌}
use native.Mathlib.Omega.{arith}
use native.Mathlib.Decide.{dec_le}
use borrow.Author.Tests.{le-ltb, tests}
use lib.ListN.{length}
use Rattle.std.proofs.Common.{rules}
use Rattle.std.proofs.lemmas.List.{get_or_read}
use Rattle.table_stairs.specs.Stairs.{Stair, stair, losing_less}
use Rattle.table_stairs.specs.Ordered.{row_at}
use Rattle.table_stairs.proofs.Places.{none_covers, last_covers, last_covers_not}
use Rattle.table_stairs.proofs.covers.Goals as goal

pub returns-then-k-gt0 : goal.returns-then-k-gt0
returns-then-k-gt0 c =
    let q = c.args.need.0 in
    let rows = c.args.rows.now in
    let k = c.losing_less-k.result in
    let inside : k - 1 < length rows = omega (arith, c.losing_less-k.ensures.upto) in
    let need : c.need.result.0 ≡ (row_at rows (k - 1)).its_need = c.need.ensures ∙ ap (λ (r : Stair). r.its_need) (get_or_read rows (k - 1) c.index-rows-k.result inside c.index-rows-k.is (stair 0 0 [])) in
    let number : length (losing_less (c.args.loss + 1) rows) ≡ suc (k - 1) = omega (arith, c.losing_less-k.ensures.number) in
    elim (dec_le c.need.result.0 q) [
      | yes d ↦ let e : c.le.result ≡ true = search (rules, tests) in e ∙ sym (last_covers q c.args.loss rows c.requires.in_order (k - 1) number (omega (arith, need)))
      | no d ↦ let e : c.le.result ≡ false = search (rules, tests) in e ∙ sym (last_covers_not q c.args.loss rows c.requires.in_order (k - 1) number (omega (arith, need)))
    ]

pub returns-else-k-gt0 : goal.returns-else-k-gt0
returns-else-k-gt0 c =
    let none : length (losing_less (c.args.loss + 1) c.args.rows.now) ≡ 0 = omega (arith, c.losing_less-k.ensures.number) in
    le-ltb 0 c.losing_less-k.result c.if-k-gt0.false ∙ sym (none_covers c.args.need.0 c.args.loss c.args.rows.now c.requires.in_order none)
