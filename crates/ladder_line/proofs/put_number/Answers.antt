-- `ladder_line::put_number` meets its contract: the digits that `io::decimal` writes, put.
-- Assumes nothing.
use mathlib.Core.Path.{◌≡◌, ◌∙◌, ap, subst}
use mathlib.Core.List.{List}
use Prim.Native.Nat.{ℕ}
use lib.ListN.{length, take}
use Rattle.ladder_line.specs.Lines.{decimal}
use Rattle.ladder_line.specs.Writing.{Puts}
use Rattle.ladder_line.proofs.Decimals.{decimal_is}
use native.Mathlib.Omega.{arith}
use Rattle.ladder_line.proofs.put_number.Goals.{After-decimal-count}
use Rattle.ladder_line.proofs.put_number.Goals as goal

digits_are : (c : After-decimal-count) → take c.decimal-count.result c.decimal-count.new.out ≡ decimal c.args.n
digits_are c =
    let e = c.decimal-count.ensures in
    e.digits ∙ decimal_is c.decimal-count.result c.args.n e.len (omega (arith, c.ranges.n))

pub put-requires : goal.put-requires
put-requires c = omega (arith, ap length (digits_are (goal.at.put-requires c).After-decimal-count), c.requires)

pub returns : goal.returns
returns c =
    let a = c.args in
    subst (λ (w : List ℕ). Puts a.text.now a.at w c.put.result c.put.new.text) (digits_are (goal.at.returns c).After-decimal-count) c.put.ensures
