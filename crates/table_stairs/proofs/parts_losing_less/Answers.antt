-- `table_stairs::parts_losing_less` meets its contract: of the parts seen so far, those counted lose less and no others.
-- Assumes nothing.
use mathlib.Core.Path.{◌≡◌, ◌∙◌, ap}
use native.Mathlib.Omega.{arith}
use mathlib.Core.List.{[]}
use Rattle.std.proofs.lemmas.List.{get_or_read}
use Rattle.table_stairs.specs.Stairs.{Stair, stair}
use Rattle.table_stairs.specs.Ordered.{last_loss}
use Rattle.table_stairs.proofs.Counting.{last_inside, one_less, one_no_less}
use Rattle.table_stairs.proofs.parts_losing_less.Goals.{then-loss, else-loss}
use Rattle.table_stairs.proofs.parts_losing_less.Goals as goal

pub loop-x-preserved : goal.loop-x-preserved
loop-x-preserved c =
    let s = c.requires in
    let counted = c.loop-x.invariant in
    let inside = last_inside c.args.rows.now c.args.size c.loop-x.x s.nonempty c.loop-x-test.true in
    let loss : c.loss.result ≡ last_loss c.args.rows.now c.args.size c.loop-x.x = c.loss.ensures ∙ ap (λ (r : Stair). r.its_loss) (get_or_read c.args.rows.now _ c.index-rows-size.result inside c.index-rows-size.is (stair 0 0 [])) in
    elim c.if-loss.branch [
      | then-loss w ↦ rw w.less-is (one_less counted s.in_order s.nonempty inside (omega (arith, loss, w.if-loss.true)))
      | else-loss w ↦ rw w.less-is (one_no_less counted (omega (arith, loss, w.if-loss.false)))
    ]
