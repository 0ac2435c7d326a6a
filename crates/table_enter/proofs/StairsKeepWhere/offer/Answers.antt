-- `table_enter::StairsKeepWhere::offer` meets its contract: a plan that enters is put in its place, and what stands then is the update.
-- Assumes nothing.
use mathlib.Core.Path.{◌≡◌, sym, ◌∙◌, ap}
use mathlib.Core.List.{List}
use Prim.Native.Nat.{ℕ}
use lib.ListN.{length, drop}
use Rattle.model.specs.declared.PagesPerHour.{PagesPerHour}
use Rattle.model.specs.Model.{rounded_up}
use Rattle.table_stairs.specs.Stairs.{Stair, most, losing_less, needing_less, at_most, enter}
use Rattle.table_stairs.specs.Ordered.{Ordered, replaced}
use Rattle.table_stairs.proofs.Ordered.{stairs_absorb}
use Rattle.table_enter.proofs.Putting.{enter_puts, enter_stays}
use Rattle.table_enter.proofs.StairsKeepWhere.offer.Goals.{After-new, After-takes}
use Rattle.table_enter.proofs.StairsKeepWhere.offer.Goals as goal

-- what is put in its place is the update
update_is : (c : After-new) → let s = c.args.self.now in
    at_most most (replaced c.losing_less-i.result c.needing_less-j.result c.new.result s.rows) s.bound ≡ enter most c.args.budget.0 (rounded_up c.args.need).0 c.args.loss c.args.periods.now s
update_is c =
    let s = c.args.self.now in
    let a = c.args in
    let need = ap (λ (q : PagesPerHour). q.0) c.rounded_up-start.ensures in
    let i = c.losing_less-i.ensures.number ∙ ap (λ (rows : List Stair). length (losing_less a.loss rows)) c.rows.ensures.rows in
    let j = ap (drop c.needing_less-j.result) (sym c.rows-then-takes.ensures.rows) ∙ c.needing_less-j.ensures.rest ∙ ap (λ (rows : List Stair). needing_less c.rounded_up-start.result.0 (drop c.losing_less-i.result rows)) c.rows-then-takes.ensures.rows in
    ap (λ (row : Stair). at_most most (replaced c.losing_less-i.result c.needing_less-j.result row s.rows) s.bound) c.new.ensures
    ∙ enter_puts a.budget.0 c.rounded_up-start.result.0 a.loss a.periods.now s c.losing_less-i.result c.needing_less-j.result (sym c.takes.ensures ∙ c.if-takes.true) i j
    ∙ ap (λ (q : ℕ). enter most a.budget.0 q a.loss a.periods.now s) need

in_order : (c : After-takes) → Ordered (enter most c.args.budget.0 (rounded_up c.args.need).0 c.args.loss c.args.periods.now c.args.self.now)
in_order c = (stairs_absorb c.args.budget.0).good (rounded_up c.args.need).0 c.args.loss c.args.periods.now c.args.self.now c.requires.good

pub put-requires-clause-in_order : goal.put-requires-clause-in_order
put-requires-clause-in_order c = rw (update_is c) (in_order (goal.at.put-requires-clause-in_order c).After-takes)

pub returns-then-takes-clause-taken : goal.returns-then-takes-clause-taken
returns-then-takes-clause-taken c = c.put.ensures ∙ update_is (goal.at.returns-then-takes-clause-taken c).After-new

pub returns-then-takes-clause-good : goal.returns-then-takes-clause-good
returns-then-takes-clause-good c =
    let e = c.put.ensures ∙ update_is (goal.at.returns-then-takes-clause-good c).After-new in
    rw e (in_order (goal.at.returns-then-takes-clause-good c).After-takes)

pub returns-else-takes-clause-taken : goal.returns-else-takes-clause-taken
returns-else-takes-clause-taken c =
    let a = c.args in
    let need = ap (λ (q : PagesPerHour). q.0) c.rounded_up-start.ensures in
    enter_stays a.budget.0 c.rounded_up-start.result.0 a.loss a.periods.now a.self.now (sym c.takes.ensures ∙ c.if-takes.false)
    ∙ ap (λ (q : ℕ). enter most a.budget.0 q a.loss a.periods.now a.self.now) need
