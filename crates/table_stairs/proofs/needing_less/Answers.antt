-- `table_stairs::needing_less` meets its contract: the rows passed need no less, the one found does.
-- Assumes nothing.
use mathlib.Core.Path.{sym, ◌∙◌}
use mathlib.Core.List.{List, []}
use Prim.Native.Nat.{ℕ, ◌≤◌, ◌<◌, zero-le}
use lib.ListN.{length, drop}
use lib.Seq.{drop-length}
use Rattle.std.proofs.lemmas.List.{drop-drop, take_rest}
use borrow.Author.Tests.{tests}
use Rattle.std.proofs.Common.{rules, Option, Some, None}
use Rattle.std.specs.Option.{MatchOption}
use Rattle.std.specs.List.{AllWithin, HoldsAt}
use Rattle.std.proofs.lemmas.Iterator.{IsFirst-from_position, YieldsList-from_slice}
use Rattle.table_stairs.specs.Stairs.{Stair, stair}
use Rattle.table_stairs.proofs.Places.{needing_less_from, needing_less_none}
use Rattle.table_stairs.proofs.needing_less.Goals.{After-position}
use Rattle.table_stairs.proofs.needing_less.Goals as goal

-- what was found among the rows behind
abbrev Found : ℕ → List Stair → Option ℕ → Type 0
Found q rows r = MatchOption r (AllWithin (λ (r : Stair). q ≤ r.its_need) rows 0 (length rows))
    (λ j. (j < length rows) × HoldsAt (λ (r : Stair). r.its_need < q) rows j × AllWithin (λ (r : Stair). q ≤ r.its_need) rows 0 j)

found : (c : After-position) → Found c.args.need.0 (drop c.args.i c.args.rows.now) c.position.result
found c = IsFirst-from_position _ _ c.position.result (λ (r : Stair). r.its_need < c.args.need.0) (λ (r : Stair). c.args.need.0 ≤ r.its_need) c.position.ensures.ran
    (YieldsList-from_slice (drop c.args.i c.args.rows.now) (c.iter.ensures.rest ∙ take_rest c.args.rows.now c.args.i)) (λ x q k. search (rules, tests)) (λ x q k. search (rules, tests))

pub returns-in-Some-clause-rest : goal.returns-in-Some-clause-rest
returns-in-Some-clause-rest c =
    let rest = drop c.args.i c.args.rows.now in
    let e : Found c.args.need.0 rest (Some c.in-Some.passed) = rw c.in-Some.is at (found (goal.at.returns-in-Some-clause-rest c).After-position) in
    sym (drop-drop c.in-Some.passed c.args.i c.args.rows.now)
    ∙ needing_less_from c.args.need.0 rest c.in-Some.passed e.0 (λ k before. e.2 k (stair 0 0 []) zero-le before) (e.1 (stair 0 0 []))

pub returns-in-None-clause-rest : goal.returns-in-None-clause-rest
returns-in-None-clause-rest c =
    let rest = drop c.args.i c.args.rows.now in
    let e : Found c.args.need.0 rest None = rw c.in-None.is at (found (goal.at.returns-in-None-clause-rest c).After-position) in
    drop-length c.args.rows.now ∙ sym (needing_less_none c.args.need.0 rest (λ k inside. e k (stair 0 0 []) zero-le inside))
