-- `table_enter::Stairs::put` meets its contract: rows leave, or move up, or the last of too many leaves.
-- Assumes nothing.
use mathlib.Core.Path.{◌≡◌, ◌∙◌, ap}
use mathlib.Core.List.{List, []}
use Prim.Native.Nat.{ℕ, ◌+◌, ◌-◌, ◌≤◌, ◌<◌}
use native.Mathlib.Omega.{arith}
use lib.ListN.{length, length-take}
use Rattle.std.proofs.lemmas.List.{get_or_default}
use Rattle.std.proofs.Common.{rules}
use Rattle.table_stairs.specs.Stairs.{Stair, stair, Stairs, most, at_most}
use Rattle.table_stairs.specs.Ordered.{replaced, stairs_of, row_at}
use Rattle.table_enter.proofs.Putting.{puts_within, puts_crowded, puts_past}
use Rattle.table_enter.proofs.Stairs.put.Goals.{After-replace, After-replace-then-i-lt-MOST, After-loss-self-inside-else-i-lt-MOST}
use Rattle.table_enter.proofs.Stairs.put.Goals as goal

-- place j is one among the rows, or behind them
upto : (rows : List Stair) (count bound j : ℕ) (s : Stairs) → stairs_of rows count bound ≡ s → j ≤ length s.rows → j ≤ count
upto rows count bound j s is le = omega (arith, ap (λ (t : Stairs). length t.rows) is, length-take count rows)

room : (c : After-replace) → let s = c.self.inside in let a = c.args in
    stairs_of c.replace.new.rows (a.i + 1 + (s.count - a.j)) s.bound ≡ at_most most (replaced a.i a.j a.row a.self.now.rows) a.self.now.bound
room c =
    let s = c.self.inside in
    let a = c.args in
    rw (← c.self.view_is) (puts_within s.rows c.replace.new.rows a.i a.j s.count s.bound a.row c.replace.ensures.rows c.if-count-le-MOST.true)

crowded : (c : After-replace-then-i-lt-MOST) → let s = c.self.inside in let a = c.args in
    stairs_of c.replace-then-i-lt-MOST.new.rows s.count c.loss-self-inside.result ≡ at_most most (replaced a.i a.j a.row a.self.now.rows) a.self.now.bound
crowded c =
    let s = c.self.inside in
    let a = c.args in
    let size : length s.rows ≡ most = search rules in
    let within = upto s.rows s.count s.bound a.j a.self.now c.self.view_is c.requires.upto in
    let inside : most - 1 < length s.rows = omega (arith, size) in
    let loss : c.loss-self-inside.result ≡ (row_at s.rows (most - 1)).its_loss = c.loss-self-inside.ensures ∙ ap (λ (r : Stair). r.its_loss) (get_or_default s.rows (most - 1) c.index-self.result (stair 0 0 []) inside) in
    let put = puts_crowded s.rows c.replace-then-i-lt-MOST.new.rows a.i a.j s.count s.bound a.row size c.self.invariant.count_to c.requires.order within c.if-count-le-MOST.false c.if-i-lt-MOST.true c.replace-then-i-lt-MOST.ensures.rows in
    rw (← c.self.view_is, loss) put

past : (c : After-loss-self-inside-else-i-lt-MOST) → let s = c.self.inside in let a = c.args in
    stairs_of s.rows s.count c.loss-self-inside-else-i-lt-MOST.result ≡ at_most most (replaced a.i a.j a.row a.self.now.rows) a.self.now.bound
past c =
    let s = c.self.inside in
    let a = c.args in
    let size : length s.rows ≡ most = search rules in
    let within = upto s.rows s.count s.bound a.j a.self.now c.self.view_is c.requires.upto in
    let put = puts_past s.rows s.rows a.i a.j s.count s.bound a.row size c.self.invariant.count_to c.requires.order within c.if-count-le-MOST.false c.if-i-lt-MOST.false in
    rw (← c.self.view_is, c.loss-self-inside-else-i-lt-MOST.ensures) put

pub invariant_of-self : goal.invariant_of-self
invariant_of-self c = record { count_to = c.if-count-le-MOST.true; ordered = rw (room (goal.at.invariant_of-self c).After-replace) c.requires.in_order }

pub returns-then-count-le-MOST : goal.returns-then-count-le-MOST
returns-then-count-le-MOST c = room (goal.at.returns-then-count-le-MOST c).After-replace

pub invariant_of-self-then-i-lt-MOST : goal.invariant_of-self-then-i-lt-MOST
invariant_of-self-then-i-lt-MOST c = record { count_to = c.self.invariant.count_to; ordered = rw (crowded (goal.at.invariant_of-self-then-i-lt-MOST c).After-replace-then-i-lt-MOST) c.requires.in_order }

pub returns-then-i-lt-MOST : goal.returns-then-i-lt-MOST
returns-then-i-lt-MOST c = crowded (goal.at.returns-then-i-lt-MOST c).After-replace-then-i-lt-MOST

pub invariant_of-self-else-i-lt-MOST : goal.invariant_of-self-else-i-lt-MOST
invariant_of-self-else-i-lt-MOST c = record { count_to = c.self.invariant.count_to; ordered = rw (past (goal.at.invariant_of-self-else-i-lt-MOST c).After-loss-self-inside-else-i-lt-MOST) c.requires.in_order }

pub returns-else-i-lt-MOST : goal.returns-else-i-lt-MOST
returns-else-i-lt-MOST c = past (goal.at.returns-else-i-lt-MOST c).After-loss-self-inside-else-i-lt-MOST
