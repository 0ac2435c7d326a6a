-- `walk::Numbers::reaches` meets its contract: where it says no, some job's test did.
-- Assumes nothing.
use mathlib.Core.Path.{◌≡◌}
use Prim.Native.Nat.{◌+◌, ◌-◌, ◌*◌, ◌/◌, ◌≤◌, ◌<◌, min}
use native.Mathlib.Omega.{arith}
use lib.ListN.{get_or}
use borrow.Author.Tests.{tests}
use borrow.Rule.Slice.PartMut.{mid_of}
use Rattle.std.proofs.Common.{rules}
use Rattle.std.proofs.lemmas.Iterator.{cases_from_all, YieldsList-from_slice}
use Rattle.std.proofs.lemmas.List.{places}
use Rattle.walk.specs.declared.JobNumbers.{JobNumbers}
use Rattle.walk.specs.Numbers.{no_numbers, numbers_at}
use Rattle.walk.proofs.Numbers.reaches.Goals as goal

pub returns : goal.returns
returns c =
    let m = c.args.self.now in
    let i = min c.args.from m.n in
    let t = c.args.t.0 in
    let jobs = mid_of i (m.n - i) m.jobs in
    let multiple = λ (j : JobNumbers). j.lo.0 ≤ j.hi.0 / t * t in
    let none = λ (j : JobNumbers). j.hi.0 / t * t < j.lo.0 in
    let cases = cases_from_all _ _ _ multiple none c.all.ensures.ran (YieldsList-from_slice jobs cc) (λ x q k. search (rules, tests)) (λ x q k. search (rules, tests)) in
    λ no.
    (let one = rw no at cases in
    let at : get_or jobs one.0 no_numbers ≡ numbers_at m (i + one.0) = grind (arith, places) in
    (i + one.0, grind (arith, places), grind (arith, places), rw at at (one.2 no_numbers)))
