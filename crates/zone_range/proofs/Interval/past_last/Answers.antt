-- `zone_range::Interval::past_last` meets its contract: a quotient is below m exactly where what is divided is below
-- the product.
-- Assumes nothing.
use mathlib.Core.Path.{◌≡◌}
use mathlib.Core.Logic.{◌↔◌}
use Prim.Native.Nat.{ℕ, ◌*◌, ◌/◌, ◌≤◌, ◌<◌}
use native.Mathlib.Nat.{div-lt_iff_lt-mul}
use native.Mathlib.Omega.{arith}
use Rattle.std.proofs.lemmas.Bool.Decides.{nat_tests}
use lib.Dec.{ltb}
use Rattle.zone_range.proofs.Interval.past_last.Goals as goal

same_test : (hi least m : ℕ) → 1 ≤ least → ltb hi (m * least) ≡ ltb (hi / least) m
same_test hi least m pos =
    let same : (hi / least < m) ↔ (hi < m * least) = div-lt_iff_lt-mul pos in
    let there = same.0 in
    let back = same.1 in
    grind (arith, nat_tests)

pub returns : goal.returns
returns c = rw (c.from.ensures, c.from-2.ensures, c.from-3.ensures) (same_test _ _ _ c.requires.some)
