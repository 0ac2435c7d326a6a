-- What the update does, case by case: when a plan is taken, and which plans leave what is had alone, so that a walk may be cut.
-- Assumes nothing.
use mathlib.Core.Path.{◌≡◌, refl}
use mathlib.Core.List.{List}
use mathlib.Core.Bool.{Bool, true, false, cond, ◌&&◌}
use Prim.Native.Nat.{ℕ, ◌≤◌, ◌<◌}
use native.Mathlib.Omega.{arith}
use lib.Dec.{leb, eqb}
use borrow.Author.Tests.{le-leb, lt-leb, lt-ltb, le-ltb, eq-eqb, ne_eqb}
use Rattle.model.specs.declared.Seconds.{Seconds}
use Rattle.std.proofs.lemmas.Bool.Decides.{nat_tests}
use Rattle.choose_offer.specs.Found.{Found, nothing, found, beats, pick}
use Rattle.walk.specs.Laws.{Keeps}

module _ (b q l : ℕ) (ts : List Seconds) where
  -- over the budget
  pub pick_over : (had : Found) → b < q → pick b q l ts had ≡ had
  unfolding pick
  pick_over had h = rw (lt-leb q b h)

  -- the first that fits
  pub pick_first : q ≤ b → pick b q l ts nothing ≡ found q l ts
  unfolding pick beats
  pick_first h = rw (le-leb q b h)

  module _ (p m : ℕ) (us : List Seconds) where
    pub pick_less_loss : q ≤ b → l < m → pick b q l ts (found p m us) ≡ found q l ts
    unfolding pick beats
    pick_less_loss h k = rw (le-leb q b h, lt-ltb l m k)

    pub pick_less_need : q ≤ b → l ≡ m → q < p → pick b q l ts (found p m us) ≡ found q l ts
    unfolding pick beats
    pick_less_need h e k = rw (le-leb q b h, le-ltb l m (omega arith), eq-eqb l m e, lt-ltb q p k)

    pub pick_more_loss : m < l → pick b q l ts (found p m us) ≡ found p m us
    unfolding pick beats
    pick_more_loss k = rw (le-ltb l m (omega arith), ne_eqb l m (λ e. omega arith)) (stays (leb q b))
      where
        stays : (t : Bool) → cond (t && false) (found q l ts) (found p m us) ≡ found p m us
        stays true = refl
        stays false = refl

    pub pick_no_less : m ≤ l → p ≤ q → pick b q l ts (found p m us) ≡ found p m us
    unfolding pick beats
    pick_no_less k n = rw (le-ltb l m k, le-ltb q p n) (stays (leb q b) (eqb l m))
      where
        stays : (t s : Bool) → cond (t && (s && false)) (found q l ts) (found p m us) ≡ found p m us
        stays true true = refl
        stays true false = refl
        stays false true = refl
        stays false false = refl

-- which floors let what is had stand
module _ (b : ℕ) where
  pub keeps_over : (had : Found) {k : ℕ} → b < k → Keeps (pick b) had k 0
  keeps_over had h q l ts k≤ l≤ = pick_over b q l ts had (omega arith)

  pub keeps_more_loss : (p m : ℕ) (us : List Seconds) {l : ℕ} → m < l → Keeps (pick b) (found p m us) 0 l
  keeps_more_loss p m us h q l ts k≤ l≤ = pick_more_loss b q l ts p m us (omega arith)

  pub keeps_no_less : (p m : ℕ) (us : List Seconds) {k l : ℕ} → m ≤ l → p ≤ k → Keeps (pick b) (found p m us) k l
  keeps_no_less p m us h n q l ts k≤ l≤ = pick_no_less b q l ts p m us (omega arith) (omega arith)

  -- what is had is not beaten at the floors
  pub keeps_unbeaten : (had : Found) {k l : ℕ} → beats k l had ≡ false → Keeps (pick b) had k l
  unfolding pick beats
  keeps_unbeaten nothing not q m' ts k≤ l≤ = cc
  keeps_unbeaten (found p m us) not q m' ts k≤ l≤ = grind (arith, nat_tests)

-- the floors by which the code cuts
pub ruleset kept_at_floors = (keeps_over, keeps_more_loss, keeps_no_less, keeps_unbeaten)
