-- Through the update the rows stay in order below the bound: a row leaves only for one that covers it, or because the bound falls to its loss or below.
-- So a plan once visited changes nothing more, whatever else is visited.
-- Assumes nothing.
use mathlib.Core.Path.{◌≡◌, refl, ap, subst}
use mathlib.Core.Logic.{⊎_elim}
use mathlib.Core.List.{List, [], Memᴰ}
use mathlib.Core.Bool.{Bool, true, false}
use Prim.Native.Nat.{ℕ, ◌≤◌, ◌<◌}
use native.Mathlib.Omega.{arith}
use native.Mathlib.Decide.{dec_le, dec_lt}
use native.Mathlib.Nat.{le_refl, le_trans}
use lib.ListN.{length, get_or, length-take}
use Rattle.model.specs.declared.Seconds.{Seconds}
use Rattle.walk.specs.Laws.{Absorbs}
use Rattle.table_stairs.specs.Stairs.{Stair, stair, Stairs, most, covered, Covering, losing_less, among, at_most, enter}
use Rattle.table_stairs.specs.Ordered.{Ordered}
use Rattle.table_stairs.proofs.Updates.{covering, covers, enter_over, enter_bound, enter_covered, enter_new, at_most_all, at_most_cut}
use Rattle.table_stairs.proofs.Order.{losing_in, losing_has, losing_staircase, among_new, among_in, among_has, among_staircase, take_losing, cut_in}

-- What stands with a plan more, before the limit on the number of rows.
abbrev pub entered : ℕ → ℕ → List Seconds → Stairs → Stairs
entered q l ts s = record { rows = among q l ts s.rows; bound = s.bound }

-- `after` has those rows of s that lose less than a bound not above that of s; with none left, nothing has left.
pub record Limited (s after : Stairs) : Type 0 where
  pub ordered : Ordered after
  pub lower : after.bound ≤ s.bound
  pub stood : (r : Stair) → Memᴰ r after.rows → Memᴰ r s.rows
  pub stands : (r : Stair) → Memᴰ r s.rows → r.its_loss < after.bound → Memᴰ r after.rows
  pub none : length after.rows ≡ 0 → (length s.rows ≡ 0) × (after.bound ≡ s.bound)

-- How a plan enters: it fits, loses less than the bound, no row covers it, and `after` is what stands with it, of at most so many rows.
pub record Entry (b q l : ℕ) (ts : List Seconds) (s after : Stairs) : Type 0 where
  pub fits : q ≤ b
  pub less : l < s.bound
  pub new : covered q l s.rows ≡ false
  pub ordered : Ordered (entered q l ts s)
  pub limited : Limited (entered q l ts s) after

-- A plan of this need and loss does not enter: it is over the budget, it reaches the bound, or some row covers it.
abbrev pub Refused : ℕ → ℕ → ℕ → Stairs → Type 0
Refused b q l s = q ≤ b → l < s.bound → Covering q l s.rows

module _ (most : ℕ) (pos : 1 ≤ most) where
  -- the limit on the number of rows
  limited : (s : Stairs) → Ordered s → Limited s (at_most most s.rows s.bound)
  limited s o = go (dec_lt most (length s.rows))
    where
      cut : (c : Stair) → Memᴰ c s.rows → 1 ≤ length (losing_less c.its_loss s.rows) → Limited s (record { rows = losing_less c.its_loss s.rows; bound = c.its_loss })
      cut c m some = record {
        ordered = record { order = losing_staircase c.its_loss s.rows o.order; bounded = λ r n. (losing_in c.its_loss s.rows n).1 };
        lower = omega (arith, o.bounded c m);
        stood = λ r n. (losing_in c.its_loss s.rows n).0;
        stands = λ r n less. losing_has c.its_loss s.rows o.order n less;
        none = λ e. absurd (omega arith);
      }

      go : Dec (most < length s.rows) → Limited s (at_most most s.rows s.bound)
      go (no few) = rw (at_most_all most s.rows s.bound (omega arith)) (record { ordered = o; lower = le_refl s.bound; stood = λ r m. m; stands = λ r m less. m; none = λ e. (e, refl) })
      go (yes more) =
          let e = take_losing most s.rows o.order more in
          let some : 1 ≤ length (losing_less (get_or s.rows most (stair 0 0 [])).its_loss s.rows) = omega (arith, ap length e, length-take most s.rows) in
          rw (at_most_cut most s.rows s.bound more, e) (cut (get_or s.rows most (stair 0 0 [])) (cut_in most s.rows o.order more) some)

  module _ (b q l : ℕ) (ts : List Seconds) (s : Stairs) (o : Ordered s) where
    -- a plan enters, or what stands covers it as far as it fits and loses less than the bound
    pub enter_either : (P : Stairs → Type 0) → ((after : Stairs) → Entry b q l ts s after → P after) → (Refused b q l s → P s) → P (enter most b q l ts s)
    enter_either P enters stays = go (dec_le q b) (dec_lt l s.bound) (covered q l s.rows) refl
      where
        go : Dec (q ≤ b) → Dec (l < s.bound) → (t : Bool) → covered q l s.rows ≡ t → P (enter most b q l ts s)
        go (no over) d t e = rw (enter_over most b q l ts s (omega arith)) (stays (λ fit low. absurd (over fit)))
        go (yes fits) (no high) t e = rw (enter_bound most b q l ts s (omega arith)) (stays (λ fit low. absurd (high low)))
        go (yes fits) (yes less) true e = rw (enter_covered most b q l ts s e) (stays (λ fit low. covering q l s.rows e))
        go (yes fits) (yes less) false e = rw (enter_new most b q l ts s fits less e) (enters (at_most most (among q l ts s.rows) s.bound) entry)
          where
            below : (r : Stair) → Memᴰ r (among q l ts s.rows) → r.its_loss < s.bound
            below r m = ⊎_elim (λ d. rw d less) (o.bounded r) (among_in q l ts s.rows o.order m)

            in_order : Ordered (entered q l ts s)
            in_order = record { order = among_staircase q l ts s.rows o.order e; bounded = below }

            entry : Entry b q l ts s (at_most most (among q l ts s.rows) s.bound)
            entry = record { fits = fits; less = less; new = e; ordered = in_order; limited = limited (entered q l ts s) in_order }

refused_kept : (most b q l : ℕ) (ts : List Seconds) (s : Stairs) → Refused b q l s → enter most b q l ts s ≡ s
refused_kept most b q l ts s h = go (dec_le q b) (dec_lt l s.bound)
  where
    go : Dec (q ≤ b) → Dec (l < s.bound) → enter most b q l ts s ≡ s
    go (no over) d = enter_over most b q l ts s (omega arith)
    go (yes fits) (no high) = enter_bound most b q l ts s (omega arith)
    go (yes fits) (yes less) = let c = h fits less in enter_covered most b q l ts s (covers q l s.rows c.stands c.needs c.loses)

module _ (most : ℕ) (pos : 1 ≤ most) (b q l : ℕ) (ts : List Seconds) (s : Stairs) (o : Ordered s) where
  enter_ordered : Ordered (enter most b q l ts s)
  enter_ordered = enter_either most pos b q l ts s o Ordered (λ after e. e.limited.ordered) (λ k. o)

  -- the plan itself covers what has no less need and no less loss, as far as that loses less than the bound
  by_new : {after : Stairs} → Limited (entered q l ts s) after → {q' l' : ℕ} → q ≤ q' → l ≤ l' → l' < after.bound → Covering q' l' after.rows
  by_new few needs loses low = record { row = stair q l ts; stands = few.stands (stair q l ts) (among_new q l ts s.rows o.order) (omega arith); needs = needs; loses = loses }

  refused_after : Refused b q l (enter most b q l ts s)
  refused_after = enter_either most pos b q l ts s o (Refused b q l) (λ after e fit low. by_new e.limited (le_refl q) (le_refl l) low) (λ k. k)

  refused_stays : {q' l' : ℕ} → Refused b q' l' s → Refused b q' l' (enter most b q l ts s)
  refused_stays {q'} {l'} h = enter_either most pos b q l ts s o (Refused b q' l') still (λ k. h)
    where
      still : (after : Stairs) → Entry b q l ts s after → Refused b q' l' after
      still after e fit low =
          let few = e.limited in
          let c = h fit (omega (arith, few.lower)) in
          ⊎_elim
          (λ m. record { row = c.row; stands = few.stands c.row m (omega (arith, c.loses)); needs = c.needs; loses = c.loses })
          (λ k. by_new few (le_trans k.1 c.needs) (le_trans k.0 c.loses) low)
          (among_has q l ts s.rows o.order c.stands)

-- a plan once visited takes no more part, whatever else is visited
pub enter_absorbs : (most b : ℕ) → 1 ≤ most → Absorbs Ordered (enter most b)
enter_absorbs most b pos = record {
  good = λ q l ts s o. enter_ordered most pos b q l ts s o;
  after = λ q l ts s o us. refused_kept most b q l us (enter most b q l ts s) (refused_after most pos b q l ts s o);
  stays = λ q l q' l' ts s o h us. refused_kept most b q l us (enter most b q' l' ts s) (refused_stays most pos b q' l' ts s o (subst (Refused b q l) (h []) (refused_after most pos b q l [] s o)));
}

pub stairs_absorb : (b : ℕ) → Absorbs Ordered (enter most b)
stairs_absorb b = enter_absorbs most b (omega arith)
