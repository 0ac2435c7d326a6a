-- The law of the update for choosing: a plan once visited takes no more part, whatever else is visited.
-- Assumes nothing.
use Rattle.std.specs.Prelude.{◌≡◌, refl, ℕ, Bool, true, false, cond, ◌&&◌, List, [], leb}
use Rattle.std.proofs.Common.{arith, subst}
use Rattle.std.proofs.lemmas.Bool.Decides.{nat_tests}
use Rattle.model.specs.declared.Seconds.{Seconds}
use Rattle.walk.specs.Laws.{Unmoved, Absorbs}
use Rattle.choose_offer.specs.Found.{Found, nothing, found, beats, pick}

-- Whatever is found is good.
abbrev pub AnyFound : Found → Type 0
AnyFound had = Unit {0}

-- Whatever a plan's periods are, it may be kept.
abbrev pub AnySeconds : Seconds → Type 0
AnySeconds t = Unit {0}

-- Whether a plan of this need and loss is taken.
abbrev taken : ℕ → ℕ → ℕ → Found → Bool
taken b q l had = leb q b && beats q l had

module _ (b q l : ℕ) where
  -- a plan is not taken in its own place ..
  taken_again : (ts : List Seconds) → taken b q l (found q l ts) ≡ false
  unfolding beats
  taken_again ts = grind (arith, nat_tests)

  -- .. nor in that of one that took the place of what it was not taken for ..
  taken_later : (q' l' : ℕ) (ts : List Seconds) (had : Found) → taken b q' l' had ≡ true → taken b q l had ≡ false → taken b q l (found q' l' ts) ≡ false
  unfolding beats
  taken_later q' l' ts nothing other not = grind (arith, nat_tests)
  taken_later q' l' ts (found p m us) other not = grind (arith, nat_tests)

  -- .. nor where it changes nothing, whatever its periods
  not_taken : (had : Found) → Unmoved (pick b) had q l → taken b q l had ≡ false
  unfolding pick
  not_taken had same = go (taken b q l had) refl
    where
      go : (t : Bool) → taken b q l had ≡ t → taken b q l had ≡ false
      go true is = subst (λ (f : Found). taken b q l f ≡ false) (rw is at same []) (taken_again [])
      go false is = is

  -- where it is not taken, it changes nothing
  unchanged : (ts : List Seconds) (had : Found) → taken b q l had ≡ false → pick b q l ts had ≡ had
  unfolding pick
  unchanged ts had not = rw not

  -- it takes the place of what is had, or that stays
  either : (P : Found → Type 0) (ts : List Seconds) (had : Found) → (taken b q l had ≡ true → P (found q l ts)) → (taken b q l had ≡ false → P had) → P (pick b q l ts had)
  unfolding pick
  either P ts had takes stays = go (taken b q l had) refl
    where
      go : (t : Bool) → taken b q l had ≡ t → P (cond t (found q l ts) had)
      go true is = takes is
      go false is = stays is

pub pick_absorbs : (b : ℕ) → Absorbs AnyFound (pick b)
pick_absorbs b = record {
  good = λ q l ts had g. tt;
  after = λ q l ts had g us.
      unchanged b q l us (pick b q l ts had) (either b q l (λ f. taken b q l f ≡ false) ts had (λ is. taken_again b q l ts) (λ not. not));
  stays = λ q l q' l' ts had g same us.
      let not = not_taken b q l had same in
      unchanged b q l us (pick b q' l' ts had) (either b q' l' (λ f. taken b q l f ≡ false) ts had (λ is. taken_later b q l q' l' ts had is not) (λ is. not));
}
