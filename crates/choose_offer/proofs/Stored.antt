-- How a plan takes the place of the best: what is found with it is what the update makes of what was found before.
-- Assumes nothing.
use mathlib.Core.Path.{◌≡◌, refl, sym}
use mathlib.Core.List.{List}
use Prim.Native.Nat.{ℕ, ◌≤◌, ◌<◌}
use Rattle.std.specs.Prelude.{Option, None, Some}
use Rattle.model.specs.declared.Seconds.{Seconds}
use Rattle.model.specs.declared.PagesPerHour.{PagesPerHour}
use Rattle.model.specs.Model.{pages_per_hour}
use Rattle.choose_offer.specs.Found.{pick}
use Rattle.choose_offer.specs.Plan.{KeptPlan, found_in}
use Rattle.choose_offer.proofs.Updates.{pick_first, pick_less_loss, pick_less_need}

-- a plan of need q and loss l, with periods ts, is offered
module _ {b : PagesPerHour} {q l : ℕ} {ts : List Seconds} (fits : q ≤ b.0) where
  -- and is kept
  module _ {plan : KeptPlan} (is : plan ≡ record { need = pages_per_hour q; loss = l; periods = ts }) where
    -- it is the first, or loses less than the best
    pub offer_less_loss : (best : Option KeptPlan) → ((had : KeptPlan) → best ≡ Some had → l < had.loss) → found_in (Some plan) ≡ pick b.0 q l ts (found_in best)
    offer_less_loss None less = rw is (sym (pick_first b.0 q l ts fits))
    offer_less_loss (Some had) less = rw is (sym (pick_less_loss b.0 q l ts had.need.0 had.loss had.periods fits (less had refl)))

    -- it loses as much and needs less
    pub offer_less_need : (had : KeptPlan) → l ≡ had.loss → q < had.need.0 → found_in (Some plan) ≡ pick b.0 q l ts (found_in (Some had))
    offer_less_need had same less = rw is (sym (pick_less_need b.0 q l ts had.need.0 had.loss had.periods fits same less))

  -- the same, where what is kept is told number by number
  module _ {plan : KeptPlan} (periods : plan.periods ≡ ts) (need : plan.need.0 ≡ q) (loss : plan.loss ≡ l) where
    told : plan ≡ record { need = pages_per_hour q; loss = l; periods = ts }
    told = λ i. record { need = pages_per_hour (need i); loss = loss i; periods = periods i }

    pub kept_less_loss : (best : Option KeptPlan) → ((had : KeptPlan) → best ≡ Some had → l < had.loss) → found_in (Some plan) ≡ pick b.0 q l ts (found_in best)
    kept_less_loss = offer_less_loss told

    pub kept_less_need : (had : KeptPlan) → l ≡ had.loss → q < had.need.0 → found_in (Some plan) ≡ pick b.0 q l ts (found_in (Some had))
    kept_less_need = offer_less_need told
