-- A whole plan, and the best so far, as clauses see them. No public contract cites this.
-- Assumes nothing.
use Rattle.std.specs.Prelude.{◌≡◌, ◌≤◌, List, ℕ, Option, None, Some, length, take}
use Rattle.std.proofs.Common.{ap, arith, length-append}
use Rattle.std.proofs.lemmas.List.{length-take, length-replicate}
use Rattle.model.specs.Model.{seconds, padded}
use Rattle.model.specs.declared.Seconds.{Seconds}
use Rattle.model.specs.declared.PagesPerHour.{PagesPerHour}
use Rattle.choose_offer.specs.Found.{Found, nothing, found}

-- A plan's need rounded up, its loss, and its periods.
pub record KeptPlan : Type 0 where
  pub need : PagesPerHour
  pub loss : ℕ
  pub periods : List Seconds

-- What is found, where a plan or none is kept.
abbrev pub found_in : Option KeptPlan → Found
found_in None = nothing
found_in (Some plan) = found plan.need.0 plan.loss plan.periods

-- so many come first of eight, and zeros follow
pub kept_length : (n : ℕ) (ps : List Seconds) → n ≤ 8 → ps ≡ padded (seconds 0) (take n ps) → length (take n ps) ≡ n
kept_length n ps few zeros =
    let size = ap length zeros in
    omega (arith, length-take n ps, simp (length-append, length-replicate) at size)
