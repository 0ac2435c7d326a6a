-- The numbers that a loop goes through by a fixed step: the periods that a job may try, and the multipliers of a zone. No public
-- contract cites this. Assumes nothing.
use Rattle.std.specs.Prelude.{List, [], ◌∷◌, ℕ, zero, suc, ◌+◌, ◌-◌, ◌/◌}

-- `k` numbers from `t` on, each what `next` makes of the one before it.
unfoldable pub in_turn : (ℕ → ℕ) → ℕ → ℕ → List ℕ
in_turn next t zero = []
in_turn next t (suc k) = t ∷ in_turn next (next t) k

-- Each `step` above the one before it, and each `step` below it.
abbrev pub climb : ℕ → ℕ → ℕ → List ℕ
climb step t k = in_turn (λ u. u + step) t k

abbrev pub descend : ℕ → ℕ → ℕ → List ℕ
descend step t k = in_turn (λ u. u - step) t k

-- The numbers t, t + step, t + 2 * step .. up to `last`.
unfoldable pub climb_to : ℕ → ℕ → ℕ → List ℕ
climb_to step last t = climb step t ((last + step - t) / step)

-- The numbers t, t - step, t - 2 * step .. down to `first`.
unfoldable pub descend_to : ℕ → ℕ → ℕ → List ℕ
descend_to step first t = descend step t ((t + step - first) / step)
