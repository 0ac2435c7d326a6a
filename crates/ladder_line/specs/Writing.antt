-- What the functions that put a line do to a text. Contracts of inner functions cite this, and those of no entry point.
-- Assumes nothing.
use Rattle.std.specs.Prelude.{◌≡◌, List, ℕ, ◌+◌, ◌≤◌, ◌<◌, length, get_or}
use Rattle.std.proofs.lemmas.List.Edits.{sets}
use Rattle.model.specs.declared.Seconds.{Seconds}
use Rattle.model.specs.Model.{seconds}

-- Bytes put from place `at` on, with room for them, and the place after them.
pub record Puts (old : List ℕ) (at : ℕ) (bytes : List ℕ) (r : ℕ) (new : List ℕ) : Type 0 where
  pub place : r ≡ at + length bytes
  pub room : r ≤ length old
  pub text : new ≡ sets old at bytes

-- At most eight periods, each of at most four digits.
pub record Printable (periods : List Seconds) (n : ℕ) : Type 0 where
  pub few : n ≤ 8
  pub each : (i : ℕ) → i < n → (get_or periods i (seconds 0)).0 ≤ 3600
