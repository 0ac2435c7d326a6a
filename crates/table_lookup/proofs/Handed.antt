-- What a lookup hands back of the lent table: nothing beside a refusal, else the row of the number found, which lies within the table.
-- Assumes nothing.
use mathlib.Core.Path.{◌≡◌, refl, ap}
use mathlib.Core.List.{List, []}
use Prim.Native.Nat.{ℕ, ◌+◌, ◌*◌, ◌-◌, ◌≤◌}
use native.Mathlib.Omega.{arith}
use lib.ListN.{length, take, drop}
use Rattle.std.specs.Prelude.{Ok, Err}
use Rattle.model.specs.declared.PagesPerHour.{PagesPerHour}
use Rattle.model.specs.declared.Profile.{Profile}
use Rattle.model.specs.declared.Refusal.{Refusal}
use Rattle.model.specs.Model.{if_sound}
use Rattle.table_lookup.specs.Lookup.{Locates, place_found, LooksUp}
use Rattle.table_lookup.proofs.OneOutcome.{sound_answers, sound_number}

module _ {p : Profile} {bytes : List ℕ} {b : PagesPerHour} where
  pub none_handed : {refusal : Refusal} → Locates p bytes b (Err refusal) → (lies : ℕ × ℕ) → LooksUp p bytes lies b [] (lies.0, 0 + lies.1)
  unfolding if_sound place_found
  none_handed {refusal} located lies =
      let place : 0 + lies.1 ≡ lies.1 + 16 * 0 = omega arith in
      record { found = Err refusal; located = located; holds = refl; place = ap (λ (n : ℕ). (lies.0, n)) place }

  module _ {row : ℕ} (located : Locates p bytes b (Ok row)) where
    pub row_within : 16 * row ≤ length bytes
    row_within = omega (arith, (sound_answers p bytes b located refl).there, sound_number p bytes b located refl)

    pub row_handed : (lies : ℕ × ℕ) →
        LooksUp p bytes lies b (take (16 * row - (16 * row - 16)) (drop (16 * row - 16) bytes)) (lies.0, 16 * row - 16 + lies.1)
    unfolding if_sound place_found
    row_handed lies =
        let some = sound_number p bytes b located refl in
        let from : 16 * row - 16 ≡ 16 * (row - 1) = omega arith in
        let sixteen : 16 * row - (16 * row - 16) ≡ 16 = omega arith in
        let place : 16 * row - 16 + lies.1 ≡ lies.1 + 16 * (row - 1) = omega arith in
        record { found = Ok row; located = located; holds = rw (sixteen, from) refl; place = ap (λ (n : ℕ). (lies.0, n)) place }
