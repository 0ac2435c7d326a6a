-- What the verdict on a lookup tells: the profile's own refusal, then the table's checks in their order; each goes with what is found.
-- Assumes nothing.
use mathlib.Core.Path.{◌≡◌, refl, sym}
use mathlib.Core.List.{List}
use Prim.Native.Nat.{ℕ, ◌≤◌, ◌<◌}
use Rattle.std.specs.Prelude.{Some, None, Result, Ok, Err}
use Rattle.model.specs.declared.PagesPerHour.{PagesPerHour}
use Rattle.model.specs.declared.Profile.{Profile}
use Rattle.model.specs.declared.Refusal.{Refusal}
use Rattle.model.specs.declared.Refusal.TheVariants.{Budget, Row}
use Rattle.model.specs.Model.{verdict_in, verdict_of}
use Rattle.model.specs.Valid.{Valid}
use Rattle.model.proofs.ProfileFirst.{own_refused, past_profile}
use Rattle.model.proofs.Validity.{valid_sound}
use Rattle.table_row.specs.Table.{start_at}
use Rattle.table_check.specs.Formed.{WholeRows}
use Rattle.table_check.specs.Checks.{Checked}
use Rattle.table_lookup.specs.Lookup.{Finds, wrong_length, below_first, JudgesLookup}
use Rattle.table_lookup.proofs.Computed.{formed, bad_named, from_first}

module _ {p : Profile} {bytes : List ℕ} {b : PagesPerHour} where
  pub refused_judged : {refusal : Refusal} → Err refusal ≡ verdict_of p → JudgesLookup p bytes b (Err refusal)
  unfolding verdict_in
  refused_judged {refusal} e = record { found = Err refusal; located = own_refused (sym e); verdict = refl }

  module _ (v : Valid p) where
    found_judged : {r : Result ℕ Refusal} → Finds p bytes b r → JudgesLookup p bytes b (verdict_in r)
    found_judged {r} f = record { found = r; located = past_profile (valid_sound p v) f; verdict = refl }

    pub length_judged : (WholeRows bytes → ⊥) → JudgesLookup p bytes b (Err (Row 0))
    unfolding verdict_in
    length_judged odd = found_judged (wrong_length odd)

    module _ (whole : WholeRows bytes) where
      pub row_judged : {k : ℕ} → Checked p bytes (Some k) → JudgesLookup p bytes b (Err (Row k))
      unfolding verdict_in
      row_judged checked = found_judged (bad_named checked refl whole)

      module _ (checked : Checked p bytes None) where
        pub budget_judged : {start : PagesPerHour} → start ≡ start_at bytes 0 → b.0 < start.0 → JudgesLookup p bytes b (Err (Budget start))
        unfolding verdict_in
        budget_judged e less = rw e (found_judged (below_first (formed whole checked refl) (rw e at less)))

        pub sound_judged : (start_at bytes 0).0 ≤ b.0 → JudgesLookup p bytes b (Ok tt)
        unfolding verdict_in
        sound_judged within = found_judged (from_first (formed whole checked refl) within)
