-- Reading and then building, as `prepare` does: either refusal is handed on, and past both the rows are told. Assumes nothing.
use mathlib.Core.Path.{◌≡◌, refl}
use mathlib.Core.List.{List}
use Prim.Native.Nat.{ℕ, ◌*◌}
use lib.ListN.{length}
use Rattle.std.specs.Prelude.{Result, Ok, Err}
use Rattle.model.specs.declared.Profile.{Profile}
use Rattle.model.specs.declared.Refusal.{Refusal}
use Rattle.model.specs.declared.Refusal.TheVariants.{JobCount}
use Rattle.model.specs.Model.{refuse_if, or_else, verdict_of, row_size}
use Rattle.model.proofs.FrontPut.{own_alone}
use Rattle.profile_read.specs.Reading.{no_profile, Reads}
use Rattle.table.specs.Table.{Built}
use Rattle.table.proofs.Outcome.{built as table_built}
use Rattle.ladder_listing.specs.Listing.{unread, unbuilt, built, Prepares}

module _ {input old : List ℕ} (room : length old ≡ row_size * 4096) where
  pub unread_prepared : {refusal : Refusal} → Reads input (Err refusal) → Prepares input old (Err refusal) old
  unread_prepared read = record { outcome = unread read; room = room; kept = room }

  module _ {new : List ℕ} (kept : length new ≡ row_size * 4096) {p : Profile} (read : Reads input (Ok p)) where
    pub unbuilt_prepared : {refusal : Refusal} → Built p old (Err refusal) new → Prepares input old (Err refusal) new
    unbuilt_prepared refused = record { outcome = unbuilt read refused; room = room; kept = kept }

    pub built_prepared : {rows : ℕ} → Built p old (Ok rows) new → Prepares input old (Ok (record { profile = p; rows = rows })) new
    built_prepared done = record { outcome = built read done; room = room; kept = kept }

-- the profile of zeros is refused, and nothing is built of it
zeros_refused : verdict_of no_profile ≡ Err JobCount
unfolding verdict_of refuse_if
zeros_refused = refl

pub zeros_build : {A : Type 0} (p : Profile) (next : Result A Refusal) → p ≡ no_profile → or_else (verdict_of p) next ≡ Err JobCount
unfolding or_else
zeros_build p next e = rw (e, zeros_refused) refl

pub none_built : (p : Profile) (old : List ℕ) → p ≡ no_profile → Built p old (Err JobCount) old
none_built p old e = rw e (table_built no_profile old (own_alone no_profile _ _ _ old zeros_refused))
