-- What writing a profile answers, and what it leaves of a lent buffer (document 01, Packing and Refusal numbers): the bytes
-- are those of codec's layout. Cited by public contracts. Assumes nothing.
use Rattle.std.specs.Prelude.{Result, List, ℕ, length, ltb}
use Rattle.model.specs.declared.Profile.{Profile}
use Rattle.model.specs.declared.Refusal.{Refusal}
use Rattle.model.specs.declared.Refusal.TheVariants.{Room}
use Rattle.model.specs.Model.{sound, refuse_if, PutsFront}
use Rattle.codec.specs.Layout.{profile_length, profile_bytes}

-- What `write_profile` may answer, and leave of a buffer that held `old`: the profile's own refusal, else 11 with the bytes needed, else
-- the profile's bytes and their number (Packing; Refusal numbers).
abbrev pub Writes : Profile → List ℕ → Result ℕ Refusal → List ℕ → Type 0
Writes p old = PutsFront p (refuse_if (ltb (length old) (profile_length p.n)) (Room (profile_length p.n)) sound) (profile_length p.n) (profile_bytes p) old
