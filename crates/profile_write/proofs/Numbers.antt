-- The layout, tried on document 01's own bytes: profile A both ways, and with other jobs standing beyond its three.
-- Each is computed by the checker. Assumes nothing.
use mathlib.Core.Path.{◌≡◌, refl, ◌∙◌, ap}
use mathlib.Core.List.{List, [], ◌∷◌, flat_map}
use Prim.Native.Nat.{ℕ}
use lib.ListN.{length}
use lib.Dec.{ltb}
use Rattle.std.specs.Prelude.{Result, Ok, Err}
use Rattle.model.specs.declared.Job.{Job}
use Rattle.model.specs.declared.Profile.{Profile}
use Rattle.model.specs.declared.Refusal.{Refusal}
use Rattle.model.specs.declared.Refusal.TheVariants.{Room}
use Rattle.model.specs.Model.{sound, seconds, no_job, entries, refuse_if, or_else, first_refused, judge_interval_and_stiffness, judge_job, verdict_of}
use Rattle.model.specs.ProfileA.{bytes_a}
use Rattle.codec.specs.Packing.{bits, pack, unpack, recut}
use Rattle.codec.specs.Layout.{record_bytes, profile_bytes}
use Rattle.profile_read.specs.Reading.{header_of, records_in, judge_record, judge_header, verdict_of_bytes, values_of}
use Rattle.profile_write.specs.Writing.{Writes}

job : ℕ → ℕ → ℕ → ℕ → ℕ → Job
job lo hi d g w = record { lo = seconds lo; hi = seconds hi; «data» = d; metadata = g; stiffness = w }

-- A's three jobs, then five others
with_beyond : Job → Profile
with_beyond j = record { n = 3; jobs = job 20 25 9 1 1 ∷ job 43 74 18 2 1 ∷ job 45 100 36 4 1 ∷ j ∷ j ∷ j ∷ j ∷ j ∷ [] }

accepted : verdict_of_bytes bytes_a ≡ sound
unfolding verdict_of_bytes judge_header header_of recut pack unpack bits first_refused records_in judge_record judge_interval_and_stiffness or_else refuse_if
accepted = refl

read : values_of bytes_a ≡ with_beyond no_job
unfolding header_of recut pack unpack bits records_in with_beyond job
read = refl

written : (j : Job) → profile_bytes (with_beyond j) ≡ bytes_a
unfolding profile_bytes record_bytes flat_map recut pack unpack bits entries with_beyond job
written j = refl

-- 25 bytes are enough, and 24 are not
module _ (j : Job) (old : List ℕ) {r : Result ℕ Refusal} {new : List ℕ} (writes : Writes (with_beyond j) old r new) where
  in_room : {size : ℕ} → length old ≡ size → r ≡ or_else (verdict_of (with_beyond j)) (or_else (refuse_if (ltb size 25) (Room 25) sound) (Ok 25))
  unfolding with_beyond
  in_room size = writes.answer ∙ ap (λ (k : ℕ). or_else (verdict_of (with_beyond j)) (or_else (refuse_if (ltb k 25) (Room 25) sound) (Ok 25))) size

  room_enough : length old ≡ 25 → r ≡ Ok 25
  unfolding verdict_of first_refused judge_job judge_interval_and_stiffness or_else refuse_if entries with_beyond job
  room_enough = in_room

  room_too_small : length old ≡ 24 → r ≡ Err (Room 25)
  unfolding verdict_of first_refused judge_job judge_interval_and_stiffness or_else refuse_if entries with_beyond job
  room_too_small = in_room
