-- What a sound header tells: each test that did not hold is a fact about the bytes.
-- Assumes nothing.
use mathlib.Core.Path.{◌≡◌}
use mathlib.Core.List.{List}
use Prim.Native.Nat.{ℕ, ◌≤◌}
use native.Mathlib.Omega.{arith}
use lib.ListN.{length}
use lib.Dec.{eqb}
use borrow.Author.Tests.{eqb-true, eqb-false, ltb-false, not-false}
use Rattle.model.specs.Model.{sound}
use Rattle.model.proofs.Verdicts.{test_passed, neither}
use Rattle.codec.specs.Layout.{profile_length}
use Rattle.profile_read.specs.Reading.{count_of, judge_header}
use Rattle.profile_read.specs.Fields.{edition_of}

pub record SoundHeader (bytes : List ℕ) : Type 0 where
  pub edition : edition_of bytes ≡ 1
  pub n_from : 1 ≤ count_of bytes
  pub n_to : count_of bytes ≤ 8
  pub size : length bytes ≡ profile_length (count_of bytes)

pub sound_header : (bytes : List ℕ) → judge_header bytes ≡ sound → SoundHeader bytes
unfolding judge_header
sound_header bytes e =
    let a = test_passed _ _ _ e in
    let b = test_passed _ _ _ a.1 in
    let d = test_passed _ _ _ b.1 in
    let f = neither (eqb (count_of bytes) 0) d.0 in
    let g = test_passed _ _ _ d.1 in
    let n_pos : (count_of bytes ≡ 0 → ⊥) = eqb-false _ _ f.0 in
    record { edition = eqb-true _ _ (not-false _ b.0); n_from = omega arith; n_to = ltb-false _ _ f.1; size = eqb-true _ _ (not-false _ g.0) }

-- and what the rest of reading asks for
module _ (bytes : List ℕ) (e : judge_header bytes ≡ sound) where
  pub some_byte : 1 ≤ length bytes
  some_byte = let h = sound_header bytes e in omega arith

  pub eight_jobs : count_of bytes ≤ 8
  eight_jobs = (sound_header bytes e).n_to

  pub all_records : profile_length (count_of bytes) ≤ length bytes
  all_records = let h = sound_header bytes e in omega arith
