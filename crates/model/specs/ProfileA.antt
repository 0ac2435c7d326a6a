-- The bytes of profile A, which document 01 works with: the case list and what is computed of reading, writing and the ladder's text
-- begin with them. No contract cites this. Assumes nothing.
use Rattle.std.specs.Prelude.{List, [], ◌∷◌, ℕ}

-- The header, and eight bytes for each of three jobs.
abbrev pub bytes_a : List ℕ
bytes_a =
    0x13
    ∷ 0x01 ∷ 0x40 ∷ 0x19 ∷ 0x00 ∷ 0x12 ∷ 0x00 ∷ 0x04 ∷ 0x10
    ∷ 0x02 ∷ 0xB0 ∷ 0x4A ∷ 0x00 ∷ 0x24 ∷ 0x00 ∷ 0x08 ∷ 0x10
    ∷ 0x02 ∷ 0xD0 ∷ 0x64 ∷ 0x00 ∷ 0x48 ∷ 0x00 ∷ 0x10 ∷ 0x10
    ∷ []
