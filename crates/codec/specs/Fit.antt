-- Fields that fit their widths, and bytes: what theorems on packing, on reading back and on the one table are stated with. An inner
-- function asks for such fields; no contract of an entry point cites this. Assumes nothing.
use Rattle.std.specs.Prelude.{◌≡◌, List, [], ◌∷◌, ℕ, ◌^◌, ◌≤◌, ◌<◌, length, sum}
use Rattle.std.specs.List.{All}
use Rattle.codec.specs.Layout.{byte_widths}

-- Widths of fields that fill a word of 64 bits, each at least a bit and at most 32.
abbrev pub FillsWord : List ℕ → Type 0
FillsWord ws = (sum ws ≡ 64) × All (λ w. (1 ≤ w) × (w ≤ 32)) ws

-- As many fields as widths, each within its width.
abbrev pub Within : List ℕ → List ℕ → Type 0
Within [] [] = Unit {0}
Within [] (f ∷ fs) = ⊥
Within (w ∷ ws) [] = ⊥
Within (w ∷ ws) (f ∷ fs) = (f < 2 ^ w) × Within ws fs

-- Each of these is a byte.
abbrev pub Bytes : List ℕ → Type 0
Bytes bytes = Within (byte_widths (length bytes)) bytes
