-- Bit-packed fields, most significant bit first (document 01, Packing): a list of widths says how a number is cut into fields.
-- Cited by public contracts, through Layout. Assumes nothing.
use Rattle.std.specs.Prelude.{List, [], ◌∷◌, ℕ, ◌+◌, ◌*◌, ◌/◌, ◌%◌, ◌^◌}

-- The bits of some fields together.
unfoldable pub bits : List ℕ → ℕ
bits [] = 0
bits (w ∷ ws) = w + bits ws

-- Fields side by side as one number: each stands above the bits of those after it.
unfoldable pub pack : List ℕ → List ℕ → ℕ
pack [] fs = 0
pack (w ∷ ws) [] = 0
pack (w ∷ ws) (f ∷ fs) = f * 2 ^ bits ws + pack ws fs

-- A number cut into fields.
unfoldable pub unpack : List ℕ → ℕ → List ℕ
unpack [] x = []
unpack (w ∷ ws) x = x / 2 ^ bits ws ∷ unpack ws (x % 2 ^ bits ws)

-- The same bits in fields of other widths.
unfoldable pub recut : List ℕ → List ℕ → List ℕ → List ℕ
recut ws vs fs = unpack vs (pack ws fs)
