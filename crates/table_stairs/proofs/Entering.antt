-- One row takes the place of others: what stands then is the list that the update makes.
-- Assumes nothing.
use lib.Seq.{take-take}
use mathlib.Core.Path.{ap₂, ◌≡◌, sym, ◌∙◌, ap}
use mathlib.Core.List.{List, ◌∷◌, ◌++◌}
use Prim.Native.Nat.{ℕ, ◌+◌, ◌-◌, ◌≤◌}
use native.Mathlib.Omega.{arith}
use lib.ListN.{length, take, drop, set, length-drop}
use lib.Seq.{paste, take-set-lt, append_snoc, length-take-le}
use Rattle.std.proofs.lemmas.List.{set-append_left, take_more_set, drop-take}
use Rattle.std.proofs.lemmas.List.Edits.{take-paste}
use Rattle.table_stairs.specs.Ordered.{replaced}
use Rattle.table_stairs.specs.Stairs.{Stair}

-- the rows are a part of those that stand
replaced_part : (rows : List Stair) (i j end : ℕ) (row : Stair) → i ≤ j → j ≤ end → replaced i j row (take end rows) ≡ take i rows ++ (row ∷ take (end - j) (drop j rows))
replaced_part rows i j end row order upto =
    let e : end ≡ j + (end - j) = omega arith in
    ap₂ (λ (xs ys : List Stair). xs ++ (row ∷ ys)) (take-take i end rows (omega arith)) (ap (λ (k : ℕ). drop j (take k rows)) e ∙ drop-take j (end - j) rows)

-- a row is set in its place, and those behind stand next to it
pub pasted : (rows : List Stair) (i j end : ℕ) (row : Stair) → i ≤ j → j ≤ end → end ≤ length rows → i + 1 + (end - j) ≤ length rows →
    take (i + 1 + (end - j)) (set (paste rows (i + 1) (drop j rows) (end - j)) i row) ≡ replaced i j row (take end rows)
pasted rows i j end row order upto bound room =
    let m = end - j in
    let front : length (take (i + 1) rows) ≡ i + 1 = length-take-le (i + 1) rows (omega arith) in
    let behind = take m (drop j rows) in
    take-set-lt (i + 1 + m) (paste rows (i + 1) (drop j rows) m) i row (omega arith)
    ∙ ap (λ (rs : List Stair). set rs i row) (take-paste rows (i + 1) (drop j rows) m (omega arith) (omega (arith, length-drop j rows)))
    ∙ set-append_left (take (i + 1) rows) behind i row (omega arith)
    ∙ ap (λ (rs : List Stair). rs ++ behind) (sym (take-set-lt (i + 1) rows i row (omega arith)) ∙ take_more_set rows i row (omega arith))
    ∙ append_snoc (take i rows) row behind
    ∙ sym (replaced_part rows i j end row order upto)
