-- Bytes one after the other: each is a field of eight bits, and a part of them is bytes again.
-- Assumes nothing.
use mathlib.Core.Path.{subst}
use mathlib.Core.List.{List, [], ◌∷◌}
use Prim.Native.Nat.{ℕ, zero, suc, ◌+◌}
use native.Mathlib.Nat.{zero-add, suc-add}
use lib.ListN.{take, drop}
use Rattle.codec.specs.Layout.{byte_widths}
use Rattle.codec.specs.Fit.{Within}

pub within_split : (k m : ℕ) (l : List ℕ) → Within (byte_widths (k + m)) l → Within (byte_widths k) (take k l) × Within (byte_widths m) (drop k l)
within_split zero m l h = (tt, subst (λ (n : ℕ). Within (byte_widths n) l) (zero-add m) h)
within_split (suc k) m [] h = absurd (subst (λ (n : ℕ). Within (byte_widths n) []) (suc-add k m) h)
within_split (suc k) m (b ∷ l) h =
    let g : Within (byte_widths (suc (k + m))) (b ∷ l) = subst (λ (n : ℕ). Within (byte_widths n) (b ∷ l)) (suc-add k m) h in
    let rest = within_split k m l g.1 in
    ((g.0, rest.0), rest.1)
