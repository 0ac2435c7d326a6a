-- A word and its fields, one field a turn, over any widths that fill a word: the step of the loop that reads, with the bits of the fields
-- still to come at hand, and of the loop that writes. Assumes nothing.
use mathlib.Core.Path.{◌≡◌, refl, sym, ◌∙◌, ap, subst}
use mathlib.Core.Logic.{◌⊎◌, ⊎_elim}
use mathlib.Core.List.{List, [], ◌∷◌, ◌++◌, append-nil}
use Prim.Native.Nat.{ℕ, suc, ◌+◌, ◌*◌, ◌-◌, ◌/◌, ◌%◌, ◌^◌, ◌≤◌, ◌<◌}
use native.Mathlib.Nat.{one-mul, add-mul, mul_assoc, mod-lt, mod-eq_of_lt, lt_of_lt_of_le}
use Rattle.std.proofs.Math.Nat.{le-mul_of_pos_right}
use Rattle.std.specs.List.{sum}
use Rattle.std.proofs.lemmas.List.Sums.{sum_by-cons}
use native.Mathlib.Numerals.{add-one}
use native.Mathlib.Omega.{arith}
use lib.Pow.{pow_pos, pow_mono, pow-add, shr_lt, shl_exact}
use lib.ListN.{length, get_or, take, drop, set, length-set}
use lib.Seq.{drop-cons, take-suc-set, append_snoc}
use Rattle.std.proofs.lemmas.List.{take_all, drop_all}
use Rattle.codec.specs.Packing.{bits, pack, unpack}
use Rattle.codec.specs.Fit.{Within, FillsWord}
use Rattle.codec.proofs.Packing.{pack_lt}

sum-bits : (ws : List ℕ) → sum ws ≡ bits ws
unfolding bits
sum-bits [] = refl
sum-bits (w ∷ ws) = sum_by-cons (λ n. n) w ws ∙ ap (λ (n : ℕ). w + n) (sum-bits ws)

word_filled : (ws : List ℕ) → FillsWord ws → bits ws ≡ 64
word_filled ws f = sym (sum-bits ws) ∙ f.0

-- reading, before the turn at the k-th width: the k fields before stand, and what is left of the word holds the others
pub record Cut (ws : List ℕ) (word : ℕ) (fields : List ℕ) (left after k : ℕ) : Type 0 where
  pub room : length fields ≡ length ws
  pub in_word : after ≤ 64
  pub bits_left : after ≡ bits (drop k ws)
  pub small : left < 2 ^ after
  pub cut : take k fields ++ unpack (drop k ws) left ≡ unpack ws word

pub nothing_cut : {ws fields : List ℕ} {word : ℕ} → FillsWord ws → length fields ≡ length ws → word < 2 ^ 64 → Cut ws word fields word 64 0
nothing_cut {ws} f e h = record { room = e; in_word = omega arith; bits_left = sym (word_filled ws f); small = h; cut = refl }

-- the bits left are the width's and those after it
width_first : {ws fields : List ℕ} {word left after k : ℕ} → k < length ws → Cut ws word fields left after k → after ≡ get_or ws k 0 + bits (drop (suc k) ws)
unfolding bits
width_first {ws} {k = k} h c = c.bits_left ∙ ap bits (drop-cons ws k 0 h)

-- what a turn asks of the width at hand: its bits are left, the field that comes off fits 32 bits, and a one stands above those after it
pub record Turn (left after w : ℕ) : Type 0 where
  pub covered : w ≤ after
  pub within : after - w < 64
  pub field_small : left / 2 ^ (after - w) < 2 ^ 32
  pub one_above : (1 * 2 ^ (after - w)) % 2 ^ 64 ≡ 2 ^ (after - w)

pub turn : {ws fields : List ℕ} {word left after k : ℕ} → FillsWord ws → k < length ws → Cut ws word fields left after k → Turn left after (get_or ws k 0)
turn {ws} {left = left} {after} {k} f h c =
    let w = get_or ws k 0 in
    let bounds : (1 ≤ w) × (w ≤ 32) = f.1 k 0 h in
    let covered : w ≤ after = omega (arith, width_first h c) in
    let within : after - w < 64 = omega (arith, c.in_word) in
    let parted : after ≡ w + (after - w) = omega arith in
    record {
      covered = covered;
      within = within;
      field_small = lt_of_lt_of_le (shr_lt w (after - w) (subst (λ (n : ℕ). left < 2 ^ n) parted c.small)) (pow_mono {j = 32} bounds.1);
      one_above = shl_exact {a = 1} 1 (after - w) 64 (omega arith) (omega arith) ∙ one-mul (2 ^ (after - w));
    }

pub one_cut : {ws fields : List ℕ} {word left after k : ℕ} → k < length ws → Cut ws word fields left after k →
    let b = after - get_or ws k 0 in Cut ws word (set fields k (left / 2 ^ b)) (left % 2 ^ b) b (k + 1)
unfolding unpack
one_cut {ws} {fields} {word} {left} {after} {k} h c =
    let b = after - get_or ws k 0 in
    let next : b ≡ bits (drop (suc k) ws) = omega (arith, width_first h c) in
    let field = left / 2 ^ b in
    let rest = unpack (drop (suc k) ws) (left % 2 ^ b) in
    let opened : unpack (drop k ws) left ≡ field ∷ rest =
    ap (λ (l : List ℕ). unpack l left) (drop-cons ws k 0 h)
    ∙ ap (λ (n : ℕ). left / 2 ^ n ∷ unpack (drop (suc k) ws) (left % 2 ^ n)) (sym next) in
    rw (add-one k)
    (record {
      room = length-set fields k field ∙ c.room;
      in_word = omega (arith, c.in_word);
      bits_left = next;
      small = mod-lt left (pow_pos b);
      cut =
          ap (λ (l : List ℕ). l ++ rest) (take-suc-set fields k field (omega (arith, c.room)))
          ∙ append_snoc (take k fields) field rest
          ∙ ap (λ (l : List ℕ). take k fields ++ l) (sym opened)
          ∙ c.cut;
    })

pub all_cut : {ws fields : List ℕ} {word left after k : ℕ} → length ws ≤ k → Cut ws word fields left after k → fields ≡ unpack ws word
unfolding unpack
all_cut {ws} {fields} {left = left} {k = k} past c =
    sym (take_all k fields (omega (arith, c.room)))
    ∙ sym (append-nil (take k fields))
    ∙ ap (λ (l : List ℕ). take k fields ++ unpack l left) (sym (drop_all k ws past))
    ∙ c.cut

-- writing: the fields still to come fit their widths, and what the word holds stands above them
pub record Packed (ws fs : List ℕ) (word : ℕ) (vs gs : List ℕ) : Type 0 where
  pub fit : Within vs gs
  pub whole : word * 2 ^ bits vs + pack vs gs ≡ pack ws fs

pub nothing_packed : (ws fs : List ℕ) → Within ws fs → Packed ws fs 0 ws fs
nothing_packed ws fs h = record { fit = h; whole = omega arith }

module _ (ws fs : List ℕ) (filled : FillsWord ws) (h : Within ws fs) where
  -- no word on the way overflows: the one at the end is the greatest
  end_small : pack ws fs < 2 ^ 64
  end_small = subst (λ (n : ℕ). pack ws fs < 2 ^ n) (word_filled ws filled) (pack_lt ws fs h)

  pub packed_small : (word : ℕ) (vs gs : List ℕ) → Packed ws fs word vs gs → word < 2 ^ 64
  packed_small word vs gs p = omega (arith, p.whole, end_small, le-mul_of_pos_right word (pow_pos (bits vs)))

  pub one_packed : {word w f g : ℕ} {vs vs' gs gs' : List ℕ} → vs ≡ w ∷ vs' → gs ≡ f ∷ gs' → g ≡ f → Packed ws fs word vs gs →
      Packed ws fs ((word * 2 ^ w) % 2 ^ 64 + g) vs' gs'
  unfolding pack bits
  one_packed {word} {w} {f} {g} {vs} {vs'} {gs} {gs'} first next e before =
      let p : Packed ws fs word (w ∷ vs') (f ∷ gs') = subst (Packed ws fs word (w ∷ vs')) next (subst (λ (l : List ℕ). Packed ws fs word l gs) first before) in
      let b = bits vs' in
      let parted : word * 2 ^ (w + b) ≡ word * 2 ^ w * 2 ^ b = ap (λ (n : ℕ). word * n) (pow-add 2 w b) ∙ sym (mul_assoc word (2 ^ w) (2 ^ b)) in
      let exact : (word * 2 ^ w) % 2 ^ 64 ≡ word * 2 ^ w =
      mod-eq_of_lt (omega (arith, p.whole, parted, end_small, le-mul_of_pos_right (word * 2 ^ w) (pow_pos b))) in
      rw (exact, e) (record { fit = p.fit.1; whole = omega (arith, add-mul (word * 2 ^ w) f (2 ^ b), parted, p.whole) })

-- the widths and the fields end together
pub all_packed : (ws fs : List ℕ) (word : ℕ) (vs gs : List ℕ) → (length vs ≡ 0) ⊎ (length gs ≡ 0) → Packed ws fs word vs gs → word ≡ pack ws fs
unfolding pack bits
all_packed ws fs word [] [] none p = omega (arith, p.whole)
all_packed ws fs word [] (g ∷ gs) none p = absurd p.fit
all_packed ws fs word (v ∷ vs) [] none p = absurd p.fit
all_packed ws fs word (v ∷ vs) (g ∷ gs) none p = absurd (⊎_elim (λ e. omega arith) (λ e. omega arith) none)
