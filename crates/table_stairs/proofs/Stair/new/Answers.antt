-- `table_stairs::Stair::new` meets its contract: what is put into the words is read from them again.
-- Assumes nothing.
use mathlib.Core.Path.{◌≡◌, ◌∙◌, ap, ap₂}
use mathlib.Core.List.{List, map}
use Prim.Native.Nat.{ℕ, ◌^◌, ◌<◌}
use native.Mathlib.Omega.{arith}
use Rattle.model.specs.declared.Seconds.{Seconds}
use Rattle.codec.specs.declared.RowWords.{RowWords}
use Rattle.table_row.specs.Cut.{words_of}
use Rattle.table_stairs.specs.Stairs.{stair}
use Rattle.table_stairs.specs.Held.{eight, need_held, periods_held}
use Rattle.table_stairs.proofs.Held.{fields_eight, need_back, ends_back, holds}
use Rattle.table_stairs.proofs.Stair.new.Goals.{After-words}
use Rattle.table_stairs.proofs.Stair.new.Goals as goal

pub words-requires : goal.words-requires
words-requires c = rw c.padded.ensures (fields_eight c.args.periods.now c.requires.few c.requires.within_hour)

words_are : (c : After-words) → c.words.result ≡ words_of c.args.need.0 (eight c.args.periods.now)
words_are c = c.words.ensures ∙ ap (λ (ts : List Seconds). words_of c.args.need.0 (map (λ t. t.0) ts)) c.padded.ensures

pub invariant_of-result : goal.invariant_of-result
invariant_of-result c = rw (words_are c) (holds c.args.need.0 c.args.periods.now (omega arith) c.requires.few c.requires.within_hour)

pub returns : goal.returns
returns c =
    let small : c.args.need.0 < 2 ^ 32 = omega arith in
    let need = need_back c.args.need.0 c.args.periods.now small c.requires.few c.requires.within_hour in
    let periods = ends_back c.args.need.0 c.args.periods.now small c.requires.few c.requires.within_hour in
    ap (λ (w : RowWords). stair (need_held w) c.args.loss (periods_held w)) (words_are c)
    ∙ ap₂ (λ (q : ℕ) (ts : List Seconds). stair q c.args.loss ts) need periods
