-- How a stair is held: its need and its periods in the two words of a table row, beside its loss. Assumes nothing.
use Rattle.std.specs.Prelude.{◌≡◌, List, [], ◌∷◌, map, ℕ, zero, suc}
use Rattle.model.specs.declared.Seconds.{Seconds}
use Rattle.model.specs.Model.{seconds, padded}
use Rattle.codec.specs.declared.RowWords.{RowWords}
use Rattle.table_row.specs.Cut.{words_of, word_start, word_periods}
use Rattle.table_stairs.specs.Stairs.{Stair}

-- The numbers before the first 0.
unfoldable pub before_zero : List ℕ → List ℕ
before_zero [] = []
before_zero (zero ∷ xs) = []
before_zero (suc x ∷ xs) = suc x ∷ before_zero xs

-- Periods as the eight numbers of a table row: zeros stand behind them.
abbrev pub eight : List Seconds → List ℕ
eight ts = map (λ t. t.0) (padded (seconds 0) ts)

-- The need in two words, and the periods: those before the first 0.
abbrev pub need_held : RowWords → ℕ
need_held w = word_start w.high

abbrev pub periods_held : RowWords → List Seconds
periods_held w = map seconds (before_zero (word_periods w.high w.low))

-- The words that hold a need and periods.
abbrev pub words_for : ℕ → List Seconds → RowWords
words_for need ts = words_of need (eight ts)

-- Two words hold a need and periods, and nothing else.
pub record Holds (w : RowWords) : Type 0 where
  pub nothing_behind : word_periods w.high w.low ≡ eight (periods_held w)
  pub words_are : words_for (need_held w) (periods_held w) ≡ w

-- Two words are those of a stair's table row.
pub record Written (s : Stair) (w : RowWords) : Type 0 where
  pub start : word_start w.high ≡ s.its_need
  pub periods : map seconds (word_periods w.high w.low) ≡ padded (seconds 0) s.periods
