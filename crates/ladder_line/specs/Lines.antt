-- The lines that the ladder program prints, as bytes (document 01, The ladder program). Cited by public contracts.
-- Assumes nothing.
use Rattle.std.specs.Prelude.{List, [], ◌∷◌, ◌++◌, cond, ℕ, zero, suc, ◌+◌, ◌/◌, ◌%◌, ltb}
use Prim.Native.Char.{code}
use Prim.Native.String.{String, [] as none, ◌∷◌ as ◌then◌}
use Rattle.model.specs.declared.Seconds.{Seconds}
use Rattle.model.specs.declared.PagesPerHour.{PagesPerHour}
use Rattle.model.specs.Model.{Verdict, number_of, detail_of}

-- A text as bytes: the codes of its characters.
abbrev pub ascii : String → List ℕ
ascii none = []
ascii (c then s) = code c ∷ ascii s

-- The decimal digits of a number, the last `most` of them, with no zero in front where `most` are enough: a number below 10 is one
-- digit, and any other is the digits of its tenth part and then its last digit.
unfoldable pub digits_of : ℕ → ℕ → List ℕ
digits_of zero n = []
digits_of (suc most) n = cond (ltb n 10) ((code "0" + n) ∷ []) (digits_of most (n / 10) ++ ((code "0" + n % 10) ∷ []))

-- A number in decimal; 20 digits are enough for 64 bits.
unfoldable pub decimal : ℕ → List ℕ
decimal n = digits_of 20 n

-- A space, then a number.
unfoldable pub spaced : ℕ → List ℕ
spaced n = ascii " " ++ decimal n

-- Periods, a space before each.
unfoldable pub spaced_periods : List Seconds → List ℕ
spaced_periods [] = []
spaced_periods (t ∷ ts) = spaced t.0 ++ spaced_periods ts

-- `refused NUMBER DETAIL`
unfoldable pub refusal_line : Verdict → List ℕ
refusal_line v = ascii "refused" ++ spaced (number_of v) ++ spaced (detail_of v) ++ ascii "\n"

-- `jobs N rows R`
unfoldable pub header_line : ℕ → ℕ → List ℕ
header_line n rows = ascii "jobs" ++ spaced n ++ ascii " rows" ++ spaced rows ++ ascii "\n"

-- A row: start, loss and periods.
unfoldable pub row_line : PagesPerHour → ℕ → List Seconds → List ℕ
row_line start loss periods = decimal start.0 ++ spaced loss ++ spaced_periods periods ++ ascii "\n"
