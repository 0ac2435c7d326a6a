-- The text of profile A, whose bytes stand in model (document 01, The ladder program; the starts by 02, Ticket 3): what the theorems in
-- proofs/Numbers.antt are stated with. No contract cites this. Assumes nothing.
use Rattle.std.specs.Prelude.{List, ◌++◌, ℕ}
use Rattle.ladder_line.specs.Lines.{ascii}

-- The text that is printed for its 25 bytes.
unfoldable pub text_a : List ℕ
text_a =
    ascii "jobs 3 rows 9\n"
    ++ ascii "4176 3281956 25 50 100\n"
    ++ ascii "4350 1984276 24 72 72\n"
    ++ ascii "4540 1694382 23 69 69\n"
    ++ ascii "4746 1406313 22 66 66\n"
    ++ ascii "4972 1127645 21 63 63\n"
    ++ ascii "5220 864676 20 60 60\n"
    ++ ascii "5544 286756 25 50 50\n"
    ++ ascii "5775 160276 24 48 48\n"
    ++ ascii "6027 72006 23 46 46\n"
