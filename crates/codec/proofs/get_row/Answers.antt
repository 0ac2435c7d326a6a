-- `codec::get_row` meets its contract: within the buffer the row's two words, and beyond it zeros.
-- Assumes nothing.
use borrow.Author.Tests.{lt-ltb, le-ltb}
use Rattle.codec.specs.RowWords.{words_at}
use Rattle.codec.proofs.get_row.Goals as goal

pub returns-then-k-bytes : goal.returns-then-k-bytes
unfolding words_at
returns-then-k-bytes c =
    simp (lt-ltb _ _ c.if-k-bytes.true, c.word_at.ensures, c.word_at-then-k-bytes.ensures)

pub returns-else-k-bytes : goal.returns-else-k-bytes
unfolding words_at
returns-else-k-bytes c = simp (le-ltb _ _ c.if-k-bytes.false)
