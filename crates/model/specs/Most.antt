-- The most that valid jobs come to: what keeps every sum within the machine's numbers. Contracts of inner functions cite this, and
-- those of no entry point. Assumes nothing.
use Rattle.std.specs.Prelude.{ℕ, ◌*◌, ◌^◌}

-- The pages of a run: 32,767 of data and as many of metadata.
abbrev pub most_pages : ℕ
most_pages = 65534

-- The pages that one job writes in an hour, with a run in every second.
abbrev pub most_rate : ℕ
most_rate = 3600 * most_pages

-- What eight jobs need at most, each with metadata of its own at every second.
abbrev pub most_need : ℕ
most_need = 8 * most_rate

-- What one job loses.
abbrev pub most_loss : ℕ
most_loss = 32 * most_rate ^ 2
