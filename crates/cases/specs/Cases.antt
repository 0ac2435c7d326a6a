-- The numbers of document 01 and of tickets 3 and 4, and some more of the kind, as one list: an entry says what is asked, of which profile, and
-- what must come out.
-- Assumes nothing.
use Rattle.std.specs.Prelude.{Err, List, [], ◌∷◌, ◌++◌, map, ℕ, take, drop}
use Rattle.model.specs.declared.Seconds.{Seconds}
use Rattle.model.specs.declared.Job.{Job}
use Rattle.model.specs.declared.Profile.{Profile}
use Rattle.model.specs.declared.Refusal.TheVariants.{NoBytes, Edition, JobCount, Length, Interval, Spare, NoPeriods, Room, Row, Periods}
use Rattle.model.specs.Model.{sound, seconds}
use Rattle.model.specs.ProfileA.{bytes_a}
use Rattle.cases.specs.Case.{Case, reading, writing, writing_in, permitting, counting, scoring, choosing, listing, listing_in, building, building_in, looking_up}
use Rattle.cases.specs.Case.{job, interval, profile, values, eight, plan, scored, below, number, lent, rows}

-- The profile that document 01 works with, as values; its bytes stand in model.
abbrev pub jobs_a : List Job
jobs_a = job 20 25 9 1 1 ∷ job 43 74 18 2 1 ∷ job 45 100 36 4 1 ∷ []

abbrev pub profile_a : Profile
profile_a = profile jobs_a

-- One job at 7 seconds (P8).
abbrev pub at_seven : Profile
at_seven = profile (interval 7 7 ∷ [])

-- One job whose rate is 52 pages at 68 and at 69 seconds, 51 at 70, and 50 at 71 and at 72, where nothing remains.
abbrev pub in_fractions : Profile
in_fractions = profile (interval 68 72 ∷ [])

-- Three jobs: the second commits no more than the first, the third more.
abbrev pub hidden : Profile
hidden = profile (job 10 10 1 5 1 ∷ job 10 20 2 3 1 ∷ job 40 40 0 9 1 ∷ [])

-- Two jobs: the second writes metadata alone, and less than the first.
abbrev pub all_hidden : Profile
all_hidden = profile (job 10 10 1 5 1 ∷ job 10 20 0 3 1 ∷ [])

-- Three jobs that one list of periods alone suits (P6).
abbrev pub one_list : Profile
one_list = profile (interval 1 1 ∷ interval 2 6 ∷ interval 35 35 ∷ [])

-- A's table: the rows at 4,176, 4,350, 4,972 and 5,220, and the whole.
abbrev pub row₁ : List ℕ
row₁ = 0x00 ∷ 0x00 ∷ 0x10 ∷ 0x50 ∷ 0x01 ∷ 0x90 ∷ 0x32 ∷ 0x06 ∷ 0x40 ∷ []

abbrev pub row₂ : List ℕ
row₂ = 0x00 ∷ 0x00 ∷ 0x10 ∷ 0xFE ∷ 0x01 ∷ 0x80 ∷ 0x48 ∷ 0x04 ∷ 0x80 ∷ []

abbrev pub row₅ : List ℕ
row₅ = 0x00 ∷ 0x00 ∷ 0x13 ∷ 0x6C ∷ 0x01 ∷ 0x50 ∷ 0x3F ∷ 0x03 ∷ 0xF0 ∷ []

abbrev pub row₆ : List ℕ
row₆ = 0x00 ∷ 0x00 ∷ 0x14 ∷ 0x64 ∷ 0x01 ∷ 0x40 ∷ 0x3C ∷ 0x03 ∷ 0xC0 ∷ []

abbrev pub table_a : List ℕ
table_a =
    rows
    (row₁
    ∷ row₂
    ∷ (0x00 ∷ 0x00 ∷ 0x11 ∷ 0xBC ∷ 0x01 ∷ 0x70 ∷ 0x45 ∷ 0x04 ∷ 0x50 ∷ [])
    ∷ (0x00 ∷ 0x00 ∷ 0x12 ∷ 0x8A ∷ 0x01 ∷ 0x60 ∷ 0x42 ∷ 0x04 ∷ 0x20 ∷ [])
    ∷ row₅
    ∷ row₆
    ∷ (0x00 ∷ 0x00 ∷ 0x15 ∷ 0xA8 ∷ 0x01 ∷ 0x90 ∷ 0x32 ∷ 0x03 ∷ 0x20 ∷ [])
    ∷ (0x00 ∷ 0x00 ∷ 0x16 ∷ 0x8F ∷ 0x01 ∷ 0x80 ∷ 0x30 ∷ 0x03 ∷ 0x00 ∷ [])
    ∷ (0x00 ∷ 0x00 ∷ 0x17 ∷ 0x8B ∷ 0x01 ∷ 0x70 ∷ 0x2E ∷ 0x02 ∷ 0xE0 ∷ [])
    ∷ [])

-- A's zones: (1,2,2) for 23 to 25, (1,2,4) for 22 to 25, (1,3,3) for 20 to 24.
abbrev pub zones_a : List ℕ
zones_a =
    rows
    ((0x01 ∷ 0x70 ∷ 0x19 ∷ 0x00 ∷ 0x20 ∷ 0x02 ∷ [])
    ∷ (0x01 ∷ 0x60 ∷ 0x19 ∷ 0x00 ∷ 0x20 ∷ 0x04 ∷ [])
    ∷ (0x01 ∷ 0x40 ∷ 0x18 ∷ 0x00 ∷ 0x30 ∷ 0x03 ∷ [])
    ∷ [])

-- The zones of [6,10], [11,22], [19,40]: (1,2,2) for 10, (1,2,4) for 6 to 10, (1,2,6) for 6, (1,3,3) for 7, (1,3,6) for 6.
abbrev pub five_zones : List ℕ
five_zones =
    rows
    ((0x00 ∷ 0xA0 ∷ 0x0A ∷ 0x00 ∷ 0x20 ∷ 0x02 ∷ [])
    ∷ (0x00 ∷ 0x60 ∷ 0x0A ∷ 0x00 ∷ 0x20 ∷ 0x04 ∷ [])
    ∷ (0x00 ∷ 0x60 ∷ 0x06 ∷ 0x00 ∷ 0x20 ∷ 0x06 ∷ [])
    ∷ (0x00 ∷ 0x70 ∷ 0x07 ∷ 0x00 ∷ 0x30 ∷ 0x03 ∷ [])
    ∷ (0x00 ∷ 0x60 ∷ 0x06 ∷ 0x00 ∷ 0x30 ∷ 0x06 ∷ [])
    ∷ [])

-- And their permitted lists.
abbrev pub nine_lists : List (List Seconds)
nine_lists =
    map (map seconds)
    ((6 ∷ 12 ∷ 24 ∷ [])
    ∷ (6 ∷ 12 ∷ 36 ∷ [])
    ∷ (6 ∷ 18 ∷ 36 ∷ [])
    ∷ (7 ∷ 14 ∷ 28 ∷ [])
    ∷ (7 ∷ 21 ∷ 21 ∷ [])
    ∷ (8 ∷ 16 ∷ 32 ∷ [])
    ∷ (9 ∷ 18 ∷ 36 ∷ [])
    ∷ (10 ∷ 20 ∷ 20 ∷ [])
    ∷ (10 ∷ 20 ∷ 40 ∷ [])
    ∷ [])

-- The cases.
unfoldable pub cases : List Case
cases =
    -- A's bytes both ways, in any room and beside other bytes
    reading bytes_a (values jobs_a)
    ∷ writing profile_a (number 25) bytes_a
    ∷ writing_in profile_a (lent 28) (number 25) (bytes_a ++ lent 3)
    -- bytes that are no profile: none, edition 2, no jobs, a byte short, lo above hi in the second job, a spare bit in the third
    ∷ reading [] (Err NoBytes)
    ∷ reading (0x23 ∷ drop 1 bytes_a) (Err Edition)
    ∷ reading (0x10 ∷ drop 1 bytes_a) (Err JobCount)
    ∷ reading (take 24 bytes_a) (Err Length)
    ∷ reading (take 9 bytes_a ++ (0xFF ∷ drop 10 bytes_a)) (Err (Interval 2))
    ∷ reading (take 24 bytes_a ++ (0x11 ∷ [])) (Err (Spare 3))
    -- room too small, for A's bytes, zones and table: nothing is written
    ∷ writing_in profile_a (lent 24) (Err (Room 25)) (lent 24)
    ∷ listing_in profile_a (lent 47) (Err (Room 3)) (lent 47)
    ∷ building_in profile_a (lent 128) (Err (Room 9)) (lent 128)
    -- P1
    ∷ choosing profile_a 4175 (Err (below 4176))
    ∷ looking_up profile_a table_a 4175 (Err (below 4176)) []
    -- P2
    ∷ choosing profile_a 4176 (plan 4176 0 3281956 (25 ∷ 50 ∷ 100 ∷ []))
    ∷ looking_up profile_a table_a 4176 (number 1) (rows (row₁ ∷ []))
    -- P3
    ∷ choosing profile_a 5219 (plan 4971 27 1127645 (21 ∷ 63 ∷ 63 ∷ []))
    ∷ looking_up profile_a table_a 5219 (number 5) (rows (row₅ ∷ []))
    -- P4
    ∷ choosing profile_a 5220 (plan 5220 0 864676 (20 ∷ 60 ∷ 60 ∷ []))
    ∷ looking_up profile_a table_a 5220 (number 6) (rows (row₆ ∷ []))
    -- the 87 pages behind it, twice as many in twice the time, and 20 in 59 seconds, before the second and the third job have run
    ∷ counting profile_a (eight (20 ∷ 60 ∷ 60 ∷ [])) 60 87
    ∷ counting profile_a (eight (20 ∷ 60 ∷ 60 ∷ [])) 120 174
    ∷ counting profile_a (eight (20 ∷ 60 ∷ 60 ∷ [])) 59 20
    ∷ scoring profile_a (eight (20 ∷ 60 ∷ 60 ∷ [])) (scored 5220 0 864676)
    -- metadata that the job before hides, then metadata that exceeds what was: 6, 8, 6 and 12 pages in 40 seconds
    ∷ counting hidden (eight (10 ∷ 20 ∷ 40 ∷ [])) 40 32
    ∷ scoring hidden (eight (10 ∷ 20 ∷ 40 ∷ [])) (scored 2880 0 810000)
    -- metadata that is all that a job writes, and hidden: its longer period needs no less, so there is one row
    ∷ building all_hidden (number 1) (rows ((0x00 ∷ 0x00 ∷ 0x08 ∷ 0x70 ∷ 0x00 ∷ 0xA0 ∷ 0x0A ∷ []) ∷ []))
    ∷ choosing all_hidden 2160 (plan 2160 0 0 (10 ∷ 10 ∷ []))
    ∷ scoring all_hidden (eight (10 ∷ 20 ∷ [])) (scored 2160 0 291600)
    -- A's table, in which P1 to P4 were looked up
    ∷ building profile_a (number 9) table_a
    -- P5
    ∷ listing profile_a (number 3) zones_a
    -- P6
    ∷ permitting one_list sound (map (map seconds) ((1 ∷ 5 ∷ 35 ∷ []) ∷ []))
    ∷ choosing one_list 0xffff_ffff (plan 4422 30 1166400 (1 ∷ 5 ∷ 35 ∷ []))
    ∷ listing one_list (number 1) (rows ((0x00 ∷ 0x10 ∷ 0x01 ∷ 0x00 ∷ 0x50 ∷ 0x23 ∷ []) ∷ []))
    -- P7
    ∷ choosing (profile (interval 1 1 ∷ interval 2 4 ∷ interval 35 35 ∷ [])) 0xffff_ffff (Err NoPeriods)
    ∷ listing (profile (interval 1 1 ∷ interval 2 4 ∷ interval 35 35 ∷ [])) (Err NoPeriods) []
    ∷ building (profile (interval 1 1 ∷ interval 2 4 ∷ interval 35 35 ∷ [])) (Err NoPeriods) []
    -- P8
    ∷ choosing at_seven 514 (Err (below 515))
    ∷ choosing at_seven 515 (plan 514 2 0 (7 ∷ []))
    -- P9
    ∷ scoring (profile (interval 7 7 ∷ interval 7 7 ∷ [])) (eight (7 ∷ 7 ∷ [])) (scored 1028 4 0)
    ∷ choosing (profile (interval 7 7 ∷ interval 7 7 ∷ [])) 1028 (Err (below 1029))
    -- with metadata in the place of data they commit once
    ∷ scoring (profile (job 7 7 0 1 1 ∷ job 7 7 0 1 1 ∷ [])) (eight (7 ∷ 7 ∷ [])) (scored 514 2 0)
    -- a need over Tn, not over T1: 313,200 over 66 leaves 30
    ∷ scoring profile_a (eight (22 ∷ 66 ∷ 66 ∷ [])) (scored 4745 30 1406313)
    -- the need rounded up settles a tie: 71 seconds have the same whole pages as 72 and come first, 69 need exactly less than 68
    ∷ choosing in_fractions 51 (plan 50 0 4 (72 ∷ []))
    ∷ choosing in_fractions 53 (plan 52 64 0 (68 ∷ []))
    -- it meets a budget, 68 and 69 seconds with 52 whole pages do not fit 52, and it is the start of a row
    ∷ choosing in_fractions 52 (plan 51 30 1 (70 ∷ []))
    ∷ building in_fractions (number 3) (rows ((0x00 ∷ 0x00 ∷ 0x00 ∷ 0x32 ∷ 0x04 ∷ 0x80 ∷ []) ∷ (0x00 ∷ 0x00 ∷ 0x00 ∷ 0x34 ∷ 0x04 ∷ 0x60 ∷ []) ∷ (0x00 ∷ 0x00 ∷ 0x00 ∷ 0x35 ∷ 0x04 ∷ 0x40 ∷ []) ∷ []))
    -- in a lent table it is held against a start: 52 for 68 seconds is wrong
    ∷ looking_up in_fractions (rows ((0x00 ∷ 0x00 ∷ 0x00 ∷ 0x34 ∷ 0x04 ∷ 0x40 ∷ []) ∷ [])) 52 (Err (Row 1)) []
    -- P10: the one row, and its loss
    ∷ building (profile (interval 1801 3600 ∷ [])) (number 1) (rows ((0x00 ∷ 0x00 ∷ 0x00 ∷ 0x01 ∷ 0xE1 ∷ 0x00 ∷ []) ∷ []))
    ∷ choosing (profile (interval 1801 3600 ∷ [])) 2 (plan 1 0 0 (3600 ∷ []))
    -- no pages
    ∷ choosing (profile (job 3600 3600 0 0 1 ∷ [])) 0 (plan 0 0 0 (3600 ∷ []))
    -- a tie that the list settles
    ∷ choosing (profile (job 1 2 0 0 1 ∷ [])) 0 (plan 0 0 0 (1 ∷ []))
    -- an interval that encloses the next one's
    ∷ choosing (profile (interval 10 10 ∷ job 10 40 20 0 32 ∷ interval 20 30 ∷ [])) 100000 (plan 7740 0 0 (10 ∷ 10 ∷ 20 ∷ []))
    -- a stiffness other than 1: 3 times the square of 1,028 less 102
    ∷ scoring (profile (job 7 70 1 1 3 ∷ [])) (eight (70 ∷ [])) (scored 102 60 2572428)
    -- periods that are not permitted: the second is no multiple of the first
    ∷ scoring profile_a (eight (25 ∷ 51 ∷ 100 ∷ [])) (Err (Periods 2))
    -- five zones and nine lists
    ∷ listing (profile (interval 6 10 ∷ interval 11 22 ∷ interval 19 40 ∷ [])) (number 5) five_zones
    ∷ permitting (profile (interval 6 10 ∷ interval 11 22 ∷ interval 19 40 ∷ [])) sound nine_lists
    -- a table that is not complete
    ∷ looking_up profile_a (rows (row₁ ∷ row₂ ∷ [])) 4349 (number 1) (rows (row₁ ∷ []))
    ∷ looking_up profile_a (rows (row₁ ∷ row₂ ∷ [])) 4350 (number 2) (rows (row₂ ∷ []))
    ∷ looking_up profile_a (rows (row₁ ∷ row₂ ∷ [])) 0xffff_ffff (number 2) (rows (row₂ ∷ []))
    -- tables that are not well formed: no bytes, a row cut short, falling starts, a row twice, a row of zeros
    ∷ looking_up profile_a [] 4176 (Err (Row 0)) []
    ∷ looking_up profile_a (take 31 (rows (row₁ ∷ row₂ ∷ []))) 4176 (Err (Row 0)) []
    ∷ looking_up profile_a (rows (row₂ ∷ row₁ ∷ [])) 4350 (Err (Row 2)) []
    ∷ looking_up profile_a (rows (row₁ ∷ row₁ ∷ [])) 4176 (Err (Row 2)) []
    ∷ looking_up profile_a (rows ([] ∷ [])) 4176 (Err (Row 1)) []
    ∷ []
