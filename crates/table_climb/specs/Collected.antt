-- The staircase that a walk leaves: plans in order, and which lists they serve. No public contract cites this. Assumes nothing.
use Rattle.std.specs.Prelude.{◌≡◌, ℕ, ◌≤◌, ◌<◌, length}
use mathlib.Core.List.{List, [], Memᴰ}
use Rattle.model.specs.declared.Seconds.{Seconds}
use Rattle.model.specs.declared.Job.{Job}
use Rattle.model.specs.Model.{Permitted, need, loss, NotAfter}
use Rattle.table_stairs.specs.Stairs.{Stair, Stairs, no_bound, Covering}
use Rattle.table_stairs.specs.Ordered.{Ordered}

-- A row is a permitted plan that fits, with its own need and loss.
pub record Plan (js : List Job) (b : ℕ) (r : Stair) : Type 0 where
  pub need_is : r.its_need ≡ (need js r.periods).0
  pub loss_is : r.its_loss ≡ loss js r.periods
  pub permitted : Permitted js r.periods
  pub fits : r.its_need ≤ b

-- The rows are plans in order that lose less than the bound and come after none of the lists to come; with no row there is no bound.
pub record Law (js : List Job) (b : ℕ) (rest : List (List Seconds)) (s : Stairs) : Type 0 where
  pub ordered : Ordered s
  pub plans : (r : Stair) → Memᴰ r s.rows → Plan js b r
  pub not_after : (r : Stair) → Memᴰ r s.rows → (us : List Seconds) → Memᴰ us rest → NotAfter r.periods us
  pub unbound : length s.rows ≡ 0 → s.bound ≡ no_bound

-- Some row needs no more and loses no more than this list; on equal need and loss it comes not after it.
pub record Served (js : List Job) (rows : List Stair) (us : List Seconds) : Type 0 where
  pub by : Covering (need js us).0 (loss js us) rows
  pub first : by.row.its_need ≡ (need js us).0 → by.row.its_loss ≡ loss js us → NotAfter by.row.periods us

-- So it is with this list, if it fits and loses less than the bound.
abbrev pub Serves : List Job → ℕ → Stairs → List Seconds → Type 0
Serves js b s us = (need js us).0 ≤ b → loss js us < s.bound → Served js s.rows us

-- The staircase: the law, and every permitted list that fits and loses less than the bound is served.
pub record Collected (js : List Job) (b : ℕ) (s : Stairs) : Type 0 where
  pub law : Law js b [] s
  pub serves : (us : List Seconds) → Permitted js us → Serves js b s us
