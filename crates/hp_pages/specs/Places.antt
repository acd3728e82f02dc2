-- How many pages a frame holds, and the sum of the indexes of these pages. The index of a page
-- (`place`) counts the pages of all owners from 1, owner after owner.
use Rattle.std.specs.Prelude.{◌≡◌, ℕ, zero, suc, ◌+◌, ◌-◌, ◌*◌, ◌^◌, ◌<◌, ◌≤◌, List, [], ◌∷◌, Option, Some, None, IfSome, length, count_by, nat_lt, slice_index, slice_set, sum_by, if◌then◌else◌}
use Rattle.std.specs.List.{AllByRecursion}
use Rattle.hp_units.specs.Memory.{entry_of}
use Rattle.hp_units.specs.Pages.{holds}
use Rattle.hp_pages.specs.FrameSets.{has}

-- how many pages of a table a frame holds
abbrev pub holders : List (List (Option ℕ)) → ℕ → ℕ
holders table frame = sum_by (λ row. count_by (holds frame) row) table

-- the frame that a code means: 0 is none, any other code is the frame plus one
abbrev pub frame_of_code : ℕ → Option ℕ
frame_of_code zero = None
frame_of_code (suc frame) = Some frame

-- ---- the index of a page: counted from 1, owner after owner

abbrev pub place_of : (pages owner page : ℕ) → ℕ
place_of pages owner page = 1 + owner * pages + page

-- `place` if the entry is the frame, otherwise 0
abbrev pub held : ℕ → Option ℕ → ℕ → ℕ
held frame entry place = if holds frame entry then place else 0

-- the sum of the indexes of a row's pages that are mapped to the frame. The row's first page has
-- the index `place`
abbrev pub row_sum : (place : ℕ) → List (Option ℕ) → (frame : ℕ) → ℕ
row_sum place [] frame = 0
row_sum place (entry ∷ row) frame = held frame entry place + row_sum (place + 1) row frame

-- the sum of the indexes of a table's pages that are mapped to the frame. The table's first page
-- has the index `place`
abbrev pub table_sum : (pages place : ℕ) → List (List (Option ℕ)) → (frame : ℕ) → ℕ
table_sum pages place [] frame = 0
table_sum pages place (row ∷ table) frame =
    row_sum place row frame + table_sum pages (place + pages) table frame

-- ---- the sums of all frames

-- the sums after `place` is added to the sum of the entry's frame, if it has one
abbrev pub joined : List ℕ → Option ℕ → (place : ℕ) → List ℕ
joined sums None place = sums
joined sums (Some frame) place = slice_set sums frame (slice_index sums frame + place)

-- the sums after `place` is subtracted from the sum of the entry's frame, if it has one
abbrev pub left : List ℕ → Option ℕ → (place : ℕ) → List ℕ
left sums None place = sums
left sums (Some frame) place = slice_set sums frame (slice_index sums frame - place)

-- the frame has a sum, and adding `place` to it does not overflow
pub record CanJoin (sums : List ℕ) (place frame : ℕ) : Type 0 where
  pub frame_in : frame < length sums
  pub fits : slice_index sums frame + place < 2 ^ 64

-- the frame has a sum, and subtracting `place` from it does not go below 0
pub record CanLeave (sums : List ℕ) (place frame : ℕ) : Type 0 where
  pub frame_in : frame < length sums
  pub among : place ≤ slice_index sums frame

-- `words` has a bit for each frame, which is 1 if and only if the frame's sum is not 0
pub record AreMarked (sums words : List ℕ) : Type 0 where
  pub small : length sums ≤ 2 ^ 20
  pub room : length sums < 64 * length words
  pub marked : (frame : ℕ) → frame < length sums → has words frame ≡ nat_lt 0 (slice_index sums frame)

-- ---- a table by owner and page

pub record TableValue : Type 0 where
  pub frames : ℕ
  pub pages : ℕ
  pub rows : List (List (Option ℕ))

-- the numbers of a table are within their limits
pub record IsTable (t : TableValue) : Type 0 where
  pub frames : t.frames ≤ 2 ^ 20
  pub some_pages : 1 ≤ t.pages
  pub pages : t.pages ≤ 2 ^ 16
  pub owners : length t.rows ≤ 64
  pub rows : AllByRecursion (λ row. length row ≡ t.pages) t.rows
  pub mapped : (owner page : ℕ) → IfSome (entry_of t.rows owner page) (λ frame. frame < t.frames)

-- the sums are those of the table
pub record AreSumsOf (t : TableValue) (sums : List ℕ) : Type 0 where
  pub table : IsTable t
  pub each : (frame : ℕ) → frame < t.frames → slice_index sums frame ≡ table_sum t.pages 1 t.rows frame
