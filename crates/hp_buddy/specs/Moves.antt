-- Moving a pageblock's free blocks to another class, one at a time.
use Rattle.std.specs.Prelude.{ℕ, zero, suc, ◌+◌, if◌then◌else◌}
use Rattle.hp_units.specs.declared.rows.Class.{Class}
use Rattle.hp_units.specs.Memory.{FreeAreas, free_list}
use Rattle.hp_units.specs.FreeAreas.{is_on, with_back, without_free}

-- if the block is free in the class `from`, it goes to the back of the list of the class `to`;
-- otherwise nothing changes
abbrev pub move_one : FreeAreas → (from to : Class) → (order frame : ℕ) → FreeAreas
move_one a from to order frame =
    if is_on frame (free_list a from order) then with_back (without_free a from order frame) to order frame
    else a

-- 1 if a free block of this class and order starts at the frame, 0 otherwise
abbrev pub free_one : FreeAreas → Class → (order frame : ℕ) → ℕ
free_one a class order frame = if is_on frame (free_list a class order) then 1 else 0

-- how many free blocks of this class and order start at the `count` frames from `first` on
abbrev pub free_count : FreeAreas → Class → (order first count : ℕ) → ℕ
free_count a class order first zero = 0
free_count a class order first (suc count) =
    free_count a class order first count + free_one a class order (first + count)
