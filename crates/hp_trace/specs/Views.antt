-- The lines of a trace that are shown.
use Rattle.std.specs.Prelude.{ℕ, ◌-◌, ◌^◌, ◌%◌, ◌==◌, ◌&&◌, ◌||◌, nat_le, Bool, false}
use Rattle.hp_trace.specs.declared.view.View.{View}

-- a line in the view's range is shown if its distance from the first line is a multiple of `every`;
-- an `every` of 0 counts as 1
abbrev pub shows : View → (line : ℕ) → Bool
shows v line =
    (nat_le v.from line && nat_le line v.to) && (nat_le v.every 1 || ((line - v.from) % v.every == 0))

-- the view of all lines
abbrev pub whole_view : View
whole_view = record { from = 0; to = 2 ^ 64 - 1; every = 1; width = 0; orders = false }
