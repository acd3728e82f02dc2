-- When the free of one frame and the alloc of another are the move of a page.
use Rattle.std.specs.Prelude.{◌==◌, ◌&&◌, not, if◌then◌else◌, Option, Some, None}
use Rattle.hp_units.specs.Numbers.{Frame, Owner, Page}
use Rattle.hp_judge.specs.Logs.{same_page}
use Rattle.hp_judge.specs.LawfulNames.{LogEvent, Alloc, Free, Move}

-- the frame, if the event is a free of a single frame
abbrev pub single_free : LogEvent → Option Frame
single_free (Free frame order) = if order == 0 then Some frame else None
single_free event = None

-- the frame, if the event is an alloc of a single frame whose page can move
abbrev pub movable_alloc : LogEvent → Option Frame
movable_alloc (Alloc frame order movable) =
    if movable then (if order == 0 then Some frame else None) else None
movable_alloc event = None

-- the move from one frame to the other, if `page` and `next` are the same page, and the frames
-- differ
abbrev pub page_move : (page next : Option (Owner × Page)) → (from to : Frame) → Option LogEvent
page_move page next from to = if same_page page next && not (from == to) then Some (Move from to) else None
