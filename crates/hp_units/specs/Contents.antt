-- The words of owners' pages, from the net alone (the steps that are not dropped), and the frame
-- that a record hands out.
use Rattle.std.specs.Prelude.{ℕ, List, Option, Some, None, fold, slice_set}
use Rattle.std.specs.Option.{option_map}
use Rattle.hp_units.specs.Numbers.{Frame}
use Rattle.hp_units.specs.Names.{Event, Map, Unmap, Write, Reply, Done, GivesFrame, Moved, Record}
use Rattle.hp_units.specs.LayoutParts.{LayoutParts}
use Rattle.hp_units.specs.Memory.{Memory, entry_of, with_entry}
use Rattle.hp_units.specs.Pages.{frame_at, fresh_words}

-- the contents after an event: zeros by Map, none by Unmap, one word changed by Write; any other
-- event leaves them as they are
abbrev pub contents_after : LayoutParts → List (List (Option (List ℕ))) → Event
    → List (List (Option (List ℕ)))
contents_after l contents (Map owner page) = with_entry contents owner page (Some (fresh_words l))
contents_after l contents (Unmap owner page) = with_entry contents owner page None
contents_after l contents (Write owner page index value) =
    with_entry contents owner page
    (option_map (λ words. slice_set words index value) (entry_of contents owner page))
contents_after l contents event = contents

-- the contents after the steps of a net, starting from `contents`, those of the base state
abbrev pub contents_of_net : LayoutParts → List (List (Option (List ℕ))) → List Record
    → List (List (Option (List ℕ)))
contents_of_net l contents net = fold (λ c r. contents_after l c r.event) contents net

-- the frame that a record hands out; of a kernel block it is the first frame. None if the record
-- hands out no frame. `after` is the state after the record
abbrev pub handed_by_reply : Memory → Event → Reply → Option Frame
handed_by_reply after event (GivesFrame frame) = Some frame
handed_by_reply after event (Moved from to) = Some to
handed_by_reply after (Map owner page) Done = frame_at after.pages owner page
handed_by_reply after event reply = None

abbrev pub handed_frame : Memory → Record → Option Frame
handed_frame after r = handed_by_reply after r.event r.reply
