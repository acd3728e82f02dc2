-- The log of a history: for each record, the difference between the states before and after it.
use Rattle.std.specs.Prelude.{◌≡◌, zero, ◌+◌, ◌^◌, Bool, true, false, not, ◌&&◌, ◌==◌, if◌then◌else◌, List, [], ◌∷◌, ◌++◌, Option, Some, length, take, flat_map}
use Rattle.std.specs.List.{list_any, range_with_len}
use Rattle.hp_units.specs.Numbers.{Frame, Block, Owner, Page}
use Rattle.hp_units.specs.Arithmetic.{all_blocks, all_frames, block_of, block_size}
use Rattle.hp_units.specs.History.{value_of}
use Rattle.hp_units.specs.LayoutParts.{LayoutParts}
use Rattle.hp_units.specs.Memory.{Memory, row_of}
use Rattle.hp_units.specs.Pages.{page_at}
use Rattle.hp_judge.specs.Events.{leaves_offline}
use Rattle.hp_judge.specs.LawfulNames.{LogEvent, Alloc, Free, Move, MachineSize, Record}
use Rattle.hp_judge.specs.Phases.{phase_events, phase_of}
use Rattle.hp_judge.specs.Pieces.{alloc_events, free_events, piece_at, same_piece}

-- the size of a machine of this layout: a memory block of the log is one of the layout
pub record IsSizeOf (l : LayoutParts) (m : MachineSize) : Type 0 where
  pub blocks : m.blocks ≡ l.blocks
  pub frames : 2 ^ m.block_order ≡ block_size l

-- ---- one step, by the states before and after it

-- the events that lead a memory block from its phase before to its phase after
abbrev pub block_events : (before after : Memory) → Block → List LogEvent
block_events before after block =
    phase_events block (phase_of (row_of before.blocks block)) (phase_of (row_of after.blocks block))

-- the piece that starts at a frame stays in use: it has the same order and mobility in both states,
-- and its block does not go offline in between
abbrev pub stays : LayoutParts → (before after : Memory) → Frame → Bool
stays l before after frame =
    same_piece (piece_at before frame) (piece_at after frame)
    && not (list_any leaves_offline (block_events before after (block_of l frame)))

-- the piece that started at a frame comes back, unless it stays; the piece that starts there now is
-- handed out, unless it stayed
abbrev pub frees_at : LayoutParts → (before after : Memory) → Frame → List LogEvent
frees_at l before after frame =
    if stays l before after frame then [] else free_events frame (piece_at before frame)

abbrev pub allocs_at : LayoutParts → (before after : Memory) → Frame → List LogEvent
allocs_at l before after frame =
    if stays l before after frame then [] else alloc_events frame (piece_at after frame)

-- first the frees, then the events of memory blocks, then the allocs, each in increasing order
abbrev pub changes : LayoutParts → (before after : Memory) → List LogEvent
changes l before after =
    flat_map (frees_at l before after) (all_frames l)
    ++ (flat_map (block_events before after) (all_blocks l)
    ++ flat_map (allocs_at l before after) (all_frames l))

abbrev pub same_page : Option (Owner × Page) → Option (Owner × Page) → Bool
same_page (Some page) (Some next) = page.0 == next.0 && page.1 == next.1
same_page page next = false

-- if the only change is that a page is at another frame, it is a move
abbrev pub with_move : (before after : Memory) → List LogEvent → List LogEvent
with_move before after (Free from zero ∷ Alloc to zero true ∷ []) =
    if same_page (page_at before.pages from) (page_at after.pages to) && not (from == to)
    then Move from to ∷ []
    else Free from 0 ∷ Alloc to 0 true ∷ []
with_move before after log = log

abbrev pub step_log : LayoutParts → (before after : Memory) → List LogEvent
step_log l before after = with_move before after (changes l before after)

-- ---- whole histories

-- the log of a history over a base state, record by record. An UndoAfter, or a Cancel that restores, is
-- logged like any other change of the state: as the change back to an earlier state
abbrev pub log_of : LayoutParts → Memory → List Record → List LogEvent
log_of l base h =
    flat_map (λ n. step_log l (value_of l base (take n h)) (value_of l base (take (n + 1) h)))
    (range_with_len 0 (length h))

-- the log of histories that follow one another, each over the state that the one before leads to
abbrev pub log_of_all : LayoutParts → Memory → List (List Record) → List LogEvent
log_of_all l base [] = []
log_of_all l base (h ∷ later) = log_of l base h ++ log_of_all l (value_of l base h) later
