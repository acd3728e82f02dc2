-- The text of a state: part by part, without the parts that are empty.
use Rattle.std.specs.Prelude.{ℕ, zero, suc, ◌+◌, Bool, true, false, if◌then◌else◌, List, [], ◌∷◌, ◌++◌, codes, Option, Some, None, slice_get, unwrap_or}
use Rattle.std.specs.List.{flat_map}
use Rattle.std.specs.Fmt.{decimal}
use Rattle.hp_units.specs.declared.rows.Zone.{Zone}
use Rattle.hp_units.specs.declared.rows.Mobility.{Mobility}
use Rattle.hp_units.specs.declared.rows.Mobility.TheVariants.{Unmovable, Movable}
use Rattle.hp_units.specs.declared.rows.Class.{Class}
use Rattle.hp_units.specs.declared.rows.Class.TheVariants.{Nu, Nm, Mm, IsoN, IsoM}
use Rattle.hp_units.specs.declared.rows.Pool.{Pool}
use Rattle.hp_units.specs.declared.rows.Pool.TheVariants.{Nu as NuPool, Nm as NmPool, Mm as MmPool}
use Rattle.hp_units.specs.declared.rows.State.{State}
use Rattle.hp_units.specs.declared.rows.State.TheVariants.{Offline as OfflineState, Online as OnlineState, Going as GoingState, Absent as AbsentState}
use Rattle.hp_units.specs.declared.rows.Auto.{Auto}
use Rattle.hp_units.specs.declared.rows.Auto.TheVariants.{Offline as OfflineAuto, Online as OnlineAuto, OnlineKernel as KernelAuto, OnlineMovable as MovableAuto}
use Rattle.hp_units.specs.declared.rows.Kind.{Kind}
use Rattle.hp_units.specs.declared.rows.Row.{Row}
use Rattle.hp_units.specs.declared.rows.Claim.{Claim}
use Rattle.hp_units.specs.LayoutParts.{LayoutParts}
use Rattle.hp_units.specs.Arithmetic.{frame_count, pageblock_count}
use Rattle.hp_units.specs.Memory.{FreeAreas, FreeFrames, Pages, Blocks, Memory, free_list, cached_list, kernel_order}
use Rattle.hp_units.specs.Pages.{frame_at, words_at}
use Rattle.hp_units.specs.Texts.{class_text, pool_text, zone_text, auto_text}
use Rattle.hp_text.specs.declared.state.Mark.{Mark}
use Rattle.hp_text.specs.declared.state.Mark.TheVariants as mark

-- ---- words and lines

-- a newline
abbrev pub newline : List ℕ
newline = 10 ∷ []

-- a number after a space
abbrev pub number_word : ℕ → List ℕ
number_word n = codes " " ++ decimal n

-- a number, if there is one
abbrev pub decimal_of : Option ℕ → List ℕ
decimal_of None = []
decimal_of (Some n) = decimal n

-- the texts of the numbers below `n`, one after another
unfoldable pub texts_below : (ℕ → List ℕ) → ℕ → List ℕ
texts_below text zero = []
texts_below text (suc n) = texts_below text n ++ text n

-- a line of a head and words, if there are words
unfoldable pub words_line : (head words : List ℕ) → List ℕ
words_line head [] = []
words_line head (c ∷ cs) = head ++ (c ∷ cs) ++ newline

-- a line of a head and numbers, if there are numbers
unfoldable pub numbers_line : (head numbers : List ℕ) → List ℕ
numbers_line head [] = []
numbers_line head (n ∷ ns) = head ++ flat_map number_word (n ∷ ns) ++ newline

-- ---- the memory blocks

abbrev pub zone_word : Option Zone → List ℕ
zone_word None = []
zone_word (Some zone) = codes " " ++ zone_text zone

-- a memory block's state, with its zone if it is online or going offline
abbrev pub state_words : State → Option Zone → List ℕ
state_words OfflineState _ = codes "offline"
state_words OnlineState zone = codes "online" ++ zone_word zone
state_words GoingState zone = codes "going" ++ zone_word zone
state_words AbsentState _ = codes "absent"

-- the operation that holds a memory block
abbrev pub claim_words : Option Claim → List ℕ
claim_words None = []
claim_words (Some claim) = codes " op " ++ decimal claim.op

unfoldable pub row_line : ℕ → Row → List ℕ
row_line block row =
    codes "block " ++ decimal block ++ codes " " ++ state_words row.state row.zone ++ claim_words row.claim
    ++ newline

-- the line of a memory block, if there is such a block
abbrev pub block_line : ℕ → Option Row → List ℕ
block_line block None = []
block_line block (Some row) = row_line block row

unfoldable pub blocks_text : LayoutParts → Blocks → List ℕ
blocks_text l bs = texts_below (λ block. block_line block (slice_get bs.rows block)) l.blocks

-- what a block becomes when it is added, unless that is offline
unfoldable pub auto_line : Auto → List ℕ
auto_line OfflineAuto = []
auto_line OnlineAuto = codes "auto: " ++ auto_text OnlineAuto ++ newline
auto_line KernelAuto = codes "auto: " ++ auto_text KernelAuto ++ newline
auto_line MovableAuto = codes "auto: " ++ auto_text MovableAuto ++ newline

-- ---- the pageblocks

abbrev pub mark_text : Mark → List ℕ
mark_text mark.Unmovable = codes "unmovable"
mark_text mark.Isolated = codes "isolated"

abbrev pub is_unmovable : Mobility → Bool
is_unmovable Unmovable = true
is_unmovable Movable = false

-- a pageblock of this kind has the mark
abbrev pub has_mark : Mark → Kind → Bool
has_mark mark.Unmovable kind = is_unmovable kind.mobility
has_mark mark.Isolated kind = kind.isolated

-- the number of a pageblock, if it has the mark
abbrev pub marked_word : Mark → ℕ → Option Kind → List ℕ
marked_word m pageblock None = []
marked_word m pageblock (Some kind) = if has_mark m kind then number_word pageblock else []

unfoldable pub marked_words : Mark → LayoutParts → FreeAreas → List ℕ
marked_words m l a =
    texts_below (λ pageblock. marked_word m pageblock (slice_get a.kinds pageblock)) (pageblock_count l)

unfoldable pub marked_line : Mark → LayoutParts → FreeAreas → List ℕ
marked_line m l a = words_line (mark_text m ++ codes ":") (marked_words m l a)

-- ---- the lists of free frames

-- the line of a class's list of an order, and of a processor's list for a pool, unless the list is
-- empty
abbrev pub free_line : Class → ℕ → List ℕ → List ℕ
free_line class order frames =
    numbers_line (class_text class ++ codes " " ++ decimal order ++ codes ":") frames

abbrev pub cached_line : (cpu : ℕ) → Pool → List ℕ → List ℕ
cached_line cpu pool frames =
    numbers_line (codes "cpu " ++ decimal cpu ++ codes " " ++ pool_text pool ++ codes ":") frames

-- a class's lists, lowest order first
unfoldable pub class_lists_text : LayoutParts → FreeAreas → Class → List ℕ
class_lists_text l a class =
    texts_below (λ order. free_line class order (free_list a class order)) (l.order + 1)

unfoldable pub free_lists_text : LayoutParts → FreeAreas → List ℕ
free_lists_text l a =
    class_lists_text l a Nu ++ class_lists_text l a Nm ++ class_lists_text l a Mm ++ class_lists_text l a IsoN
    ++ class_lists_text l a IsoM

-- a processor's lists
unfoldable pub processor_lists_text : FreeFrames → ℕ → List ℕ
processor_lists_text fs cpu =
    cached_line cpu NuPool (cached_list fs cpu NuPool) ++ cached_line cpu NmPool (cached_list fs cpu NmPool)
    ++ cached_line cpu MmPool (cached_list fs cpu MmPool)

unfoldable pub processors_lists_text : LayoutParts → FreeFrames → List ℕ
processors_lists_text l fs = texts_below (processor_lists_text fs) l.cpus

-- ---- what is in use

-- the line of the kernel's block that starts at a frame, if there is one
abbrev pub kernel_line : ℕ → Option ℕ → List ℕ
kernel_line frame None = []
kernel_line frame (Some order) =
    codes "kernel " ++ decimal frame ++ codes " order " ++ decimal order ++ newline

unfoldable pub kernel_text : LayoutParts → Memory → List ℕ
kernel_text l s = texts_below (λ frame. kernel_line frame (kernel_order s frame)) (frame_count l)

-- the name of an owner by its number; empty if the number has no name
abbrev pub name_of : List (List ℕ) → ℕ → List ℕ
name_of names owner = unwrap_or (slice_get names owner) []

-- the line of a mapped page: its owner's name, its number, its frame, and its words
abbrev pub page_head : (name : List ℕ) (page frame : ℕ) → List ℕ
page_head name page frame =
    codes "page " ++ name ++ codes " " ++ decimal page ++ codes " at " ++ decimal frame ++ codes ":"

unfoldable pub page_line : (name : List ℕ) (page frame : ℕ) (words : List ℕ) → List ℕ
page_line name page frame words = page_head name page frame ++ flat_map number_word words ++ newline

-- the line of a page, if it is mapped
abbrev pub page_text : (name : List ℕ) (page : ℕ) → Option ℕ → Option (List ℕ) → List ℕ
page_text name page None words = []
page_text name page (Some frame) words = page_line name page frame (unwrap_or words [])

-- the lines of an owner's mapped pages
unfoldable pub owner_text : LayoutParts → List (List ℕ) → Pages → ℕ → List ℕ
owner_text l names ps owner =
    texts_below
    (λ page. page_text (name_of names owner) page (frame_at ps owner page) (words_at ps owner page)) l.pages

unfoldable pub pages_text : LayoutParts → List (List ℕ) → Pages → List ℕ
pages_text l names ps = texts_below (owner_text l names ps) l.owners

-- ---- the whole state

-- the lines of the memory blocks, of what an added block becomes, and of the marked pageblocks
unfoldable pub rows_text : LayoutParts → Memory → List ℕ
rows_text l s =
    blocks_text l s.blocks ++ auto_line s.blocks.auto ++ marked_line mark.Unmovable l s.free.areas
    ++ marked_line mark.Isolated l s.free.areas

-- the lines of the frames: those that are free, then those in use
unfoldable pub frames_text : LayoutParts → List (List ℕ) → Memory → List ℕ
frames_text l names s =
    free_lists_text l s.free.areas ++ processors_lists_text l s.free ++ kernel_text l s
    ++ pages_text l names s.pages

unfoldable pub state_text : LayoutParts → List (List ℕ) → Memory → List ℕ
state_text l names s = codes "state" ++ newline ++ rows_text l s ++ frames_text l names s
