-- The parts of a state as bytes. A count is written only if the layout does not give it.
use Rattle.std.specs.Prelude.{ℕ, ◌≡◌, ◌+◌, ◌*◌, ◌/◌, ◌%◌, ◌==◌, Bool, true, false, List, [], ◌∷◌, ◌++◌, Option, None, Some, length, nat_lt, slice_index_or, if◌then◌else◌}
use Rattle.std.specs.List.{flat_map, range_with_len}
use Rattle.hp_units.specs.LayoutParts.{LayoutParts}
use Rattle.hp_units.specs.Memory.{Pages, plain_kind}
use Rattle.hp_units.specs.Pages.{frame_at, words_at}
use Rattle.hp_units.specs.declared.rows.Auto.{Auto}
use Rattle.hp_units.specs.declared.rows.Auto.TheVariants.{Offline as OfflineAuto, Online as OnlineAuto, OnlineKernel as KernelAuto, OnlineMovable as MovableAuto}
use Rattle.hp_units.specs.declared.rows.Claim.{Claim}
use Rattle.hp_units.specs.declared.rows.Kind.{Kind}
use Rattle.hp_units.specs.declared.rows.Mobility.{Mobility}
use Rattle.hp_units.specs.declared.rows.Mobility.TheVariants.{Unmovable, Movable}
use Rattle.hp_units.specs.declared.rows.Row.{Row}
use Rattle.hp_units.specs.declared.rows.Wish.{Wish}
use Rattle.hp_units.specs.declared.rows.Wish.TheVariants.{Off as OffWish, Normal as NormalWish, Movable as MovableWish}
use Rattle.hp_units.specs.Rows.{state_number, zone_number}
use Rattle.hp_states.specs.Numbers.{number_code, option_code}

-- the bytes of a list whose length the layout does not give: its length, then its numbers
abbrev pub counted_code : List ℕ → List ℕ
counted_code numbers = number_code (length numbers) ++ flat_map number_code numbers

-- a number after `gap` items that are left out: both in one number if it is below 14
abbrev pub gapped_code : (gap number : ℕ) → List ℕ
gapped_code gap number =
    if nat_lt number 14 then number_code (16 * gap + number + 1)
    else number_code (16 * gap + 15) ++ number_code number

-- the bytes of many lists, after `gap` empty ones: for each list that is not empty, the number of empty
-- lists before it, its length and its numbers; at the end, the number of empty lists after the last one
abbrev pub lists_code : (gap : ℕ) → List (List ℕ) → List ℕ
lists_code gap [] = number_code (16 * gap)
lists_code gap ([] ∷ lists) = lists_code (gap + 1) lists
lists_code gap ((number ∷ numbers) ∷ lists) =
    gapped_code gap (length (number ∷ numbers))
    ++ (flat_map number_code (number ∷ numbers) ++ lists_code 0 lists)

-- the numbers of one more list are appended to `old`: `gap` empty lists were left out before it, and `next`
-- are left out now, whatever lists come later
abbrev pub IsListPut : (old new : List ℕ) → (gap next : ℕ) → (numbers : List ℕ) → Type 0
IsListPut old new gap next numbers =
    (later : List (List ℕ)) → new ++ lists_code next later ≡ old ++ lists_code gap (numbers ∷ later)

-- optional words: their number plus one, and then the words; 0 for none
abbrev pub words_code : Option (List ℕ) → List ℕ
words_code None = number_code 0
words_code (Some words) = number_code (length words + 1) ++ flat_map number_code words

-- a page that no well placed state has: a frame without words, or with too many or too few, or words
-- without a frame
abbrev pub odd_page_code : Option ℕ → Option (List ℕ) → List ℕ
odd_page_code frame words = number_code 1 ++ (option_code frame ++ words_code words)

-- the bytes of a page with its frame and its words, of which a page of the layout has `count`: the frame
-- plus two, then the words; 0 if the page is not mapped
abbrev pub page_code : (count : ℕ) → Option ℕ → Option (List ℕ) → List ℕ
page_code count None None = number_code 0
page_code count (Some frame) (Some words) =
    if length words == count then number_code (frame + 2) ++ flat_map number_code words
    else odd_page_code (Some frame) (Some words)
page_code count frame words = odd_page_code frame words

-- the bytes of the page with this number of an owner
abbrev pub page_code_at : LayoutParts → Pages → (owner page : ℕ) → List ℕ
page_code_at l ps owner page = page_code l.words (frame_at ps owner page) (words_at ps owner page)

-- the bytes of all pages of an owner
abbrev pub owner_code : LayoutParts → Pages → (owner : ℕ) → List ℕ
owner_code l ps owner = flat_map (page_code_at l ps owner) (range_with_len 0 l.pages)

-- the bytes of the kernel blocks that start at the frames of a list, after `gap` frames at which none
-- starts: for each block, the number of such frames before it and its order; at the end, the number of such
-- frames after the last block. The order is below 14 in every layout
abbrev pub kernel_code : (gap : ℕ) → List (Option ℕ) → List ℕ
kernel_code gap [] = number_code (16 * gap)
kernel_code gap (None ∷ orders) = kernel_code (gap + 1) orders
kernel_code gap (Some order ∷ orders) = gapped_code gap order ++ kernel_code 0 orders

-- the number for the kind of a pageblock
abbrev pub kind_number : Mobility → (isolated : Bool) → ℕ
kind_number Unmovable false = 0
kind_number Movable false = 1
kind_number Unmovable true = 2
kind_number Movable true = 3

-- the number of a pageblock's kind; past the last pageblock, that of a plain one
abbrev pub kind_at : (kinds : List Kind) → (pageblock : ℕ) → ℕ
kind_at kinds pageblock =
    kind_number (slice_index_or kinds pageblock plain_kind).mobility
    (slice_index_or kinds pageblock plain_kind).isolated

-- the kinds of four pageblocks, from pageblock `4 * four` on, in one byte, the first in the lowest bits
abbrev pub kinds_byte : (kinds : List Kind) → (four : ℕ) → ℕ
kinds_byte kinds four =
    kind_at kinds (4 * four) + 4 * kind_at kinds (4 * four + 1) + 16 * kind_at kinds (4 * four + 2)
    + 64 * kind_at kinds (4 * four + 3)

-- the byte of the kinds of four pageblocks
abbrev pub kinds_code : (kinds : List Kind) → (four : ℕ) → List ℕ
kinds_code kinds four = kinds_byte kinds four ∷ []

-- the number for a claim's wish
abbrev pub wish_number : Wish → ℕ
wish_number OffWish = 1
wish_number NormalWish = 2
wish_number MovableWish = 3

-- the number for an optional claim: its wish, and 4 more if its operation's number is odd. 0 for none
abbrev pub claim_number : Option Claim → ℕ
claim_number None = 0
claim_number (Some claim) = wish_number claim.wish + 4 * (claim.op % 2)

-- the bytes after a claim's number: half of its operation's number, rounded down
abbrev pub claim_code : Option Claim → List ℕ
claim_code None = []
claim_code (Some claim) = number_code (claim.op / 2)

-- the number for a row without its claim
abbrev pub row_number : Row → ℕ
row_number row = state_number row.state + 4 * zone_number row.zone

-- the bytes of a memory block's row: its state, its zone and the number of its claim in one byte, and
-- then what is left of its claim
abbrev pub row_code : Row → List ℕ
row_code row = (row_number row + 16 * claim_number row.claim) ∷ claim_code row.claim

-- the number for the policy that decides the state of an added block
abbrev pub auto_number : Auto → ℕ
auto_number OfflineAuto = 0
auto_number OnlineAuto = 1
auto_number KernelAuto = 2
auto_number MovableAuto = 3
