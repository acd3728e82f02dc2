-- Rows, kinds and marks of numbers that are not in the layout.
use Rattle.std.proofs.Common.{◌≡◌, ℕ, ◌+◌, ◌*◌, ◌<◌, ◌≤◌, List, [], ◌∷◌, ◌++◌, length, get_or, IfSome, Option, None, arith}
use Rattle.std.proofs.lemmas.Bool.{cases_lt}
use Rattle.std.proofs.lemmas.List.{get_or_append_left, get_or_past, get_or_push}
use Rattle.std.proofs.lemmas.Nat.{pow_pos}
use Rattle.std.proofs.Math.Nat.{le-div_iff_mul-le}
use Rattle.hp_units.specs.LayoutParts.{LayoutParts, IsLayout}
use Rattle.hp_units.specs.Arithmetic.{frame_count, pageblock_count}
use Rattle.hp_units.specs.Memory.{offline_row, plain_kind}
use Rattle.hp_units.specs.Placement.{IsKernelAt, IsRow, kind_at, row_at}
use Rattle.hp_units.proofs.Placed.{size_some}
use Rattle.hp_plain.specs.Names.{Kind, Row}
use Rattle.hp_plain.specs.Placing.{AreKinds, AreRows, IsKernelPlaced, IsKind, mark_of, unplugged}

-- a frame past the last one is as if offline
past_unplugged : (l : LayoutParts) (rows : List Row) (frame : ℕ) → IsLayout l → length rows ≡ l.blocks
    → frame_count l ≤ frame → unplugged l rows frame ≡ 1
past_unplugged l rows frame layout size past = grind (arith, le-div_iff_mul-le, size_some, get_or_past)

pub all_unplugged : (l : LayoutParts) (rows : List Row) (marks : List ℕ) (number : ℕ) → IsLayout l
    → length rows ≡ l.blocks → number ≡ frame_count l → length marks ≡ number
    → ((k : ℕ) → k < number → get_or marks k 1 ≡ unplugged l rows k) → (frame : ℕ)
    → mark_of marks frame ≡ unplugged l rows frame
all_unplugged l rows marks number layout size all long each frame =
    grind (arith, cases_lt, get_or_past, past_unplugged)

-- each row is one that a block may have if each that there is is
pub all_rows : (rows : List Row) (number : ℕ) → number ≡ length rows
    → ((k : ℕ) → k < number → IsRow (get_or rows k offline_row)) → AreRows rows
all_rows rows number all each block = grind (arith, cases_lt, get_or_past)

-- the kind of a pageblock of an offline block fits an offline row
plain_fits : (kind : Kind) (row : Row) → kind ≡ plain_kind → row ≡ offline_row → IsKind kind row
plain_fits kind row k r = grind arith

-- the kinds fit the rows if each that there is does
pub all_kinds : (l : LayoutParts) (kinds : List Kind) (rows : List Row) (number : ℕ) → IsLayout l
    → length kinds ≡ pageblock_count l → length rows ≡ l.blocks → number ≡ l.blocks * l.pageblocks
    → ((k : ℕ) → k < number → IsKind (kind_at kinds k) (row_at l rows k)) → AreKinds l kinds rows
all_kinds l kinds rows number layout size blocks all each pageblock =
    grind (arith, cases_lt, pow_pos, le-div_iff_mul-le, plain_fits, get_or_past)

-- the kernel's blocks are where they may be if each that there is is
pub kernel_each : (l : LayoutParts) (rows : List Row) (kernel : List (Option ℕ)) (number : ℕ)
    → number ≡ length kernel
    → ((k : ℕ) → k < number → IfSome (get_or kernel k None) (IsKernelAt l rows k))
    → IsKernelPlaced l rows kernel
kernel_each l rows kernel number all each first = grind (arith, cases_lt, get_or_past)

-- one more frame's mark
pub marks_more : (l : LayoutParts) (rows : List Row) (marks new : List ℕ) (number x : ℕ)
    → length marks ≡ number
    → ((k : ℕ) → k < number → get_or marks k 1 ≡ unplugged l rows k) → new ≡ marks ++ x ∷ []
    → x ≡ unplugged l rows number → (k : ℕ) → k < number + 1 → get_or new k 1 ≡ unplugged l rows k
marks_more l rows marks new number x long each pushed is k low =
    grind (arith, cases_lt, get_or_append_left, get_or_push)
