-- What a method reads of the judge's own fields.
use Rattle.std.proofs.Common.{◌≡◌, ℕ, ◌+◌, ◌*◌, ◌%◌, ◌^◌, ◌<◌, ◌≤◌, true, ◌&&◌, ◌==◌, Option, None, arith, List, length}
use Rattle.std.specs.Prelude.{nat_lt, nat_le}
use Rattle.std.proofs.lemmas.Bool.{eq-eqb, and_from, le-leb, lt-ltb}
use Rattle.std.proofs.Math.Nat.{mul-le-mul_right}
use Rattle.hp_judge.specs.Names.{MachineSize, FrameSince, FrameState, BlockState}
use Rattle.hp_judge.specs.Tables.{IsLowest, IsSized, Tables, block_at, frame_at, in_use_since}
use Rattle.hp_judge.specs.Events.{frame_count, block_of, is_piece}
use Rattle.hp_judge.proofs.Pieces.{NoneInUse, in_frames, piece_end, piece_parts}

-- ---- frames lie in the table

-- frames from `start` on lie in the table of frames
pub record FitsIn (frames : List FrameState) (start count : ℕ) : Type 0 where
  pub within : start + count ≤ length frames
  pub small : start + count < 2 ^ 32

-- the machine of the lowest k blocks
abbrev lowest : MachineSize → ℕ → MachineSize
lowest m k = record { block_order = m.block_order; blocks = k }

-- a piece of the machine whose block is one of the lowest k is a piece of these
lowest_piece : (m : MachineSize) (k start order : ℕ) → is_piece m start order ≡ true → block_of m start < k
    → is_piece (lowest m k) start order ≡ true
lowest_piece m k start order h low =
    let p = piece_parts m start order h in
    and_from (nat_le order m.block_order) (start % 2 ^ order == 0 && nat_lt start (k * 2 ^ m.block_order))
    (le-leb order m.block_order p.order_low)
    (and_from (start % 2 ^ order == 0) (nat_lt start (k * 2 ^ m.block_order))
    (eq-eqb (start % 2 ^ order) 0 p.aligned) (lt-ltb start (k * 2 ^ m.block_order) (in_frames _ start low)))

-- `u` are the judge's own fields, and `t` the tables that they show
pub piece_fits : (u t : Tables) (start order first count : ℕ) → u ≡ t → IsSized u.size u.frames u.blocks
    → is_piece t.size start order ≡ true → block_of t.size start < length t.blocks → first ≡ start
    → count ≡ 2 ^ order → FitsIn u.frames first count
piece_fits u t start order first count same is h low one two =
    let k : ℕ = length u.blocks in
    let all : start + 2 ^ order ≤ k * 2 ^ u.size.block_order =
    piece_end _ start order (lowest_piece u.size k start order (rw same h) (rw same low)) in
    let most : k * 2 ^ u.size.block_order ≤ frame_count u.size =
    mul-le-mul_right (2 ^ u.size.block_order) is.blocks_are in
    record { within = omega (arith, is.frames_are); small = omega (arith, is.small) }

-- ---- what a method knows of its fields, it knows of the tables

pub state_is : (u t : Tables) (block start : ℕ) (s : BlockState) → u ≡ t → block ≡ block_of u.size start
    → s ≡ block_at u.blocks block → block_at t.blocks (block_of t.size start) ≡ s
state_is u t block start s same is shown = rw (shown, is, same)

pub none_is : (u t : Tables) (start count first many : ℕ) → u ≡ t → first ≡ start → many ≡ count
    → ((f : ℕ) → first ≤ f → f < first + many → in_use_since (frame_at u.frames f) ≡ None)
    → NoneInUse t start count
none_is u t start count first many same one two h f low high = rw (← same) (h f (omega arith) (omega arith))

pub block_start : (u t : Tables) (block first count : ℕ) → u ≡ t → first ≡ block
    → count ≡ 2 ^ u.size.block_order → first * count ≡ block * 2 ^ t.size.block_order
block_start u t block first count same one two = rw (one, two, same)

pub lowest_is : (since : FrameState → Option ℕ) (u t : Tables) (start count first many : ℕ)
    (found : FrameSince)
    → u ≡ t → first ≡ start → many ≡ count → IsLowest (λ f. since (frame_at u.frames f)) first many found
    → IsLowest (λ f. since (frame_at t.frames f)) start count found
lowest_is since u t start count first many found same one two h = rw (← same, ← one, ← two) h
