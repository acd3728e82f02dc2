-- Names for numbers by what they count, for the signatures of the definitions. Each is just ℕ, and
-- costs a proof nothing.
use Rattle.std.specs.Prelude.{ℕ, ◌*◌, ◌/◌, ◌^◌}

-- a page frame (Gorman, chapter 2)
abbrev pub Frame : Type 0
Frame = ℕ

-- the order of a block of 2^order frames (Knuth, volume 1, section 2.5)
abbrev pub Order : Type 0
Order = ℕ

-- a pageblock
abbrev pub Pageblock : Type 0
Pageblock = ℕ

-- a memory block (Linux, memory hotplug: memory block)
abbrev pub Block : Type 0
Block = ℕ

-- a processor
abbrev pub Cpu : Type 0
Cpu = ℕ

-- an owner of pages
abbrev pub Owner : Type 0
Owner = ℕ

-- a page of an owner
abbrev pub Page : Type 0
Page = ℕ

-- the serial of a record; that of a Begin also names its operation
abbrev pub Serial : Type 0
Serial = ℕ

-- the first frame of the block of this order that contains the frame (Knuth, volume 1, section 2.5)
abbrev pub ancestor : Frame → Order → Frame
ancestor frame order = frame / 2 ^ order * 2 ^ order
