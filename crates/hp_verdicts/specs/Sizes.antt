-- The size of the machine that a log is judged for.
use Rattle.std.specs.Prelude.{◌≡◌, ◌≢◌, ℕ, ◌-◌, ◌<◌, ◌≤◌, ◌^◌, Option, Some, None, max}
use Rattle.hp_judge.specs.Events.{frame_count}
use Rattle.hp_verdicts.specs.Names.{MachineSize}
use Rattle.hp_verdicts.specs.declared.options.SizeFault.{SizeFault}
use Rattle.hp_verdicts.specs.declared.options.SizeFault.TheVariants.{Missing, Different, Wrong}
use Rattle.hp_verdicts.specs.declared.selection.BlockRange.{BlockRange}

-- the number of frames per memory block, from the options or the log. If both give it, they give
-- the same number
abbrev pub AreFrames : (given told : Option ℕ) → ℕ → Type 0
AreFrames None None frames = ⊥
AreFrames None (Some told) frames = frames ≡ told
AreFrames (Some given) None frames = frames ≡ given
AreFrames (Some given) (Some told) frames = (frames ≡ given) × (frames ≡ told)

-- the number of memory blocks in 2^26 frames, or the range's end if that is greater
abbrev pub blocks_for : (order : ℕ) → Option BlockRange → ℕ
blocks_for order None = 2 ^ (26 - order)
blocks_for order (Some range) = max (2 ^ (26 - order)) range.end

-- the machine has memory blocks of this many frames, a power of two up to 2^26. It has `blocks_for` of
-- them, and the number of all frames fits into 32 bits
pub record IsSizeFor (frames : ℕ) (range : Option BlockRange) (size : MachineSize) : Type 0 where
  pub low : size.block_order ≤ 26
  pub frames_are : frames ≡ 2 ^ size.block_order
  pub blocks_are : size.blocks ≡ blocks_for size.block_order range
  pub small : frame_count size < 2 ^ 32

abbrev pub HasNoSize : (frames : ℕ) → Option BlockRange → Type 0
HasNoSize frames range = (size : MachineSize) → IsSizeFor frames range size → ⊥

-- why there is no size
abbrev pub IsSizeFault : (given told : Option ℕ) → Option BlockRange → SizeFault → Type 0
IsSizeFault given told range Missing = (given ≡ None) × (told ≡ None)
IsSizeFault given told range Different =
    (a b : ℕ) × (given ≡ Some a) × (told ≡ Some b) × (a ≢ b)
IsSizeFault given told range Wrong =
    (frames : ℕ) × AreFrames given told frames × HasNoSize frames range

-- the size that the options and the log give
abbrev pub IsSizeOf : (given told : Option ℕ) → Option BlockRange → MachineSize → Type 0
IsSizeOf given told range size =
    (frames : ℕ) × AreFrames given told frames × IsSizeFor frames range size
