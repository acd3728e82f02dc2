-- What an event does to some memory blocks only.
use Rattle.std.specs.Prelude.{◌≡◌, ℕ, nat_lt, nat_le, Bool, true, false, ◌&&◌}
use Rattle.hp_judge.specs.BlockLogs.{concerns}
use Rattle.hp_judge.specs.Events.{block_of, is_well_formed, allocates, allocates_unmovable, frees, is_of}
use Rattle.hp_verdicts.specs.Names.{LogEvent, Other, MachineSize}
use Rattle.hp_verdicts.specs.declared.selection.BlockRange.{BlockRange}

-- the memory blocks from `first` on, and before `end`
abbrev pub contains : BlockRange → ℕ → Bool
contains r b = nat_le r.first b && nat_lt b r.end

-- two events do the same to a frame; `Other` does nothing
pub record DoesAlike (m : MachineSize) (f : ℕ) (e part : LogEvent) : Type 0 where
  pub allocates_is : allocates m f part ≡ allocates m f e
  pub unmovable_is : allocates_unmovable m f part ≡ allocates_unmovable m f e
  pub frees_is : frees m f part ≡ frees m f e

-- both or neither are onlines or offlines of the block, and both or neither belong to its part of a log
pub record NamesAlike (m : MachineSize) (b : ℕ) (e part : LogEvent) : Type 0 where
  pub is_of_is : is_of b part ≡ is_of b e
  pub concerns_is : concerns m b part ≡ concerns m b e

-- in the blocks of the range, `part` does what the event does; in all others, it does nothing
pub record IsPartOf (m : MachineSize) (r : BlockRange) (e part : LogEvent) : Type 0 where
  pub well_formed : is_well_formed m part ≡ true
  pub frames : (f : ℕ) → contains r (block_of m f) ≡ true → DoesAlike m f e part
  pub other_frames : (f : ℕ) → contains r (block_of m f) ≡ false → DoesAlike m f Other part
  pub blocks : (b : ℕ) → contains r b ≡ true → NamesAlike m b e part
  pub other_blocks : (b : ℕ) → contains r b ≡ false → NamesAlike m b Other part
  -- an online or an offline stays as it is
  pub kept : (b : ℕ) → is_of b part ≡ true → part ≡ e
