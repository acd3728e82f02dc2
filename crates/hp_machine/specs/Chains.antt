-- Which volume of a list is the first that does not follow those before it.
use Rattle.std.specs.Prelude.{ℕ, ◌≡◌, ◌≢◌, ◌+◌, List, Some, length, slice_get, take}
use Rattle.hp_units.specs.LayoutParts.{LayoutParts}
use Rattle.hp_units.specs.History.{value_of}
use Rattle.hp_history.specs.Course.{CourseValue, started}
use Rattle.hp_history.specs.Kept.{pictured}
use Rattle.hp_history.specs.Volumes.{IsChain, records_in, state_after}
use Rattle.hp_history.specs.declared.volumes.Volume.{Volume}
use Rattle.hp_machine.specs.Replaying.{IsFault}
use Rattle.hp_machine.specs.declared.replaying.ReplayFault.{ReplayFault}
use Rattle.hp_machine.specs.declared.replaying.ReplayFault.TheVariants.{WrongReply, WrongSerial, OutOfMemory as ReplayOutOfMemory}
use Rattle.hp_machine.specs.declared.chains.ChainFault.{ChainFault}
use Rattle.hp_machine.specs.declared.chains.ChainFault.TheVariants.{WrongCount, WrongBase, Replay, OutOfMemory}

-- the volume has index `at`, and those before it follow one another
pub record StandsAfter (l : LayoutParts) (volumes : List Volume) (at : ℕ) (v : Volume) : Type 0 where
  pub here : slice_get volumes at ≡ Some v
  pub chain : IsChain l (take at volumes)

-- the volume with index `at` is the first at fault: its count of earlier records is wrong
pub record HasWrongCount (l : LayoutParts) (volumes : List Volume) (at : ℕ) (v : Volume) : Type 0 where
  pub first : StandsAfter l volumes at v
  pub count : v.before ≢ records_in (take at volumes)

-- the volume with index `at` is the first at fault: its count of earlier records is
-- right, its base wrong
pub record HasWrongBase (l : LayoutParts) (volumes : List Volume) (at : ℕ) (v : Volume) : Type 0 where
  pub first : StandsAfter l volumes at v
  pub count : v.before ≡ records_in (take at volumes)
  pub base : v.base ≢ pictured l (state_after l (take at volumes))

-- the volume with index `at` is the first at fault: its count of earlier records and its base are
-- right, and its records have this fault, which is not that memory ran out
pub record HasWrongRecords (l : LayoutParts) (volumes : List Volume) (at : ℕ) (v : Volume)
    (fault : ReplayFault) : Type 0 where
  pub first : StandsAfter l volumes at v
  pub count : v.before ≡ records_in (take at volumes)
  pub base : v.base ≡ pictured l (state_after l (take at volumes))
  pub records : IsFault l (state_after l (take at volumes)) (records_in (take at volumes)) v.records fault
  pub known : fault ≢ ReplayOutOfMemory

-- the fault names the first volume at fault; if memory ran out, it claims nothing
abbrev pub IsChainFault : LayoutParts → List Volume → ChainFault → Type 0
IsChainFault l volumes (WrongCount at) = (v : Volume) × HasWrongCount l volumes at v
IsChainFault l volumes (WrongBase at) = (v : Volume) × HasWrongBase l volumes at v
IsChainFault l volumes (Replay at fault) = (v : Volume) × HasWrongRecords l volumes at v fault
IsChainFault l volumes OutOfMemory = Unit {0}

-- the volumes do not follow one another; if memory ran out, this claims nothing
abbrev pub RefutesChain : LayoutParts → List Volume → ChainFault → Type 0
RefutesChain l volumes (WrongCount at) = IsChain l volumes → ⊥
RefutesChain l volumes (WrongBase at) = IsChain l volumes → ⊥
RefutesChain l volumes (Replay at fault) = IsChain l volumes → ⊥
RefutesChain l volumes OutOfMemory = Unit {0}

-- ---- a course that is sealed after each volume

-- a volume's count and base are those that the course begins with
pub record FollowsEnd (end : CourseValue) (v : Volume) : Type 0 where
  pub count : v.before ≡ end.before
  pub base : v.base ≡ pictured end.layout end.base

-- the course after the volume's records and then a seal
abbrev pub sealed_after : CourseValue → Volume → CourseValue
sealed_after end v =
    started end.layout (value_of end.layout end.base v.records) (end.before + length v.records)

-- the fault of the volume with index `at`: why it does not follow a course that was just sealed. If
-- memory ran out, this claims nothing
abbrev pub IsFaultAfter : CourseValue → (at : ℕ) → Volume → ChainFault → Type 0
IsFaultAfter end at v (WrongCount place) = (place ≡ at) × (v.before ≢ end.before)
IsFaultAfter end at v (WrongBase place) =
    (place ≡ at) × (v.before ≡ end.before) × (v.base ≢ pictured end.layout end.base)
IsFaultAfter end at v (Replay place fault) =
    (place ≡ at) × FollowsEnd end v × IsFault end.layout end.base end.before v.records fault
    × (fault ≢ ReplayOutOfMemory)
IsFaultAfter end at v OutOfMemory = Unit {0}

-- the fault of the volume with index `at`, whose records have this fault
abbrev pub chain_fault : ℕ → ReplayFault → ChainFault
chain_fault at (WrongReply serial) = Replay at (WrongReply serial)
chain_fault at (WrongSerial place) = Replay at (WrongSerial place)
chain_fault at ReplayOutOfMemory = OutOfMemory
