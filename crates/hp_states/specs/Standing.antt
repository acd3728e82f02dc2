-- The numbers that describe a walk's place.
use Rattle.std.specs.Prelude.{◌≡◌, ℕ, ◌+◌, ◌*◌, ◌<◌, List, [], ◌++◌, Some, length, slice_get}
use Rattle.std.specs.List.{flat_map}
use Rattle.hp_units.specs.Receipts.{receipts_of}
use Rattle.hp_units.specs.declared.replies.Record.{Record}
use Rattle.hp_laws.specs.Numberings.{number_of}
use Rattle.hp_states.specs.Exchanges.{AreExchanged, ExchangesValue, IsExchanged}
use Rattle.hp_states.specs.Interned.{KeepNumbers}
use Rattle.hp_states.specs.Numbers.{number_code}
use Rattle.hp_states.specs.Parts.{counted_code}
use Rattle.hp_schedules.specs.Schedules.{Setting}
use Rattle.hp_schedules.specs.Scripts.{own_operation}
use Rattle.hp_states.specs.Stops.{AreNumbersAt, AreSameStops, AreStopsAt, KeepStops, StopsValue}

-- the numbers of the places on the walk's path, and the transcripts, with the number of each
-- processor's transcript
pub record StandingValue : Type 0 where
  pub stops : StopsValue
  pub exchanged : ExchangesValue

-- the numbering of operations that a walk uses: twice the operation's own number, at every place
abbrev pub plainly : List Record → ℕ → ℕ
plainly news op = number_of 0 [] op

-- `s` has the numbers of the place after the new records and of the places before it, as far as they are
-- known, and the number of each processor's transcript
pub record IsStanding (g : Setting) (news : List Record) (s : StandingValue) : Type 0 where
  pub stops : AreStopsAt plainly g news s.stops
  pub exchanged : AreExchanged g news s.exchanged

-- each number keeps its meaning
pub record KeepMeanings (old new : StandingValue) : Type 0 where
  pub stops : KeepStops old.stops new.stops
  pub chains : KeepNumbers old.exchanged.chains new.exchanged.chains

-- all numbers keep their meaning; only the place may differ
abbrev pub AreSameNumbers : (old new : StandingValue) → Type 0
AreSameNumbers old new =
    AreSameStops old.stops new.stops × (new.exchanged.chains ≡ old.exchanged.chains)

-- a processor's part of a key: the number of its transcript, and the operation that it began last
pub record IsPart (s : StandingValue) (cpu : ℕ) (news : List Record) (key : List ℕ) : Type 0 where
  pub number : ℕ
  pub first : slice_get key (2 * cpu + 2) ≡ Some number
  pub exchanged : IsExchanged s.exchanged.chains cpu news number
  pub second : slice_get key (2 * cpu + 3) ≡ Some (own_operation (receipts_of cpu news))

-- the beginning of a key: the numbers of the state and of the list of operations that a Cancel can
-- undo, and the parts of the processors below `cpus`
pub record IsBegunKey (s : StandingValue) (news : List Record) (state openings cpus : ℕ)
    (key : List ℕ) : Type 0 where
  pub long : length key ≡ 2 * cpus + 2
  pub state_first : slice_get key 0 ≡ Some state
  pub openings_next : slice_get key 1 ≡ Some openings
  pub parts : (cpu : ℕ) → cpu < cpus → IsPart s cpu news key

-- the code of the beginning of a key with `count` numbers
pub record IsBegunCode (s : StandingValue) (news : List Record) (count state openings cpus : ℕ)
    (code : List ℕ) : Type 0 where
  pub key : List ℕ
  pub code_is : code ≡ number_code count ++ flat_map number_code key
  pub begun : IsBegunKey s news state openings cpus key

-- the new code adds the parts of the processors below `cpus` to the code of a key without parts
abbrev pub AddsParts : StandingValue → (news : List Record) → (cpus : ℕ) → (old new : List ℕ) → Type 0
AddsParts s news cpus old new =
    (count state openings : ℕ) → IsBegunCode s news count state openings 0 old
    → IsBegunCode s news count state openings cpus new

-- a key of the place after the new records: the numbers of the state and of the list of operations
-- that a Cancel can undo there, and a part for each processor with a script
pub record IsKey (g : Setting) (s : StandingValue) (news : List Record) (key : List ℕ) : Type 0 where
  pub state : ℕ
  pub openings : ℕ
  pub state_first : slice_get key 0 ≡ Some state
  pub openings_next : slice_get key 1 ≡ Some openings
  pub numbers_are : AreNumbersAt (plainly news) g news s.stops state openings
  pub parts : (cpu : ℕ) → cpu < length g.scripts → IsPart s cpu news key
  pub long : length key ≡ 2 * length g.scripts + 2

-- the code of such a key: how many numbers it has, and then the numbers
pub record IsKeyCode (g : Setting) (s : StandingValue) (news : List Record) (code : List ℕ) : Type 0 where
  pub key : List ℕ
  pub code_is : code ≡ counted_code key
  pub key_is : IsKey g s news key
