-- What the numbers of where a walk stands mean.
use Rattle.std.proofs.Common.{◌≡◌, ℕ, ◌<◌, Bool, List, [], ◌∷◌, length, replicate, cond, Some, None, get_or, arith}
use Rattle.std.proofs.lemmas.Option.{slice_get-get_or, slice_get_within}
use Rattle.hp_units.specs.declared.replies.Record.{Record}
use Rattle.hp_schedules.specs.Alike.{is_closed}
use Rattle.hp_states.specs.Exchanges.{IsExchanged}
use Rattle.hp_schedules.specs.Schedules.{Setting}
use Rattle.hp_states.specs.Standing.{AreSameNumbers, IsStanding, KeepMeanings, StandingValue, plainly}
use Rattle.hp_states.proofs.Exchanged.{exchanged_begun}
use Rattle.hp_states.proofs.Numberings.{keep_same}
use Rattle.hp_states.proofs.StopNumbers.{begun_at, keep_none as keep_no_stops, keep_same_stops}

-- ---- numbers that mean what they meant

pub keep_none : (s : StandingValue) → KeepMeanings s s
keep_none s = record { stops = keep_no_stops s.stops; chains = λ n xs h. h }

pub keep_same_numbers : (old new : StandingValue) → AreSameNumbers old new → KeepMeanings old new
keep_same_numbers old new same = grind (arith, keep_same_stops, keep_same)

-- ---- before any call

pub stood_begun : (g : Setting) (s : StandingValue) (n : ℕ) (closed : Bool) → n ≡ length g.scripts
    → closed ≡ is_closed g.start → s ≡ record {
      stops = record {
        codes = [];
        lists = [] ∷ [];
        here = record { openings = cond closed (Some 0) None; state = None };
        before = [];
      };
      exchanged = record { chains = [] ∷ []; here = replicate n 0 };
    }
    → IsStanding g [] s
stood_begun g s n closed many told is =
    rw is (record { stops = begun_at plainly g closed told; exchanged = exchanged_begun g n many })

-- ---- the number of a processor's exchanges

pub number_inside : (g : Setting) (news : List Record) (s : StandingValue) (numbers : List ℕ) (cpu : ℕ)
    → numbers ≡ s.exchanged.here → cpu < length g.scripts → IsStanding g news s → cpu < length numbers
number_inside g news s numbers cpu same within stood = grind (arith, slice_get_within)

pub number_read : (g : Setting) (news : List Record) (s : StandingValue) (numbers : List ℕ) (cpu : ℕ)
    → numbers ≡ s.exchanged.here → cpu < length g.scripts → IsStanding g news s
    → IsExchanged s.exchanged.chains cpu news (get_or numbers cpu 0)
number_read g news s numbers cpu same within stood =
    let known = stood.exchanged cpu within in
    let read = slice_get-get_or numbers cpu 0 (number_inside g news s numbers cpu same within stood) in
    let is : known.0 ≡ get_or numbers cpu 0 = cc in
    rw (← is) known.2
