-- Keys of places: how they are made, and that what goes on from places with one key goes on alike.
use Rattle.std.proofs.Common.{◌≡◌, ℕ, zero, suc, ◌+◌, ◌*◌, ◌<◌, ◌≤◌, List, [], ◌∷◌, ◌++◌, length, Option, Some, slice_get, refl, ap, ◌∙◌, arith, inl, inr}
use Rattle.std.specs.List.{flat_map}
use Rattle.std.specs.Prelude.{fold}
use Rattle.std.proofs.lemmas.Bool.{cases_lt}
use Rattle.std.proofs.lemmas.List.{append-nil, append_assoc, flat_map_more, length-append, length_push}
use Rattle.std.proofs.lemmas.Option.{slice_get_within}
use Rattle.hp_laws.proofs.Lists.{get_left}
use Rattle.hp_units.specs.Receipts.{receipts_of}
use Rattle.hp_units.specs.declared.replies.Record.{Record}
use Rattle.hp_schedules.specs.Alike.{AreAlike, exchanges}
use Rattle.hp_states.specs.Exchanges.{IsExchanged}
use Rattle.hp_schedules.specs.Schedules.{Setting, play_one, plays, schedule_of}
use Rattle.hp_schedules.specs.Scripts.{own_operation}
use Rattle.hp_states.specs.Numbers.{number_code}
use Rattle.hp_states.specs.Standing.{AddsParts, IsBegunCode, IsBegunKey, IsKey, IsKeyCode, IsPart, KeepMeanings, StandingValue, plainly}
use Rattle.hp_states.specs.Stops.{AreNumbersAt, IsNumbering}
use Rattle.hp_states.proofs.Apart.{counted-apart}
use Rattle.hp_states.proofs.Exchanged.{exchanges_other, exchanges_own}
use Rattle.hp_states.proofs.StopNumbers.{joined_equal, numbers_join, numbers_kept}
use Rattle.hp_laws.proofs.Numbered.{differ}
use Rattle.hp_units.specs.History.{net_of}
use Rattle.hp_schedules.proofs.Plays.{asks_within, caller}

-- ---- operations by their own numbers

pub plain_numbering : IsNumbering plainly
plain_numbering = record { differ = λ news. differ 0 []; steady = λ news r goes. refl }

-- ---- as more numbers come

part_kept : (old new : StandingValue) (cpu : ℕ) (news : List Record) (key : List ℕ)
    → KeepMeanings old new → IsPart old cpu news key → IsPart new cpu news key
part_kept old new cpu news key keep is = grind arith

key_kept : (g : Setting) (old new : StandingValue) (news : List Record) (key : List ℕ)
    → KeepMeanings old new → IsKey g old news key → IsKey g new news key
key_kept g old new news key keep is = search (arith, numbers_kept, part_kept, is.parts)

pub code_kept : (g : Setting) (old new : StandingValue) (news : List Record) (code : List ℕ)
    → KeepMeanings old new → IsKeyCode g old news code → IsKeyCode g new news code
code_kept g old new news code keep is = grind (arith, key_kept)

-- ---- a key that is made

-- one processor's more
two_ends : (key : List ℕ) (first second : ℕ)
    → (slice_get (key ++ first ∷ second ∷ []) (length key) ≡ Some first)
    × (slice_get (key ++ first ∷ second ∷ []) (length key + 1) ≡ Some second)
two_ends [] first second = (refl, refl)
two_ends (x ∷ key) first second =
    let next : length (x ∷ key) + 1 ≡ suc (length key + 1) = omega arith in
    let rest = two_ends key first second in
    (rest.0, rw next rest.1)

part_left : (s : StandingValue) (cpu : ℕ) (news : List Record) (key more : List ℕ) → IsPart s cpu news key
    → IsPart s cpu news (key ++ more)
part_left s cpu news key more part = grind (arith, get_left, slice_get_within)

key_more : (s : StandingValue) (news : List Record) (state openings cpu number : ℕ) (old : List ℕ)
    → IsBegunKey s news state openings cpu old → IsExchanged s.exchanged.chains cpu news number
    → IsBegunKey s news state openings (cpu + 1) (old ++ number ∷ own_operation (receipts_of cpu news) ∷ [])
key_more s news state openings cpu number old begun exchanged = record {
  long = omega (arith, begun.long, length-append old (number ∷ own_operation (receipts_of cpu news) ∷ []));
  state_first = get_left old _ 0 (omega (arith, begun.long)) ∙ begun.state_first;
  openings_next = get_left old _ 1 (omega (arith, begun.long)) ∙ begun.openings_next;
  parts =
      λ c less. elim (cases_lt c cpu) [
        | inl below ↦ part_left s c news old _ (begun.parts c below)
        | inr past ↦ (let same : c ≡ cpu = omega (arith, less, past) in
            let here : 2 * cpu + 2 ≡ length old = omega (arith, begun.long) in
            let next : 2 * cpu + 3 ≡ length old + 1 = omega (arith, begun.long) in
            let ends = two_ends old number (own_operation (receipts_of cpu news)) in
            rw same
            (record {
              number = number;
              first = rw here ends.0;
              exchanged = exchanged;
              second = rw next ends.1;
            }))
      ];
}

-- ---- its code

two_more : (count : ℕ) (key : List ℕ) (first second : ℕ) (old new : List ℕ)
    → old ≡ number_code count ++ flat_map number_code key
    → new ≡ old ++ number_code first ++ number_code second
    → new ≡ number_code count ++ flat_map number_code (key ++ first ∷ second ∷ [])
two_more count key first second old new was is = grind (arith, flat_map_more, append_assoc)

code_begun : (s : StandingValue) (news : List Record) (count state openings : ℕ)
    (none first code : List ℕ)
    → none ≡ [] → first ≡ none ++ number_code count
    → code ≡ first ++ number_code state ++ number_code openings
    → IsBegunCode s news count state openings 0 code
code_begun s news count state openings none first code bare begins is = record {
  key = state ∷ openings ∷ [];
  code_is = two_more count [] state openings first code (rw (begins, bare, append-nil)) is;
  begun = grind arith;
}

pub code_more : (s : StandingValue) (news : List Record) (count state openings cpu number op : ℕ)
    (old half code : List ℕ)
    → IsBegunCode s news count state openings cpu old → half ≡ old ++ number_code number
    → code ≡ half ++ number_code op
    → IsExchanged s.exchanged.chains cpu news number → op ≡ own_operation (receipts_of cpu news)
    → IsBegunCode s news count state openings (cpu + 1) code
code_more s news count state openings cpu number op old half code was first is exchanged own = record {
  key = was.key ++ number ∷ op ∷ [];
  code_is = two_more count was.key number op old code was.code_is (rw (is, first));
  begun = rw own (key_more s news state openings cpu number was.key was.begun exchanged);
}

code_whole : (g : Setting) (s : StandingValue) (news : List Record) (count state openings cpus : ℕ)
    (code : List ℕ)
    → cpus ≡ length g.scripts → count ≡ 2 * cpus + 2
    → AreNumbersAt (plainly news) g news s.stops state openings
    → IsBegunCode s news count state openings cpus code → IsKeyCode g s news code
code_whole g s news count state openings cpus code many counted are is = grind arith

-- begun with the numbers of where a walk stands
pub code_made : (g : Setting) (s : StandingValue) (news : List Record) (count state openings cpus : ℕ)
    (none first second code : List ℕ)
    → cpus ≡ length g.scripts → count ≡ 2 * cpus + 2
    → AreNumbersAt (plainly news) g news s.stops state openings
    → none ≡ [] → first ≡ none ++ number_code count
    → second ≡ first ++ number_code state ++ number_code openings
    → AddsParts s news cpus second code → IsKeyCode g s news code
code_made g s news count state openings cpus none first second code many counted are bare begins is more =
    search (arith, code_whole, code_begun)

-- ---- how many calls there were follows from the exchanges

abbrev many_to : (cpus : ℕ) → List Record → ℕ
many_to zero h = 0
many_to (suc cpu) h = many_to cpu h + length (exchanges cpu h)

many_past : (cpus : ℕ) (h : List Record) (r : Record) → cpus ≤ r.cpu
    → many_to cpus (h ++ r ∷ []) ≡ many_to cpus h
many_past zero h r past = refl
many_past (suc cpu) h r past =
    let apart = exchanges_other cpu h r (λ same. omega (arith, same, past)) in
    omega (arith, many_past cpu h r (omega arith), ap length apart)

more_at : (cpu : ℕ) (h : List Record) (r : Record) → r.cpu < suc cpu
    → (r.cpu < cpu → many_to cpu (h ++ r ∷ []) ≡ many_to cpu h + 1)
    → many_to (suc cpu) (h ++ r ∷ []) ≡ many_to (suc cpu) h + 1
more_at cpu h r less before =
    grind (arith, cases_lt, exchanges_other, many_past, exchanges_own, length_push)

many_more : (cpus : ℕ) (h : List Record) (r : Record) → r.cpu < cpus
    → many_to cpus (h ++ r ∷ []) ≡ many_to cpus h + 1
many_more zero h r less = absurd (omega arith)
many_more (suc cpu) h r less = more_at cpu h r less (λ below. many_more cpu h r below)

many_same : (cpus : ℕ) (h k : List Record)
    → ((cpu : ℕ) → cpu < cpus → exchanges cpu h ≡ exchanges cpu k) → many_to cpus h ≡ many_to cpus k
many_same zero h k same = refl
many_same (suc cpu) h k same =
    omega (arith, many_same cpu h k (λ c less. same c (omega arith)), ap length (same cpu (omega arith)))

-- each call is one of a script's processor
many_on : (g : Setting) (cpu : ℕ) (o : Option (List Record)) (k : List Record)
    → ((h : List Record) → o ≡ Some h → many_to (length g.scripts) h ≡ length h)
    → play_one g o cpu ≡ Some k → many_to (length g.scripts) k ≡ length k
many_on g cpu o k so_far made = grind (arith, caller, many_more, asks_within, length_push)

many_played : (g : Setting) (rest : List ℕ) (o : Option (List Record)) (end : List Record)
    → ((h : List Record) → o ≡ Some h → many_to (length g.scripts) h ≡ length h)
    → fold (play_one g) o rest ≡ Some end → many_to (length g.scripts) end ≡ length end
many_played g [] o end so_far is = so_far end is
many_played g (cpu ∷ rest) o end so_far is =
    many_played g rest (play_one g o cpu) end (λ k made. many_on g cpu o k so_far made) is

pub none_many : (cpus : ℕ) → many_to cpus [] ≡ 0
none_many zero = refl
none_many (suc cpu) = omega (arith, none_many cpu)

calls_counted : (g : Setting) (h : List Record) → plays g (schedule_of h) ≡ Some h
    → many_to (length g.scripts) h ≡ length h
unfolding plays
calls_counted g h played =
    many_played g (schedule_of h) (Some []) h
    (λ k none. let same : [] ≡ k = cc in rw (← same) (none_many (length g.scripts))) played

pub calls_same : (g : Setting) (h k : List Record) → plays g (schedule_of h) ≡ Some h
    → plays g (schedule_of k) ≡ Some k
    → ((cpu : ℕ) → cpu < length g.scripts → exchanges cpu h ≡ exchanges cpu k) → length h ≡ length k
calls_same g h k first second same =
    omega (arith, calls_counted g h first, calls_counted g k second, many_same (length g.scripts) h k same)

-- ---- places with one key

keys_alike : (g : Setting) (s : StandingValue) (h k : List Record) (key : List ℕ)
    → plays g (schedule_of h) ≡ Some h → plays g (schedule_of k) ≡ Some k
    → IsKey g s h key → IsKey g s k key → AreAlike g h k
keys_alike g s h k key first second a b = record {
  calls = calls_same g h k first second exchanged;
  exchanged = exchanged;
  begun = λ cpu within. cc ((a.parts cpu within).second, (b.parts cpu within).second);
  nets =
      joined_equal (plainly h) (differ 0 []) g.layout g.base (net_of (g.start ++ h)) (net_of (g.start ++ k))
      (numbers_join (plainly h) (plainly k) g s.stops h k b.state b.openings same b.numbers_are);
}
  where
    exchanged : (cpu : ℕ) → cpu < length g.scripts → exchanges cpu h ≡ exchanges cpu k
    exchanged cpu within = let first = a.parts cpu within in let second = b.parts cpu within in cc

    same : AreNumbersAt (plainly h) g h s.stops b.state b.openings
    same =
        let state : a.state ≡ b.state = cc in
        let openings : a.openings ≡ b.openings = cc in
        rw (← state, ← openings) a.numbers_are

pub codes_alike : (g : Setting) (s : StandingValue) (h k : List Record) (code : List ℕ)
    → plays g (schedule_of h) ≡ Some h → plays g (schedule_of k) ≡ Some k
    → IsKeyCode g s h code → IsKeyCode g s k code → AreAlike g h k
codes_alike g s h k code first second a b =
    let same = (counted-apart a.key b.key [] [] (rw (← a.code_is, ← b.code_is))).0 in
    keys_alike g s h k b.key first second (rw same at a.key_is) b.key_is
