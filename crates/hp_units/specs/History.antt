-- Whole histories: which steps count, the state that they lead to, and which histories are
-- possible. A history is the list of records since a base state, oldest first; `before` is the
-- number of all earlier records.
use Rattle.std.specs.Prelude.{ℕ, ◌≡◌, ◌+◌, Bool, true, false, ◌||◌, if◌then◌else◌, List, [], ◌∷◌, ◌++◌, Option, Some, None, length, take, map, filter, count_by, fold, nat_lt, nat_le, slice_get}
use Rattle.hp_units.specs.Numbers.{Cpu, Serial}
use Rattle.hp_units.specs.Names.{Event, Read, Cancel, UndoAfter, Reply, Restored, Undone, Refused, NoCpu, Gone, Record}
use Rattle.hp_units.specs.LayoutParts.{LayoutParts}
use Rattle.hp_units.specs.Memory.{Memory}
use Rattle.hp_units.specs.Marks.{tag_of, sole_at}
use Rattle.hp_units.specs.Step.{step}

-- ---- what an event does to the list of steps

-- what an event does to the list of steps: it only reads, undoes the steps above a serial, cancels
-- an operation, or adds a step
pub data Effect : Type 0 where
  Looks : Effect
  Undoes : (serial : Serial) → Effect
  Cancels : (op : Serial) → Effect
  Acts : Effect

abbrev pub effect_of : Event → Effect
effect_of (Read owner page index) = Looks
effect_of (UndoAfter serial) = Undoes serial
effect_of (Cancel op) = Cancels op
effect_of event = Acts

-- the event only reads
abbrev pub is_look : Event → Bool
is_look event = looks (effect_of event)
  where
    looks : Effect → Bool
    looks Looks = true
    looks (Undoes serial) = false
    looks (Cancels op) = false
    looks Acts = false

-- the reply is a refusal; the reply reports that an earlier state is back
abbrev pub is_refused : Reply → Bool
is_refused (Refused refusal) = true
is_refused reply = false

abbrev pub goes_back : Reply → Bool
goes_back (Undone count) = true
goes_back Restored = true
goes_back reply = false

-- ---- the net: the steps that are not dropped

-- the steps up to a serial, and how many are above it
unfoldable pub steps_until : Serial → List Record → List Record
steps_until serial net = filter (λ r. nat_le r.serial serial) net

unfoldable pub count_above : Serial → List Record → ℕ
count_above serial net = count_by (λ r. nat_lt serial r.serial) net

-- the steps before this index; without an index, all steps and then one more
abbrev pub cut_or_add : List Record → Record → Option ℕ → List Record
cut_or_add net r (Some place) = take place net
cut_or_add net r None = net ++ r ∷ []

-- the net after one more record that was not refused, by its effect. A Cancel drops the operation's
-- Begin and the later steps if these are all drains and migrations of the operation. Otherwise the
-- Cancel is itself a step
abbrev pub net_with_effect : List Record → Record → Effect → List Record
net_with_effect net r Looks = net
net_with_effect net r (Undoes serial) = steps_until serial net
net_with_effect net r (Cancels op) = cut_or_add net r (sole_at op (map tag_of net))
net_with_effect net r Acts = net ++ r ∷ []

-- the net (the steps that are not dropped) after one more record; a refused one changes nothing
unfoldable pub net_with : List Record → Record → List Record
net_with net r = if is_refused r.reply then net else net_with_effect net r (effect_of r.event)

-- the steps of a history that are not dropped at its end
unfoldable pub net_of : List Record → List Record
net_of history = fold net_with [] history

-- ---- the value: the state that the net leads to

-- runs the steps, one after another
unfoldable pub run : LayoutParts → Memory → List Record → Memory
run l s [] = s
run l s (r ∷ steps) = run l (step l s r.serial r.cpu r.event).memory steps

unfoldable pub value_of : LayoutParts → Memory → List Record → Memory
value_of l base history = run l base (net_of history)

-- ---- which histories are possible

-- the reply to a Cancel. It is Restored if the Cancel is not refused and nothing but the
-- operation's own work follows its Begin
abbrev pub cancel_reply : Reply → Option ℕ → Reply
cancel_reply reply None = reply
cancel_reply reply (Some place) = if is_refused reply then reply else Restored

-- the reply to an undo of the steps above a serial. `before` is the number of records before the
-- base state, `last` the last serial
abbrev pub undo_reply : (before last : Serial) → List Record → Serial → Reply
undo_reply before last net serial =
    if nat_lt last serial || nat_lt serial before then Refused Gone else Undone (count_above serial net)

-- the reply to an event in a state, by its effect
abbrev pub effect_reply : LayoutParts → (before last : Serial) → List Record → Memory
    → (serial : Serial) (cpu : Cpu) → Event → Effect → Reply
effect_reply l before last net s serial cpu event Looks = (step l s serial cpu event).reply
effect_reply l before last net s serial cpu event (Undoes kept) =
    if nat_lt cpu l.cpus then undo_reply before last net kept else Refused NoCpu
effect_reply l before last net s serial cpu event (Cancels op) =
    cancel_reply (step l s serial cpu event).reply (sole_at op (map tag_of net))
effect_reply l before last net s serial cpu event Acts = (step l s serial cpu event).reply

-- the reply that an event must have after the earlier records
unfoldable pub reply_of : LayoutParts → Memory → (before : Serial) → List Record → (cpu : Cpu) → Event → Reply
reply_of l base before earlier cpu event =
    effect_reply l before (before + length earlier) (net_of earlier) (value_of l base earlier)
    (before + length earlier + 1) cpu event (effect_of event)

-- the record can follow the earlier ones
pub record Follows (l : LayoutParts) (base : Memory) (before : ℕ) (earlier : List Record)
    (r : Record) : Type 0 where
  pub serial : r.serial ≡ before + length earlier + 1
  pub reply : r.reply ≡ reply_of l base before earlier r.cpu r.event

-- the history is possible: each record can follow those before it
abbrev pub IsLegal : LayoutParts → Memory → ℕ → List Record → Type 0
IsLegal l base before history =
    (at : ℕ) (r : Record) → slice_get history at ≡ Some r → Follows l base before (take at history) r
