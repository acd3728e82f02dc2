-- Schedules after which everything continues alike, though the processors may have got different
-- replies, and though operations may have different numbers.
use Rattle.std.specs.Prelude.{◌≡◌, ℕ, ◌+◌, ◌<◌, List, [], ◌∷◌, ◌++◌, Some, length, map, slice_get}
use Rattle.std.specs.Option.{option_map}
use Rattle.hp_units.specs.History.{net_of, run, value_of}
use Rattle.hp_units.specs.LayoutParts.{LayoutParts}
use Rattle.hp_units.specs.Memory.{Memory}
use Rattle.hp_units.specs.Receipts.{receipts_of}
use Rattle.hp_units.specs.declared.events.Event.{Event}
use Rattle.hp_units.specs.declared.replies.Receipt.{Receipt}
use Rattle.hp_units.specs.declared.replies.Record.{Record}
use Rattle.hp_laws.specs.Renumbered.{IsOneToOne, renumbered, renumbered_event, renumbered_reply}
use Rattle.hp_schedules.specs.Openings.{AreOpen, Opening, renumbered_opening}
use Rattle.hp_schedules.specs.Outcomes.{ended_rows_below}
use Rattle.hp_schedules.specs.Schedules.{Setting, next_call, plays}
use Rattle.hp_schedules.specs.Scripts.{next_of}
use Rattle.hp_schedules.specs.declared.scripts.Step.{Step}

-- `p` renumbers the operations of the first net (list of steps not undone), and `q` those of the
-- second. Then both nets lead to the same state, and Cancels lead back from both to the same states
pub record AreJoinedBy (p q : ℕ → ℕ) (l : LayoutParts) (base : Memory) (first second : List Record)
    : Type 0 where
  pub first_openings : List Opening
  pub second_openings : List Opening
  pub first_open : AreOpen l base first first_openings
  pub second_open : AreOpen l base second second_openings
  pub openings : map (renumbered_opening p) first_openings ≡ map (renumbered_opening q) second_openings
  pub state : renumbered p (run l base first) ≡ renumbered q (run l base second)

-- two receipts have the same reply, and are equal once `p` renumbers the operations in the first
-- and `q` renumbers them in the second
pub record IsSameReceipt (p q : ℕ → ℕ) (r s : Receipt) : Type 0 where
  pub number : p r.serial ≡ q s.serial
  pub event : renumbered_event p r.event ≡ renumbered_event q s.event
  pub reply : r.reply ≡ s.reply
  pub told : renumbered_reply p r.reply ≡ renumbered_reply q s.reply

-- two lists have the same receipts, in the same order, in the sense of IsSameReceipt
abbrev pub AreSameReceipts : (p q : ℕ → ℕ) → List Receipt → List Receipt → Type 0
AreSameReceipts p q [] [] = Unit {0}
AreSameReceipts p q [] (s ∷ others) = ⊥
AreSameReceipts p q (r ∷ receipts) [] = ⊥
AreSameReceipts p q (r ∷ receipts) (s ∷ others) = IsSameReceipt p q r s × AreSameReceipts p q receipts others

-- the scripts go on alike after the records h and k, once `p` renumbers the operations in h, and `q`
-- renumbers them in k: both have equally many calls, and their replies may differ. `p` and `q` agree on
-- the serials of all later calls
pub record AreSameBy (p q : ℕ → ℕ) (g : Setting) (h k : List Record) : Type 0 where
  pub calls : length h ≡ length k
  pub later : (n : ℕ) → g.before + length (g.start ++ h) < n → p n ≡ q n
  -- after further receipts that are the same (AreSameReceipts), each processor's next call is the
  -- same, once `p` and `q` renumber the operations
  pub ahead : (cpu : ℕ) (lines : List Step) → slice_get g.scripts cpu ≡ Some lines
      → (xs ys : List Receipt) → AreSameReceipts p q xs ys
      → option_map (renumbered_event p) (next_of g.layout.cpus lines (receipts_of cpu h ++ xs))
      ≡ option_map (renumbered_event q) (next_of g.layout.cpus lines (receipts_of cpu k ++ ys))
  pub nets : AreJoinedBy p q g.layout g.base (net_of (g.start ++ h)) (net_of (g.start ++ k))

-- the scripts go on alike after h and k, once one-to-one functions renumber the operations. The
-- replies in h and k may differ
pub record ContinueAlike (g : Setting) (h k : List Record) : Type 0 where
  pub first_numbers : ℕ → ℕ
  pub second_numbers : ℕ → ℕ
  pub first_differ : IsOneToOne first_numbers
  pub second_differ : IsOneToOne second_numbers
  pub same : AreSameBy first_numbers second_numbers g h k

-- the event without the number of the operation that it works on
abbrev pub anonymous : Event → Event
anonymous e = renumbered_event (λ op. 0) e

-- the record without the number of the operation that its event works on
abbrev pub anonymous_record : Record → Record
anonymous_record r =
    record { serial = r.serial; cpu = r.cpu; event = anonymous r.event; reply = r.reply }

-- the records' events, in which `f` renumbers the operations
abbrev pub renumbered_events : (f : ℕ → ℕ) → List Record → List Event
renumbered_events f news = map (λ r. renumbered_event f r.event) news

-- h goes on to `end` by the records `more`. From k, the calls of `rest` have the same serials and
-- replies, and events that differ at most in the numbers of operations. The functions with which
-- `alike` renumbers the operations of h and of k make these events equal too, and by them the scripts
-- also go on alike after both. Each processor's next calls differ at most in the numbers of their
-- operations, and each memory block has the same state and zone
pub record ContinuesAs (g : Setting) (q rest : List ℕ) (h k : List Record) (alike : ContinueAlike g h k)
    (end : List Record) : Type 0 where
  pub more : List Record
  pub others : List Record
  pub end_is : end ≡ h ++ more
  pub played : plays g (q ++ rest) ≡ Some (k ++ others)
  pub same : map anonymous_record more ≡ map anonymous_record others
  pub events : renumbered_events alike.first_numbers more ≡ renumbered_events alike.second_numbers others
  pub after : AreSameBy alike.first_numbers alike.second_numbers g end (k ++ others)
  pub calls : (cpu : ℕ)
      → option_map anonymous (next_call g cpu end) ≡ option_map anonymous (next_call g cpu (k ++ others))
  pub rows : (blocks : ℕ) → ended_rows_below blocks (value_of g.layout g.base (g.start ++ end))
      ≡ ended_rows_below blocks (value_of g.layout g.base (g.start ++ (k ++ others)))
