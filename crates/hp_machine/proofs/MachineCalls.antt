-- A machine's call is a port's.
use Rattle.std.proofs.Common.{◌≡◌, ◌↔◌, ℕ, Bool, true, false, List, [], ◌∷◌, ◌++◌, Option, Some, None, Result, Ok, Err, IsTrue, refl, ◌∙◌}
use Rattle.hp_units.specs.Receipts.{receipts_of}
use Rattle.hp_machine.specs.Machine.{IsCalled, MachineValue, is_full, record_of}
use Rattle.hp_machine.specs.Names.{Event, Receipt, CallFault, HistoryFull, OutOfMemory}
use Rattle.hp_ops.specs.Ports.{AreMade, IsGiven, has_opened}
use Rattle.hp_machine.specs.MachinePorts.{AreCalls, HasCause, port_value}
use Rattle.hp_ops.proofs.Gained.{opened_more}
use Rattle.hp_machine.proofs.Replies.{begin_known, driver_known, opened_inside, receipts_more}

-- what a call gives to the processor's port
pub called_is_given : (old new : MachineValue) (cpu : ℕ) (event : Event) (r : Receipt)
    (fault : Option CallFault)
    → IsCalled old cpu event r new → IsGiven (port_value old cpu fault) event r (port_value new cpu None)
called_is_given old new cpu event r fault called =
    let receipts : receipts_of cpu new.history ≡ receipts_of cpu old.history ++ r ∷ [] =
    rw called.history (receipts_more cpu old.history (record_of cpu r) refl) in
    record {
      asked = called.asked;
      value = rw (receipts, called.layout);
      begun =
          λ plan is. rw (called.reply, is) (begin_known old.layout old.base old.before old.history cpu plan);
      known = λ opened.
          let later : has_opened (receipts_of cpu new.history) ≡ true =
          rw receipts (opened_more (receipts_of cpu old.history) (r ∷ []) opened) in
          let inside = opened_inside old.layout old.base old.before new.history cpu called.legal later in
          rw called.reply (driver_known old.layout old.base old.before old.history cpu event inside);
    }

-- ---- what it makes of the machine

-- what a call gave is the fault of a full history just where the history was full
abbrev pub TellsFull : {A : Type 0} → Result A CallFault → Bool → Type 0
TellsFull given full = (given ≡ Err HistoryFull) ↔ IsTrue full

-- with an answer, and with out of memory, there was room
room_of : {A : Type 0} (full : Bool) (a : A) → TellsFull {A = A} (Ok a) full → full ≡ false
room_of true a tells = let e = tells.1 refl in absurd cc
room_of false a tells = refl

room_wanted : {A : Type 0} (full : Bool) → TellsFull {A = A} (Err OutOfMemory) full → full ≡ false
room_wanted true tells = let e = tells.1 refl in absurd cc
room_wanted false tells = refl

-- one receipt
pub called_once : {A : Type 0} (old new : MachineValue) (cpu : ℕ) (event : Event) (r : Receipt) (a : A)
    → TellsFull {A = A} (Ok a) (is_full old) → IsCalled old cpu event r new → AreCalls old cpu (r ∷ []) new
called_once old new cpu event r a tells called = (
  new,
  room_of (is_full old) a tells,
  rw (← called.asked) at called,
  refl,
)

-- a fault's cause
pub cause_of : {A : Type 0} (old : MachineValue) (fault : CallFault)
    → TellsFull {A = A} (Err fault) (is_full old) → HasCause (Some fault) old
cause_of old HistoryFull tells = tells.0 refl
cause_of old OutOfMemory tells = room_wanted (is_full old) tells

-- ---- a run of calls, for whoever drives a port on a machine

-- what the calls that gave receipts and the one that left a fault made of the machine, of its name
-- and of the processor
pub calls_made : {S N : Type 0} (old new : S) (name : S → N) (cpu : S → ℕ) (machine : S → MachineValue)
    (gained : List Receipt) (fault : Option CallFault)
    → AreMade
    (λ (p : S) (rs : List Receipt) (q : S). (name q ≡ name p) × (cpu q ≡ cpu p)
    × AreCalls (machine p) (cpu p) rs (machine q))
    (λ (p : S) (left : CallFault) (q : S). (name q ≡ name p) × (cpu q ≡ cpu p)
    × (machine q ≡ machine p) × HasCause (Some left) (machine p))
    old gained fault new
    → (name new ≡ name old) × AreCalls (machine old) (cpu old) gained (machine new)
    × HasCause fault (machine new)
calls_made old new name cpu machine gained None calls = (calls.0, calls.2, tt)
calls_made old new name cpu machine gained (Some fault) made =
    let calls = made.1 in
    let left = made.2 in
    (left.0 ∙ calls.0, rw left.2 calls.2, rw left.2 left.3)
