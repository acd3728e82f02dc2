-- What a port shows, and what calls make of it.
use Rattle.std.specs.Prelude.{◌≡◌, ◌⊎◌, ℕ, ◌<◌, Bool, true, false, List, [], ◌∷◌, ◌++◌, Option, Some, None, ⊤}
use Rattle.std.specs.List.{list_any}
use Rattle.hp_ops.specs.Names.{Item, Event, Begin, DrainFor, Migrate, Commit, Cancel, Reply, Done, Moved, Opened, Restored, Released, Refused, Refusal, NoFrame, NoOp, NothingToMove, NotFree, Receipt, CallFault}

-- what a port shows: its receipts, oldest first, the fault of its last call, and the number of
-- processors
pub record PortValue : Type 0 where
  pub receipts : List Receipt
  pub fault : Option CallFault
  pub cpus : ℕ

-- what a port shows after further receipts, with the fault of its last call
abbrev pub with_receipts : PortValue → List Receipt → Option CallFault → PortValue
with_receipts p gained fault = record { receipts = p.receipts ++ gained; fault = fault; cpus = p.cpus }

-- the reply opened an operation; one of the receipts has such a reply
abbrev pub is_opened : Reply → Bool
is_opened (Opened op) = true
is_opened reply = false

abbrev pub has_opened : List Receipt → Bool
has_opened receipts = list_any (λ r. is_opened r.reply) receipts

-- ---- the replies that a driver meets

-- a reply to a Begin
abbrev pub IsBeginReply : Reply → Type 0
IsBeginReply reply = ((op : ℕ) × (reply ≡ Opened op)) ⊎ ((refusal : Refusal) × (reply ≡ Refused refusal))

-- a reply to a Migrate, a Commit or a Cancel of a live operation; then to any event of a live
-- operation. `IsLiveReply` claims nothing about a DrainFor for a processor that the machine does not
-- have, or about other events
abbrev pub IsMigrateReply : Reply → Type 0
IsMigrateReply reply =
    ((from : ℕ) × (to : ℕ) × (reply ≡ Moved from to))
    ⊎ ((reply ≡ Refused NoFrame) ⊎ (reply ≡ Refused NothingToMove))

abbrev pub IsCommitReply : Reply → Type 0
IsCommitReply reply = (reply ≡ Done) ⊎ ((frame : ℕ) × (reply ≡ Refused (NotFree frame)))

abbrev pub IsCancelReply : Reply → Type 0
IsCancelReply reply = (reply ≡ Restored) ⊎ (reply ≡ Released)

abbrev pub IsLiveReply : (cpus : ℕ) → Event → Reply → Type 0
IsLiveReply cpus (DrainFor op cpu) reply = cpu < cpus → reply ≡ Done
IsLiveReply cpus (Migrate op) reply = IsMigrateReply reply
IsLiveReply cpus (Commit op) reply = IsCommitReply reply
IsLiveReply cpus (Cancel op) reply = IsCancelReply reply
IsLiveReply cpus event reply = ⊤

-- a reply to an event of an operation, live or not
abbrev pub IsDriverReply : (cpus : ℕ) → Event → Reply → Type 0
IsDriverReply cpus event reply = (reply ≡ Refused NoOp) ⊎ IsLiveReply cpus event reply

-- ---- one call, and several

-- a call gave a receipt of the event that was asked for. It is added to the port's receipts, and the
-- port shows no fault. A Begin got a reply to a Begin; if an operation was opened before, the event got
-- a reply to an event of an operation
pub record IsGiven (old : PortValue) (event : Event) (r : Receipt) (new : PortValue) : Type 0 where
  pub asked : r.event ≡ event
  pub value : new ≡ with_receipts old (r ∷ []) None
  pub begun : (plan : List Item) → event ≡ Begin plan → IsBeginReply r.reply
  pub known : has_opened old.receipts ≡ true → IsDriverReply old.cpus event r.reply

-- a call gave a reply: it added one receipt with this reply, and turned the old port into the new one
pub record IsReplied {S : Type 0} (shows : S → PortValue) (makes : S → List Receipt → S → Type 0) (old : S)
    (event : Event) (reply : Reply) (new : S) : Type 0 where
  pub receipt : Receipt
  pub replied : receipt.reply ≡ reply
  pub given : IsGiven (shows old) event receipt (shows new)
  pub made : makes old (receipt ∷ []) new

-- calls gave these receipts; if there is a fault, one more call failed with it
abbrev pub AreMade : {S : Type 0} → (makes : S → List Receipt → S → Type 0)
    → (leaves : S → CallFault → S → Type 0) → S → List Receipt → Option CallFault → S → Type 0
AreMade makes leaves old gained None new = makes old gained new
AreMade {S} makes leaves old gained (Some fault) new =
    (last : S) × makes old gained last × leaves last fault new

-- calls gave the receipts `gained`, of which `P` holds; if there is a fault, one more
-- call failed with it
pub record Gains {S : Type 0} (shows : S → PortValue) (makes : S → List Receipt → S → Type 0)
    (leaves : S → CallFault → S → Type 0) (old : S) (fault : Option CallFault) (new : S)
    (P : List Receipt → Type 0) : Type 0 where
  pub gained : List Receipt
  pub value : shows new ≡ with_receipts (shows old) gained fault
  pub made : AreMade makes leaves old gained fault new
  pub is : P gained
