-- A seat's call is a port's.
use Rattle.std.specs.Prelude.{◌≤◌}
use Rattle.std.proofs.Common.{◌≡◌, ℕ, ◌+◌, ◌<◌, List, [], ◌∷◌, ◌++◌, length, Option, None, Result, Err, refl, ap, arith}
use Rattle.std.proofs.lemmas.List.{length-append}
use Rattle.hp_units.specs.LayoutParts.{LayoutParts}
use Rattle.hp_units.specs.History.{reply_of}
use Rattle.hp_units.specs.declared.events.Event.{Event}
use Rattle.hp_units.specs.declared.replies.CallFault.{CallFault}
use Rattle.hp_units.specs.declared.replies.CallFault.TheVariants.{HistoryFull}
use Rattle.hp_units.specs.declared.replies.Receipt.{Receipt}
use Rattle.hp_units.specs.declared.replies.Reply.{Reply}
use Rattle.hp_history.specs.Course.{receipt_for}
use Rattle.hp_ops.specs.Ports.{IsGiven}
use Rattle.hp_machine.proofs.Replies.{begin_known, driver_known}
use Rattle.hp_shared.specs.Shared.{IsFilled, IsSeatCall, IsSeated, IsTurn, SeatValue, fulls_of, left_by}
use Rattle.hp_shared.specs.SeatPorts.{AreTurns, port_value}
use Rattle.hp_shared.proofs.Turns.{last_reply}
use Rattle.hp_shared.proofs.Values.{seat_of}

-- what a call gives to the seat's port
pub seated_is_given : (l : LayoutParts) (old new : SeatValue) (event : Event) (r : Receipt)
    (fault : Option CallFault)
    → IsSeated l old event r new → IsGiven (port_value l old fault) event r (port_value l new None)
seated_is_given l old new event r fault seated =
    let turn = seated.turn in
    let m = turn.seen.machine in
    let found = last_reply m old.cpu r turn.shared.history turn.last in
    let reply : r.reply ≡ reply_of m.layout m.base m.before found.0 old.cpu event = cc in
    let cpus : m.layout.cpus ≡ l.cpus = ap (λ (parts : LayoutParts). parts.cpus) turn.shared.layout in
    record {
      asked = turn.asked;
      value = rw seated.receipts;
      begun =
          λ plan is. rw (reply, is) (begin_known m.layout m.base m.before found.0 old.cpu plan);
      known = grind (arith, driver_known);
    }

-- one turn, of which the port shows the receipt
pub turned_once : (l : LayoutParts) (old new : SeatValue) (event : Event) (r : Receipt)
    → IsSeated l old event r new → AreTurns l old (r ∷ []) new
turned_once l old new event r seated = grind arith

-- a turn's receipt, which has a copy of the event, is appended
pub seat_called : (l : LayoutParts) (cpu : ℕ) (was held now : List Receipt) (event copy : Event)
    (answer : ℕ × Reply) (share more sealed kept fulls told : ℕ)
    → copy ≡ event → cpu < l.cpus → held ≡ was → now ≡ held ++ receipt_for copy answer ∷ []
    → share ≡ length was → more ≡ share + 1 → kept ≡ sealed → told ≡ fulls + 0
    → (0 < fulls → l.history < answer.0)
    → IsTurn l cpu event (receipt_for event answer) more
    → IsSeatCall l (seat_of cpu was sealed fulls) event answer.1 (seat_of cpu now kept told)
seat_called l cpu was held now event copy answer share more sealed kept fulls told copied inside same pushed
    counted risen still untold late turn =
    let receipts : now ≡ was ++ receipt_for copy answer ∷ [] = rw (pushed, same) in
    let amount : more ≡ length now =
    omega (
      arith,
      counted,
      risen,
      ap (λ (rs : List Receipt). length rs) receipts,
      length-append was (receipt_for copy answer ∷ []),
    ) in
    record {
      receipt = receipt_for copy answer;
      replied = refl;
      seated = record {
        inside = inside;
        cpu = refl;
        receipts = receipts;
        sealed = still;
        fulls = omega (arith, untold);
        turn = rw (copied, ← amount) turn;
        late = late;
      };
    }

-- a full history is the same fault, whatever the call would have answered
abbrev pub faulted : (A : Type 0) → CallFault → Result A CallFault
faulted A fault = Err fault

-- how often a fault says that the history is full
abbrev pub full_at : CallFault → ℕ
full_at fault = fulls_of (faulted (ℕ × Reply) fault)

-- a seat whose call left a fault, by its parts
pub left_so : (cpu : ℕ) (was now : List Receipt) (sealed kept fulls told : ℕ) (fault : CallFault)
    → now ≡ was → kept ≡ sealed → told ≡ fulls + full_at fault
    → seat_of cpu now kept told ≡ left_by (seat_of cpu was sealed fulls) fault
left_so cpu was now sealed kept fulls told fault same still counted = grind arith

-- what fills a history, of receipts that are fewer than 2^63
pub fills : (l : LayoutParts) (sealed share held len room : ℕ) → IsFilled l sealed share → share ≡ held
    → len ≡ held → len ≤ room → room < 9223372036854775808 → l.history + sealed ≤ held
fills l sealed share held len room h counted is within small = grind arith

pub full_still : {A B : Type 0} (fault : CallFault) → faulted A fault ≡ faulted A HistoryFull
    → faulted B fault ≡ faulted B HistoryFull
full_still fault is = grind arith
