-- How a replay goes on by the next record of a list, and where it finds one at fault.
use Rattle.std.proofs.Common.{◌≡◌, ℕ, ◌+◌, ◌≤◌, List, length, take, Some, slice_get, refl, ap, sym, ◌∙◌, arith}
use Rattle.std.proofs.lemmas.List.{length-take-le, take_all}
use Rattle.std.proofs.lemmas.Option.{slice_get_within}
use Rattle.hp_units.specs.Memory.{Memory}
use Rattle.hp_units.specs.LayoutParts.{LayoutParts}
use Rattle.hp_units.specs.History.{net_of, run, value_of}
use Rattle.hp_units.specs.declared.replies.Receipt.{Receipt}
use Rattle.hp_laws.proofs.Net.{legal_push}
use Rattle.hp_laws.proofs.Replays.{take_one}
use Rattle.hp_history.specs.Course.{CourseValue, IsAnswered, last_serial, record_of, started}
use Rattle.hp_history.specs.Kept.{pictured}
use Rattle.hp_machine.specs.Replaying.{IsCourseOf, IsFault, IsFaultHere, IsFollowed, Refutes}
use Rattle.hp_machine.specs.declared.replaying.ReplayFault.{ReplayFault}
use Rattle.hp_machine.specs.declared.replaying.ReplayFault.TheVariants.{WrongReply, WrongSerial, OutOfMemory}
use Rattle.hp_history.proofs.Names.{Record}

-- ---- one record

-- the record with the receipt's reply is the receipt's
same_record : (r : Record) (a : Receipt) → a.serial ≡ r.serial → a.event ≡ r.event → a.reply ≡ r.reply
    → record_of r.cpu a ≡ r
same_record r a serial event reply = rw (serial, event, reply)

-- a record whose serial and reply are those of the answer follows
pub followed : (old new : CourseValue) (r : Record) (a : Receipt) → r.serial ≡ last_serial old + 1
    → IsAnswered old r.cpu r.event a new → a.reply ≡ r.reply → IsFollowed old r new
followed old new r a serial answer reply = record {
  follows = record { serial = serial; reply = sym reply ∙ answer.reply };
  history =
      rw (answer.history, same_record r a (answer.serial ∙ sym serial) answer.asked reply);
  state = answer.state;
  layout = answer.layout;
  before = answer.before;
  base = answer.base;
}

-- another reply is a fault
pub another_reply : (old new : CourseValue) (r : Record) (a : Receipt) (at : ℕ)
    → r.serial ≡ last_serial old + 1 → IsAnswered old r.cpu r.event a new → (a.reply ≡ r.reply → ⊥)
    → IsFaultHere old at r (WrongReply r.serial)
another_reply old new r a at serial answer differs = (refl, serial, λ e. differs (answer.reply ∙ sym e))

-- ---- a list of records

-- the course of no records
pub starts : (c : CourseValue) (h : List Record) → c ≡ started c.layout c.base c.before
    → IsCourseOf c.layout c.base c.before (take 0 h) c
unfolding value_of net_of run
starts c h is = record {
  layout = refl;
  before = refl;
  base = refl;
  history = ap (λ (d : CourseValue). d.history) is;
  legal = λ n r e. absurd cc;
  state = ap (λ (d : CourseValue). d.state) is;
}

-- a place in a list has as many records before it
before_place : (h : List Record) (at : ℕ) (r : Record) → slice_get h at ≡ Some r → length (take at h) ≡ at
before_place h at r here =
    let within = slice_get_within h at r here in
    length-take-le at h (omega arith)

-- the last serial of the course of the records before a place
last_before : (l : LayoutParts) (base : Memory) (before : ℕ) (h : List Record) (at : ℕ) (r : Record)
    (c : CourseValue)
    → slice_get h at ≡ Some r → IsCourseOf l base before (take at h) c → last_serial c + 1 ≡ before + at + 1
last_before l base before h at r c here ok =
    omega (arith, ok.before, ap length ok.history, before_place h at r here)

-- the course of one record more
pub follow_one : (l : LayoutParts) (base : Memory) (before : ℕ) (h : List Record) (at : ℕ) (r : Record)
    (old new : CourseValue)
    → slice_get h at ≡ Some r → IsCourseOf l base before (take at h) old → IsFollowed old r new
    → IsCourseOf l base before (take (at + 1) h) new
follow_one l base before h at r old new here ok next =
    let longer : new.history ≡ take (at + 1) h =
    rw (next.history, ok.history) (sym (take_one h at r here)) in
    record {
      layout = next.layout ∙ ok.layout;
      before = next.before ∙ ok.before;
      base = next.base ∙ ok.base;
      history = longer;
      legal =
          rw (take_one h at r here) (legal_push l base before (take at h) r ok.legal
          (rw (ok.layout, ok.base, ok.before, ok.history) at next.follows));
      state = rw (next.state, ok.layout, ok.base, longer);
    }

-- a fault of the record after a course is one of the list
pub fault_at : (l : LayoutParts) (base : Memory) (before : ℕ) (h : List Record) (at : ℕ) (r : Record)
    (c : CourseValue) (fault : ReplayFault)
    → slice_get h at ≡ Some r → IsCourseOf l base before (take at h) c → IsFaultHere c at r fault
    → IsFault l base before h fault
fault_at l base before h at r c (WrongSerial place) here ok wrong =
    rw wrong.0 (
      r,
      record {
        first = record { here = here; legal = ok.legal };
        serial = λ e. wrong.1 (e ∙ sym (last_before l base before h at r c here ok));
      },
    )
fault_at l base before h at r c (WrongReply serial) here ok wrong = (
  at,
  r,
  record {
    first = record { here = here; legal = ok.legal };
    serial = wrong.1 ∙ last_before l base before h at r c here ok;
    reply = λ e. wrong.2 (rw (ok.layout, ok.base, ok.before, ok.history) e);
  },
  sym wrong.0,
)
fault_at l base before h at r c OutOfMemory here ok wrong = tt

-- records with one at fault are no legal history
pub refutes : (l : LayoutParts) (base : Memory) (before : ℕ) (h : List Record) (fault : ReplayFault)
    → IsFault l base before h fault → Refutes l base before h fault
refutes l base before h (WrongSerial at) wrong = λ legal.
    let here = wrong.1.first.here in
    wrong.1.serial (omega (arith, (legal at wrong.0 here).serial, before_place h at wrong.0 here))
refutes l base before h (WrongReply serial) wrong =
    λ legal. wrong.2.reply (legal wrong.0 wrong.1 wrong.2.first.here).reply
refutes l base before h OutOfMemory wrong = tt

-- the course of all records
pub whole : (l : LayoutParts) (base : Memory) (before : ℕ) (h : List Record) (at : ℕ) (c : CourseValue)
    → length h ≤ at → IsCourseOf l base before (take at h) c → IsCourseOf l base before h c
whole l base before h at c le ok = rw (take_all at h le) at ok

-- its state
pub shown : (l : LayoutParts) (base : Memory) (before : ℕ) (h : List Record) (c : CourseValue)
    → IsCourseOf l base before h c → pictured c.layout c.state ≡ pictured l (value_of l base h)
shown l base before h c ok = rw (ok.layout, ok.state)
