-- Rows that were drawn are those that a line's work makes.
use Rattle.std.proofs.Common.{arith, ◌≡◌, ℕ, true, List, [], ◌∷◌, length, inl, inr, refl}
use Rattle.hp_units.specs.declared.events.Event.{Event}
use Rattle.hp_units.specs.declared.replies.CallFault.TheVariants.{HistoryFull}
use Rattle.hp_units.specs.declared.replies.Receipt.{Receipt}
use Rattle.hp_units.specs.declared.replies.Record.{Record}
use Rattle.hp_requests.specs.declared.fault.ControlFault.{ControlFault}
use Rattle.hp_machine.specs.Machine.{IsCalled, MachineValue, is_full, sealed}
use Rattle.hp_machine.specs.MachinePorts.{AreCalls}
use Rattle.hp_scenario.specs.Asked as asks
use Rattle.hp_text.specs.Answers.{sealed_line, unrecorded_line}
use Rattle.hp_text.specs.FileFaults.{write_fault_line}
use Rattle.hp_trace.specs.Calls.{MakesEvent, MakesSeal, MakesWork, answer_text, moved_of}
use Rattle.hp_trace.specs.Rows.{Adds, AreDrawn, DrawsIf, RowsValue, drawing, noted}

-- ---- an event

pub event_added : (m after : MachineValue) (cpu : ℕ) (event : Event) (r : Receipt) (asked : List ℕ)
    (old new : RowsValue)
    → IsCalled m cpu event r after → AreCalls m cpu (r ∷ []) after
    → DrawsIf old.form after asked (answer_text r) (moved_of r.reply) old new
    → Adds old new (λ rows. MakesEvent m cpu event asked rows after)
event_added m after cpu event r asked old new called calls drawn = record {
  rows = drawing asked (answer_text r) (moved_of r.reply) after ∷ [];
  drawn = (new, drawn, refl);
  is = inl (r, calls.1, called, refl);
}

pub full_added : (m after : MachineValue) (cpu : ℕ) (event : Event) (asked : List ℕ) (old new : RowsValue)
    → is_full m ≡ true → after ≡ m
    → AreDrawn (noted after asked (unrecorded_line HistoryFull)) old new
    → Adds old new (λ rows. MakesEvent m cpu event asked rows after)
full_added m after cpu event asked old new full same drawn = record {
  rows = noted m asked (unrecorded_line HistoryFull);
  drawn = rw same at drawn;
  is = inr (full, same, refl);
}

-- ---- a control file

pub untaken_added : (m : MachineValue) (cpu : ℕ) (fault : ControlFault) (asked : List ℕ) (old new : RowsValue)
    → AreDrawn (noted m asked (write_fault_line fault)) old new
    → Adds old new (λ rows. MakesWork m cpu (asks.not_taken fault) asked rows m)
untaken_added m cpu fault asked old new drawn = grind arith

-- ---- a seal

pub seal_added : (m after : MachineValue) (records shown : List Record) (asked : List ℕ) (old new : RowsValue)
    → after ≡ sealed m → shown ≡ records → records ≡ m.history
    → AreDrawn (noted after asked (sealed_line (length shown))) old new
    → Adds old new (λ rows. MakesSeal m asked rows after)
seal_added m after records shown asked old new same at is drawn = grind arith
