-- The run of a plan's driver: the state after it, and when it is the one that is due.
use Rattle.std.proofs.Common.{◌≡◌, ℕ, zero, suc, ◌+◌, ◌≤◌, Bool, true, false, List, [], ◌∷◌, ◌++◌, length, codes, Option, Some, None, refl, sym, ap, ◌∙◌, arith, append_assoc, append-nil, le-leb}
use Rattle.std.proofs.lemmas.List.{length_push}
use Rattle.std.specs.Prelude.{◌-◌, ⊤}
use Rattle.hp_units.specs.Driver.{AllNext, Ends, next_event, operation_of}
use Rattle.hp_units.specs.History.{value_of}
use Rattle.hp_units.specs.Receipts.{receipt_of}
use Rattle.hp_units.specs.declared.events.Event.{Event}
use Rattle.hp_units.specs.declared.plans.Item.{Item}
use Rattle.hp_units.specs.declared.replies.CallFault.{CallFault}
use Rattle.hp_units.specs.declared.replies.CallFault.TheVariants.{HistoryFull, OutOfMemory}
use Rattle.hp_units.specs.declared.replies.OpEnd.{OpEnd}
use Rattle.hp_units.specs.declared.replies.OpEnd.TheVariants.{Left}
use Rattle.hp_units.specs.declared.replies.Receipt.{Receipt}
use Rattle.hp_units.specs.declared.replies.Record.{Record}
use Rattle.hp_machine.specs.Machine.{IsCalled, MachineValue, is_full, record_of}
use Rattle.hp_machine.specs.MachinePorts.{AreCalls, HasCause, IsPlanRun}
use Rattle.hp_commands.specs.Events.{next_record, with_record}
use Rattle.hp_text.specs.Plans.{operation_text, plan_line}
use Rattle.hp_commands.specs.Plans.{PlanRun, WritesPlan, end_with, going_on, plan_run, plan_text, run_on}
use Rattle.hp_commands.specs.Serial.{IsWhole}
use Rattle.hp_text.specs.State.{newline}
use Rattle.hp_commands.proofs.EventsDue.{IsUpToDate}
use Rattle.hp_commands.proofs.Whole.{not_whole}

-- ---- the state after a run

-- one call, and calls one after another
called_is : (m next : MachineValue) (cpu : ℕ) (event : Event) (r : Receipt) → IsCalled m cpu event r next
    → IsUpToDate next
called_is m next cpu event r called = rw (called.layout, called.base) called.state

calls_are : (rs : List Receipt) (m new : MachineValue) (cpu : ℕ) → IsUpToDate m → AreCalls m cpu rs new
    → IsUpToDate new
calls_are [] m new cpu h calls = rw calls h
calls_are (r ∷ rs) m new cpu h calls =
    calls_are rs calls.0 new cpu (called_is m calls.0 cpu r.event r calls.2) calls.3

pub plan_is : (m : MachineValue) (cpu turns : ℕ) (plan : List Item) (text : List ℕ) (new : MachineValue)
    → IsUpToDate m → WritesPlan m cpu turns plan text new → IsUpToDate new
plan_is m cpu turns plan text new h w = calls_are w.1.receipts m new cpu h w.1.calls

-- ---- a call is the one that is due

-- the receipt is that of the next record
called_receipt : (m next : MachineValue) (cpu : ℕ) (r : Receipt) → IsCalled m cpu r.event r next
    → r ≡ receipt_of (next_record m cpu r.event)
called_receipt m next cpu r called = rw (← called.serial, ← called.reply)

-- and the machine is the one with that record
record_is : (m next : MachineValue) (q : Record) → next.layout ≡ m.layout → next.before ≡ m.before
    → next.base ≡ m.base → next.history ≡ m.history ++ q ∷ []
    → next.state ≡ value_of m.layout m.base next.history → next ≡ with_record m q
record_is m next q layout before base history state =
    rw (← history, ← state, ← layout, ← before, ← base)

called_machine : (m next : MachineValue) (cpu : ℕ) (r : Receipt) → IsCalled m cpu r.event r next
    → next ≡ with_record m (next_record m cpu r.event)
called_machine m next cpu r called =
    record_is m next (next_record m cpu r.event) called.layout called.before called.base
    (called.history ∙ ap (λ (x : Receipt). m.history ++ record_of cpu x ∷ [])
    (called_receipt m next cpu r called)) called.state

-- ---- a run is the one that is due

abbrev run_with : List Receipt → MachineValue → Option CallFault → PlanRun
run_with receipts m fault = record { receipts = receipts; machine = m; fault = fault }

-- the last call was not out of memory
abbrev pub IsNotOutOfMemory : Option CallFault → Type 0
IsNotOutOfMemory (Some OutOfMemory) = ⊥
IsNotOutOfMemory fault = ⊤

-- where a run ends, it stops
stops : (receipts : List Receipt) (m : MachineValue) (more : Event → PlanRun) (full : Bool)
    (next : Option Event) (fault : Option CallFault) (end : OpEnd)
    → Ends receipts next fault end → full ≡ is_full m → HasCause fault m → IsNotOutOfMemory fault
    → going_on receipts m more full next ≡ run_with receipts m fault
unfolding going_on
stops receipts m more full None None end ends is cause given = refl
stops receipts m more full None (Some fault) end ends is cause given = absurd ends
stops receipts m more full (Some event) None end ends is cause given = absurd ends
stops receipts m more true (Some event) (Some HistoryFull) end ends is cause given = refl
stops receipts m more false (Some event) (Some HistoryFull) end ends is cause given =
    let h : false ≡ true = is ∙ cause in absurd cc
stops receipts m more full (Some event) (Some OutOfMemory) end ends is cause given = absurd given

finished : (turns : ℕ) (plan : List Item) (earlier : List Receipt) (m new : MachineValue)
    (more : Event → PlanRun) (fault : Option CallFault) (end : OpEnd)
    → new ≡ m → Ends (earlier ++ []) (next_event m.layout.cpus turns plan (earlier ++ [])) fault end
    → HasCause fault new → IsNotOutOfMemory fault
    → going_on earlier m more (is_full m) (next_event m.layout.cpus turns plan earlier)
    ≡ run_with (earlier ++ []) new fault
finished turns plan earlier m new more fault end same ends cause given =
    rw (same, append-nil earlier)
    (stops earlier m more (is_full m) (next_event m.layout.cpus turns plan earlier) fault end
    (rw (append-nil earlier) at ends) refl (rw same at cause) given)

-- where an event is next and there is room, it goes on
goes_on : (receipts : List Receipt) (m : MachineValue) (more : Event → PlanRun) (full : Bool)
    (next : Option Event) (event : Event)
    → full ≡ false → next ≡ Some event → going_on receipts m more full next ≡ more event
unfolding going_on
goes_on receipts m more true next event room is = absurd cc
goes_on receipts m more false None event room is = absurd cc
goes_on receipts m more false (Some e) event room is = let same : e ≡ event = cc in ap more same

-- a history at its limit has no room
no_room : (m : MachineValue) → m.layout.history ≤ zero + length m.history → is_full m ≡ false → ⊥
no_room m fits room =
    let within : m.layout.history ≤ length m.history = omega (arith, fits) in
    let bad : true ≡ false = rw (le-leb m.layout.history (length m.history) within) at room in absurd cc

one_record : (limit room : ℕ) (history : List Record) (q : Record) → limit ≤ suc room + length history
    → limit ≤ room + length (history ++ q ∷ [])
one_record limit room history q fits = omega (arith, fits, length_push history q)

-- calls that are a run from the receipts so far on are those of the run that is due
calls_due : (rs : List Receipt) (room turns : ℕ) (plan : List Item) (cpu : ℕ) (earlier : List Receipt)
    (m new : MachineValue) (fault : Option CallFault) (end : OpEnd)
    → m.layout.history ≤ room + length m.history → AreCalls m cpu rs new
    → AllNext m.layout.cpus turns plan earlier rs
    → Ends (earlier ++ rs) (next_event m.layout.cpus turns plan (earlier ++ rs)) fault end
    → HasCause fault new → IsNotOutOfMemory fault
    → run_on room turns plan cpu earlier m ≡ run_with (earlier ++ rs) new fault
unfolding run_on
calls_due [] zero turns plan cpu earlier m new fault end fits calls events ends cause given =
    finished turns plan earlier m new (λ (event : Event). run_with earlier m None) fault end calls ends cause
    given
calls_due [] (suc room) turns plan cpu earlier m new fault end fits calls events ends cause given =
    finished turns plan earlier m new (λ (event : Event). run_on room turns plan cpu
    (earlier ++ receipt_of (next_record m cpu event) ∷ [])
    (with_record m (next_record m cpu event))) fault end calls ends cause given
calls_due (r ∷ rs) zero turns plan cpu earlier m new fault end fits calls events ends cause given =
    absurd (no_room m fits calls.1)
calls_due (r ∷ rs) (suc room) turns plan cpu earlier m new fault end fits calls events ends cause given =
    let told : r ≡ receipt_of (next_record m cpu r.event) = called_receipt m calls.0 cpu r calls.2 in
    let joined : earlier ++ r ∷ rs ≡ (earlier ++ receipt_of (next_record m cpu r.event) ∷ []) ++ rs =
    ap (λ (x : Receipt). earlier ++ x ∷ rs) told
    ∙ sym (append_assoc earlier (receipt_of (next_record m cpu r.event) ∷ []) rs) in
    goes_on earlier m (λ (event : Event). run_on room turns plan cpu
    (earlier ++ receipt_of (next_record m cpu event) ∷ [])
    (with_record m (next_record m cpu event))) (is_full m) (next_event m.layout.cpus turns plan
    earlier) r.event calls.1 events.0
    ∙ calls_due rs room turns plan cpu (earlier ++ receipt_of (next_record m cpu r.event) ∷ [])
    (with_record m (next_record m cpu r.event)) new fault end
    (one_record m.layout.history room m.history (next_record m cpu r.event) fits)
    (rw (called_machine m calls.0 cpu r calls.2) at calls.3) (rw told at events.1) (rw joined at ends) cause
    given
    ∙ ap (λ (l : List Receipt). run_with l new fault) (sym joined)

fits_all : (limit count : ℕ) → limit ≤ (limit - count) + count
fits_all limit count = omega arith

pub run_due : (m : MachineValue) (cpu turns : ℕ) (plan : List Item) (end : OpEnd) (new : MachineValue)
    (ran : IsPlanRun m cpu turns plan end new)
    → IsNotOutOfMemory ran.fault → plan_run m cpu turns plan ≡ run_with ran.receipts new ran.fault
run_due m cpu turns plan end new ran given =
    calls_due ran.receipts (m.layout.history - length m.history) turns plan cpu [] m new ran.fault end
    (fits_all m.layout.history (length m.history)) ran.calls ran.run.events ran.run.ends ran.cause given

-- ---- its text

-- the end of a run is the one that its receipts and its fault make
end_is : (receipts : List Receipt) (next : Option Event) (fault : Option CallFault) (end : OpEnd)
    → Ends receipts next fault end → end ≡ end_with fault receipts
end_is receipts None None end ends = rw ends
end_is receipts None (Some fault) end ends = absurd ends
end_is receipts (Some event) None end ends = absurd ends
end_is receipts (Some event) (Some fault) end ends = ends

-- out of memory makes a text that isn't whole
left_is_not_whole : (op : Option ℕ) (b : List ℕ) → IsWhole (plan_line (Left op OutOfMemory) ++ b) → ⊥
left_is_not_whole op b whole =
    not_whole (plan_line (Left op OutOfMemory) ++ b) (codes "plan: left " ++ (operation_text op ++ codes " "))
    b
    (ap (λ (l : List ℕ). codes "plan: left " ++ l)
    (append_assoc (operation_text op ++ codes " " ++ codes "OutOfMemory") newline b
    ∙ append_assoc (operation_text op ++ codes " ") (codes "OutOfMemory") (newline ++ b))) whole

not_out_of_memory : (receipts : List Receipt) (next : Option Event) (fault : Option CallFault) (end : OpEnd)
    (rest : List ℕ)
    → Ends receipts next fault end → IsWhole (plan_line end ++ rest) → IsNotOutOfMemory fault
not_out_of_memory receipts next None end rest ends whole = tt
not_out_of_memory receipts next (Some HistoryFull) end rest ends whole = tt
not_out_of_memory receipts None (Some OutOfMemory) end rest ends whole = absurd ends
not_out_of_memory receipts (Some event) (Some OutOfMemory) end rest ends whole =
    left_is_not_whole (operation_of receipts) rest (rw ends at whole)

-- in a whole text a plan wrote what is due
pub plan_due : (m : MachineValue) (cpu turns : ℕ) (plan : List Item) (text : List ℕ) (new : MachineValue)
    (rest : List ℕ)
    → WritesPlan m cpu turns plan text new → IsWhole (text ++ rest)
    → (text ≡ plan_text m cpu turns plan) × (new ≡ (plan_run m cpu turns plan).machine)
plan_due m cpu turns plan text new rest w whole =
    let given =
    not_out_of_memory w.1.receipts (next_event m.layout.cpus turns plan w.1.receipts) w.1.fault w.0 rest
    w.1.run.ends (rw w.2 at whole) in
    let due : plan_run m cpu turns plan ≡ run_with w.1.receipts new w.1.fault =
    run_due m cpu turns plan w.0 new w.1 given in
    let ended : w.0 ≡ end_with w.1.fault w.1.receipts =
    end_is w.1.receipts (next_event m.layout.cpus turns plan w.1.receipts) w.1.fault w.0 w.1.run.ends in
    (rw (w.2, due) (ap plan_line ended), rw due)
