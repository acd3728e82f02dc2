-- The log of the states that rows show is the log of the histories that lead to them.
use Rattle.std.proofs.Common.{◌≡◌, ◌⊎◌, ℕ, Bool, true, false, ◌==◌, if◌then◌else◌, List, [], ◌∷◌, ◌++◌, length, append_assoc, Option, refl, sym, ap, inl, inr, ◌∙◌, arith}
use Rattle.std.proofs.lemmas.Bool.{eq-eqb, eqb-true}
use Rattle.hp_units.specs.Boot.{boot_memory}
use Rattle.hp_units.specs.History.{net_of, run, value_of}
use Rattle.hp_units.specs.LayoutParts.{LayoutParts}
use Rattle.hp_units.specs.Memory.{Memory}
use Rattle.hp_units.specs.declared.events.Event.{Event}
use Rattle.hp_units.specs.declared.replies.Receipt.{Receipt}
use Rattle.hp_units.specs.declared.replies.Record.{Record}
use Rattle.hp_judge.specs.declared.events.LogEvent.{LogEvent}
use Rattle.hp_judge.specs.Logs.{log_of, log_of_all, step_log}
use Rattle.hp_judge.proofs.Histories.{log-push}
use Rattle.hp_judge.proofs.Unchanged.{step_none}
use Rattle.hp_machine.specs.Machine.{IsCalled, MachineValue, booted, sealed}
use Rattle.hp_map.specs.declared.row_picture.Move.{Move}
use Rattle.hp_trace.specs.Logs.{histories}
use Rattle.hp_trace.specs.Rows.{Row, drawing, words}

-- ---- from one row's machine to the next

abbrev pub Called : MachineValue → MachineValue → Type 0
Called m n = (cpu : ℕ) × (event : Event) × (r : Receipt) × IsCalled m cpu event r n

-- it is the same, one call later, or after a seal
abbrev pub IsTurn : MachineValue → MachineValue → Type 0
IsTurn m n = (n ≡ m) ⊎ (Called m n ⊎ (n ≡ sealed m))

abbrev pub Turns : MachineValue → List Row → MachineValue → Type 0
Turns m [] after = after ≡ m
Turns m (words text ∷ rows) after = Turns m rows after
Turns m (drawing asked answer moved n ∷ rows) after = IsTurn m n × Turns n rows after

-- ---- logs

-- the log of a machine's own records, of the states that rows show after it, and of all histories
abbrev pub own_log : MachineValue → List LogEvent
own_log m = log_of m.layout m.base m.history

abbrev pub rows_log : MachineValue → List Row → List LogEvent
rows_log m [] = []
rows_log m (words text ∷ rows) = rows_log m rows
rows_log m (drawing asked answer moved n ∷ rows) = step_log m.layout m.state n.state ++ rows_log n rows

abbrev pub whole_log : MachineValue → List Row → List LogEvent
whole_log m rows = log_of_all m.layout m.base (histories m rows)

-- its state is that of its records
abbrev pub IsReached : MachineValue → Type 0
IsReached m = m.state ≡ value_of m.layout m.base m.history

empty : (h : List Record) → length h ≡ 0 → h ≡ []
empty [] none = refl
empty (r ∷ h) none = absurd (omega arith)

of_nothing : (l : LayoutParts) (s : Memory) → value_of l s [] ≡ s
unfolding value_of run net_of
of_nothing l s = refl

pub boot_reached : (l : LayoutParts) → IsReached (booted l)
boot_reached l = sym (of_nothing l (boot_memory l))

-- ---- a turn

-- what a turn does to the state and to the logs, whatever the rows after it
pub record TakesTurn (m n : MachineValue) : Type 0 where
  pub layout : n.layout ≡ m.layout
  pub reached : IsReached n
  pub whole : (rows : List Row) (asked answer : List ℕ) (moved : Option Move)
      → own_log n ++ rows_log n rows ≡ whole_log n rows
      → own_log m ++ rows_log m (drawing asked answer moved n ∷ rows)
      ≡ whole_log m (drawing asked answer moved n ∷ rows)

-- the same history goes on
goes_on : (m n : MachineValue) (rows : List Row) → n.before ≡ m.before
    → (if n.before == m.before then histories n rows else m.history ∷ histories n rows) ≡ histories n rows
goes_on m n rows same = rw (eq-eqb n.before m.before same)

same_turn : (m : MachineValue) → IsReached m → TakesTurn m m
same_turn m reached = grind (arith, step_none, goes_on)

-- one more record
more_own : (m n : MachineValue) (cpu : ℕ) (event : Event) (r : Receipt) → IsReached m
    → IsCalled m cpu event r n → own_log n ≡ own_log m ++ step_log m.layout m.state n.state
more_own m n cpu event r reached called = grind (arith, log-push)

called_turn : (m n : MachineValue) (cpu : ℕ) (event : Event) (r : Receipt) → IsReached m
    → IsCalled m cpu event r n → TakesTurn m n
called_turn m n cpu event r reached called = record {
  layout = called.layout;
  reached = rw (called.layout, called.base) called.state;
  whole = λ rows asked answer moved ih.
      rw (goes_on m n rows called.before, ← append_assoc, ← more_own m n cpu event r reached called)
      (rw (← called.layout, ← called.base) ih);
}

sealed_turn : (m : MachineValue) → IsReached m → TakesTurn m (sealed m)
sealed_turn m reached = record {
  layout = refl;
  reached = sym (of_nothing m.layout m.state);
  whole = λ rows asked answer moved ih. by_number rows ih ((sealed m).before == m.before) refl;
}
  where
    by_number : (rows : List Row) → own_log (sealed m) ++ rows_log (sealed m) rows ≡ whole_log (sealed m) rows
        → (b : Bool) → ((sealed m).before == m.before) ≡ b
        → own_log m ++ (step_log m.layout m.state m.state ++ rows_log (sealed m) rows)
        ≡ log_of_all m.layout m.base
        (if (sealed m).before == m.before then histories (sealed m) rows
        else m.history ∷ histories (sealed m) rows)
    by_number rows ih true is =
        let later = histories (sealed m) rows in
        let none : m.history ≡ [] = empty m.history (omega (arith, eqb-true (sealed m).before m.before is)) in
        let state : m.state ≡ m.base = rw (reached, none, of_nothing m.layout m.base) in
        rw (is, step_none m.layout m.state)
        (ap (λ (h : List Record). log_of m.layout m.base h ++ rows_log (sealed m) rows) none
        ∙ (ih ∙ ap (λ (s : Memory). log_of_all m.layout s later) state))
    by_number rows ih false is =
        let later = histories (sealed m) rows in
        rw (is, step_none m.layout m.state) (ap (λ (xs : List LogEvent). own_log m ++ xs)
        (ih ∙ ap (λ (s : Memory). log_of_all m.layout s later) reached))

-- ---- all turns

pub turn_taken : (m n : MachineValue) → IsReached m → IsTurn m n → TakesTurn m n
turn_taken m n reached (inl same) = rw same (same_turn m reached)
turn_taken m n reached (inr (inl called)) = called_turn m n called.0 called.1 called.2 reached called.3
turn_taken m n reached (inr (inr same)) = rw same (sealed_turn m reached)

pub whole_rows : (m after : MachineValue) (rows : List Row) → IsReached m → Turns m rows after
    → own_log m ++ rows_log m rows ≡ whole_log m rows
whole_rows m after [] reached turns = refl
whole_rows m after (words text ∷ rows) reached turns = whole_rows m after rows reached turns
whole_rows m after (drawing asked answer moved n ∷ rows) reached turns =
    let taken = turn_taken m n reached turns.0 in
    taken.whole rows asked answer moved (whole_rows n after rows taken.reached turns.1)
