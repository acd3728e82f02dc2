-- The effect of a port that draws its calls, on the rows and on the machine.
use Rattle.std.specs.Prelude.{ℕ, ◌≡◌, Bool, true, false, List, [], ◌∷◌, ◌++◌, Some, refl}
use Rattle.std.proofs.Common.{ap, subst, sym}
use Rattle.hp_units.specs.declared.replies.CallFault.{CallFault}
use Rattle.hp_units.specs.declared.replies.CallFault.TheVariants.{HistoryFull, OutOfMemory}
use Rattle.hp_units.specs.declared.replies.Receipt.{Receipt}
use Rattle.hp_machine.specs.Machine.{MachineValue}
use Rattle.hp_trace.specs.Calls.{IsStop, MakesSteps}
use Rattle.hp_trace.specs.Rows.{Adds, Row, RowsValue, drawn_joined}

-- the fault is that memory ran out
abbrev pub is_memory : CallFault → Bool
is_memory HistoryFull = false
is_memory OutOfMemory = true

-- the rows of the calls were drawn, unless memory ran out
abbrev pub IsTraced : (cpu : ℕ) → (old : RowsValue) → (was_lost : Bool) → MachineValue → List Receipt
    → (new : RowsValue) → (is_lost : Bool) → (after : MachineValue) → Type 0
IsTraced cpu old was_lost m receipts new is_lost after =
    is_lost ≡ false → (was_lost ≡ false) × Adds old new (λ rows. MakesSteps cpu m receipts rows after)

-- a call failed with this fault because the history is full, unless memory ran out
abbrev pub LeavesOff : MachineValue → (was_lost : Bool) → CallFault → (is_lost : Bool) → Type 0
LeavesOff m was_lost fault is_lost = is_lost ≡ false → (was_lost ≡ false) × IsStop (Some fault) m

-- without a call nothing changes
pub traced_nothing : (cpu : ℕ) (rows : RowsValue) (lost : Bool) (m : MachineValue)
    → IsTraced cpu rows lost m [] rows lost m
traced_nothing cpu rows lost m = λ none. (none, record { rows = []; drawn = refl; is = (refl, refl) })

-- calls and the calls after them are one sequence of calls
steps_joined : (cpu : ℕ) (xs ys : List Receipt) (m n after : MachineValue) (rows others : List Row)
    → MakesSteps cpu m xs rows n → MakesSteps cpu n ys others after
    → MakesSteps cpu m (xs ++ ys) (rows ++ others) after
steps_joined cpu [] ys m n after rows others first second =
    subst (λ (l : List Row). MakesSteps cpu m ys (l ++ others) after) (sym first.1)
    (subst (λ (k : MachineValue). MakesSteps cpu k ys others after) first.0 second)
steps_joined cpu (x ∷ xs) ys m n after rows others first second = (
  first.0,
  first.1 ++ others,
  first.2,
  first.3,
  ap (λ (l : List Row). l ++ others) first.4,
  steps_joined cpu xs ys first.0 n after first.1 others first.5 second,
)

pub traced_joined : (cpu same : ℕ) (xs ys : List Receipt) (old mid new : RowsValue) (was between is : Bool)
    (m n after : MachineValue)
    → same ≡ cpu
    → IsTraced cpu old was m xs mid between n → IsTraced same mid between n ys new is after
    → IsTraced cpu old was m (xs ++ ys) new is after
traced_joined cpu same xs ys old mid new was between is m n after at first second = λ none.
    let later = second none in
    let earlier = first later.0 in
    let a = earlier.1 in
    let b = later.1 in (
      earlier.0,
      record {
        rows = a.rows ++ b.rows;
        drawn = drawn_joined a.rows b.rows old mid new a.drawn b.drawn;
        is =
            steps_joined cpu xs ys m n after a.rows b.rows a.is
            (subst (λ (k : ℕ). MakesSteps k n ys b.rows after) at b.is);
      },
    )
