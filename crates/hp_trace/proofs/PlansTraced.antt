-- What calls of a plan's driver made of the machine and of the rows, for whoever drives a port that
-- draws them.
use Rattle.std.proofs.Common.{arith, ◌≡◌, ℕ, Bool, true, false, ◌||◌, not, IsTrue, List, [], ◌∷◌, ◌++◌, Option, None, refl, sym, ap, ◌∙◌, true≢false}
use Rattle.hp_units.specs.Driver.{IsDriverRun}
use Rattle.hp_units.specs.declared.plans.Item.{Item}
use Rattle.hp_units.specs.declared.replies.CallFault.{CallFault}
use Rattle.hp_units.specs.declared.replies.OpEnd.{OpEnd}
use Rattle.hp_units.specs.declared.replies.Receipt.{Receipt}
use Rattle.hp_machine.specs.Machine.{MachineValue}
use Rattle.hp_machine.specs.MachinePorts.{AreCalls}
use Rattle.hp_ops.specs.Ports.{AreMade}
use Rattle.hp_text.specs.Plans.{plan_line}
use Rattle.hp_trace.specs.Calls.{IsDriven, IsStop, MakesPlan, MakesSteps, answer_text, moved_of, step_text}
use Rattle.hp_trace.specs.Ports.{IsTraced, LeavesOff}
use Rattle.hp_trace.specs.Rows.{Adds, DrawsIf, RowsValue, Says, drawing, drawn_joined, words}

-- what is known of a port: its names, its processor, its machine and rows, and whether it was out of memory
pub record Known (S N K : Type 0) : Type 0 where
  pub machine_name : S → N
  pub rows_name : S → K
  pub cpu : S → ℕ
  pub machine : S → MachineValue
  pub rows : S → RowsValue
  pub lost : S → Bool

abbrev pub known : {S N K : Type 0} → (S → N) → (S → K) → (S → ℕ) → (S → MachineValue) → (S → RowsValue)
    → (S → Bool) → Known S N K
known machine_name rows_name cpu machine rows lost =
    record {
      machine_name = machine_name;
      rows_name = rows_name;
      cpu = cpu;
      machine = machine;
      rows = rows;
      lost = lost;
    }

-- calls that gave receipts, and one that left a fault
abbrev pub Makes : {S N K : Type 0} → Known S N K → S → List Receipt → S → Type 0
Makes k p gained q =
    (k.machine_name q ≡ k.machine_name p) × (k.rows_name q ≡ k.rows_name p) × (k.cpu q ≡ k.cpu p)
    × IsTraced (k.cpu p) (k.rows p) (k.lost p) (k.machine p) gained (k.rows q) (k.lost q) (k.machine q)

abbrev pub Leaves : {S N K : Type 0} → Known S N K → S → CallFault → S → Type 0
Leaves k p fault q =
    (k.machine_name q ≡ k.machine_name p) × (k.rows_name q ≡ k.rows_name p) × (k.machine q ≡ k.machine p)
    × (k.rows q ≡ k.rows p) × LeavesOff (k.machine p) (k.lost p) fault (k.lost q)

-- all of a run's calls
abbrev pub AllTraced : {S N K : Type 0} → Known S N K → S → List Receipt → Option CallFault → S → Type 0
AllTraced k old gained fault new =
    (k.machine_name new ≡ k.machine_name old) × (k.rows_name new ≡ k.rows_name old)
    × (k.lost new ≡ false
    → Adds (k.rows old) (k.rows new) (λ rows.
    MakesSteps (k.cpu old) (k.machine old) gained rows (k.machine new)) × IsStop fault (k.machine new))

-- rows of the same calls, with the machine and the rows said otherwise
pub adds_same : (cpu same : ℕ) (gained : List Receipt) (old start last new : RowsValue)
    (m first n after : MachineValue)
    → same ≡ cpu → first ≡ m → after ≡ n → start ≡ old → new ≡ last
    → Adds start last (λ rows. MakesSteps same first gained rows n)
    → Adds old new (λ rows. MakesSteps cpu m gained rows after)
adds_same cpu same gained old start last new m first n after at_cpu at_first at_after at_start at_new a =
    grind arith

pub all_traced : {S N K : Type 0} (k : Known S N K) (makes : S → List Receipt → S → Type 0)
    (leaves : S → CallFault → S → Type 0)
    → ((p q : S) (gained : List Receipt) → makes p gained q → Makes k p gained q)
    → ((p q : S) (fault : CallFault) → leaves p fault q → Leaves k p fault q)
    → (old new : S) (gained : List Receipt) (fault : Option CallFault)
    → AreMade makes leaves old gained fault new → AllTraced k old gained fault new
all_traced k makes leaves as_made as_left old new gained fault made = grind (arith, adds_same)

-- from a port's machine and rows before and after the calls
pub driven : (m first last after : MachineValue) (cpu caller turns : ℕ) (plan : List Item) (end : OpEnd)
    (old start rows new : RowsValue) (fault : Option CallFault) (gained : List Receipt)
    → first ≡ m → caller ≡ cpu → start ≡ old → after ≡ last → new ≡ rows
    → Adds start rows (λ list. MakesSteps caller first gained list last) × IsStop fault last
    → IsDriverRun first.layout.cpus turns plan gained fault end
    → Adds old new (λ list. IsDriven m cpu turns plan end list after)
driven m first last after cpu caller turns plan end old start rows new fault gained at_first same
    at_start at_last at_rows traced ran =
    grind (arith, adds_same)

-- the row of the memory before a plan, the rows of its calls, and its end
pub plan_added : (m after : MachineValue) (cpu turns : ℕ) (plan copied : List Item) (end : OpEnd)
    (asked : List ℕ) (old head steps new : RowsValue)
    → copied ≡ plan
    → DrawsIf old.form m asked [] None old head
    → Adds head steps (λ list. IsDriven m cpu turns copied end list after) → Says (plan_line end) steps new
    → Adds old new (λ list. MakesPlan m cpu turns plan asked list after)
plan_added m after cpu turns plan copied end asked old head steps new same drawn a is = record {
  rows = drawing asked [] None m ∷ (a.rows ++ words (plan_line end) ∷ []);
  drawn =
      (head, drawn, drawn_joined a.rows (words (plan_line end) ∷ []) head steps new a.drawn (new, is, refl));
  is = record { steps = a.rows; end = end; driven = rw (← same) a.is; is = refl };
}

-- one call of a plan
pub step_traced : (cpu : ℕ) (m after : MachineValue) (r : Receipt) (old new : RowsValue) (was is drawn : Bool)
    → is ≡ (was || not drawn) → AreCalls m cpu (r ∷ []) after
    → (IsTrue drawn → DrawsIf old.form after (step_text r.event) (answer_text r) (moved_of r.reply) old new)
    → IsTraced cpu old was m (r ∷ []) new is after
step_traced cpu m after r old new false is true lost calls row = λ none. (
  refl,
  record {
    rows = drawing (step_text r.event) (answer_text r) (moved_of r.reply) after ∷ [];
    drawn = (new, row refl, refl);
    is = (
      calls.0,
      [],
      calls.1,
      calls.2,
      ap
          (λ (k : MachineValue). drawing (step_text r.event) (answer_text r) (moved_of r.reply) k ∷ [])
          calls.3,
      (calls.3, refl),
    );
  },
)
step_traced cpu m after r old new false is false lost calls row = grind arith
step_traced cpu m after r old new true is drawn lost calls row = λ none. absurd (true≢false (sym lost ∙ none))
