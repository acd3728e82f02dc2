-- How far a search may go.
use Rattle.std.specs.Prelude.{◌≡◌, ℕ, ◌<◌, ◌≤◌, Option, Some}
use Rattle.hp_lab_shell.specs.declared.budgets.Budget.{Budget}
use Rattle.hp_lab_shell.specs.declared.budgets.Budget.TheVariants.{Memory, Seconds, States}
use Rattle.hp_lab_shell.specs.declared.budgets.Budgets.{Budgets}
use Rattle.hp_lab_shell.specs.declared.budgets.Reached.{Reached}

-- there is a limit, and the number is above it
abbrev pub IsAbove : (number : ℕ) → (limit : Option ℕ) → Type 0
IsAbove number limit = (most : ℕ) × (limit ≡ Some most) × (most < number)

-- there is a limit, and the number has reached it
abbrev pub HasReached : (number : ℕ) → (limit : Option ℕ) → Type 0
HasReached number limit = (most : ℕ) × (limit ≡ Some most) × (most ≤ number)

-- a search has used up this budget: it has reached more states than the limit, keeps more bytes
-- than it may, or has taken all of its seconds
abbrev pub IsOver : Budget → Budgets → Reached → Type 0
IsOver States b r = IsAbove r.states b.limit
IsOver Memory b r = b.memory < r.bytes
IsOver Seconds b r = HasReached r.seconds b.seconds

-- a search has used up no budget
abbrev pub HasLeft : Budgets → Reached → Type 0
HasLeft b r = (budget : Budget) → IsOver budget b r → ⊥

-- a search has used up a budget
abbrev pub IsUsedUp : Budgets → Reached → Type 0
IsUsedUp b r = (budget : Budget) × IsOver budget b r
