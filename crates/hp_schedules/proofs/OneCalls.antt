-- What lines ask for that are one call each.
use Rattle.std.proofs.Common.{◌≡◌, ℕ, true, List, [], ◌∷◌, Some, None, refl}
use Rattle.hp_units.specs.declared.events.Event.{Event}
use Rattle.hp_units.specs.declared.replies.Receipt.{Receipt}
use Rattle.hp_schedules.specs.declared.scripts.Step.{Step}
use Rattle.hp_schedules.specs.declared.scripts.Step.TheVariants.{Ask, Own, Carry}
use Rattle.hp_schedules.specs.Interleavings.{is_one_call}
use Rattle.hp_schedules.specs.Scripts.{Known, after_line, line_next, next_in}
use Rattle.hp_schedules.proofs.Lines.{over_now}

-- a line of one call asks for it, and is over after its receipt
pub asks_once : (cpus : ℕ) (known : Known) (line : Step) → is_one_call line ≡ true
    → (e : Event) × (line_next cpus known line [] ≡ Some e)
asks_once cpus known (Ask event) one = (event, refl)
asks_once cpus known (Own work) one = (_, refl)
asks_once cpus known (Carry plan turns) one = absurd cc

over_once : (cpus : ℕ) (known : Known) (line : Step) (r : Receipt) → is_one_call line ≡ true
    → line_next cpus known line (r ∷ []) ≡ None
over_once cpus known (Ask event) r one = refl
over_once cpus known (Own work) r one = refl
over_once cpus known (Carry plan turns) r one = absurd cc

-- so it is the first of several after no receipts, and over after the first receipt
pub stays : (cpus : ℕ) (known : Known) (line : Step) (lines : List Step) → is_one_call line ≡ true
    → next_in cpus known (line ∷ lines) [] ≡ line_next cpus known line []
stays cpus known line lines one = let first = asks_once cpus known line one in rw first.1

pub finished_once : (cpus : ℕ) (known : Known) (line : Step) (r : Receipt) (rs : List Receipt)
    → is_one_call line ≡ true → after_line cpus known line [] (r ∷ rs) ≡ Some rs
finished_once cpus known line r rs one =
    let first = asks_once cpus known line one in
    rw first.1 (over_now cpus known line (r ∷ []) rs (over_once cpus known line r one))

pub skips : (cpus : ℕ) (known : Known) (line : Step) (lines : List Step) (r : Receipt) (rs : List Receipt)
    → is_one_call line ≡ true → next_in cpus known (line ∷ lines) (r ∷ rs) ≡ next_in cpus known lines rs
skips cpus known line lines r rs one = rw (finished_once cpus known line r rs one)
