-- Where a line is over, and where it goes on.
use Rattle.std.proofs.Common.{◌≡◌, ℕ, List, [], ◌∷◌, ◌++◌, Some, None}
use Rattle.hp_units.specs.declared.events.Event.{Event}
use Rattle.hp_units.specs.declared.replies.Receipt.{Receipt}
use Rattle.hp_schedules.specs.declared.scripts.Step.{Step}
use Rattle.hp_schedules.specs.Scripts.{Known, after_line, line_next}

-- after the receipts so far
pub over_now : (cpus : ℕ) (known : Known) (line : Step) (earlier later : List Receipt)
    → line_next cpus known line earlier ≡ None → after_line cpus known line earlier later ≡ Some later
over_now cpus known line earlier [] none = rw none
over_now cpus known line earlier (r ∷ rs) none = rw none

-- not yet
pub goes_on : (cpus : ℕ) (known : Known) (line : Step) (earlier : List Receipt) (r : Receipt)
    (rs : List Receipt) (e : Event)
    → line_next cpus known line earlier ≡ Some e
    → after_line cpus known line earlier (r ∷ rs) ≡ after_line cpus known line (earlier ++ r ∷ []) rs
goes_on cpus known line earlier r rs e some = rw some

pub goes_on_all : (cpus : ℕ) (known : Known) (line : Step) (earlier : List Receipt) (e : Event)
    → line_next cpus known line earlier ≡ Some e → after_line cpus known line earlier [] ≡ None
goes_on_all cpus known line earlier e some = rw some
