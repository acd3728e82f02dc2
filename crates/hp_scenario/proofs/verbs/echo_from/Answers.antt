use Rattle.std.proofs.Common.{ℕ, List}
use Rattle.hp_requests.specs.Echoes.{EchoValue}
use Rattle.hp_scenario.proofs.verbs.echo_from.Goals as goal

abbrev echo_of : List ℕ → List ℕ → EchoValue
echo_of path word = record { path = path; word = word }

pub returns : goal.returns
returns c =
    rw (← c.in_ok-from_str-2.ensures.ok, ← c.new-word.ensures, ← c.in_ok-from_str.ensures.ok)
    (rw (← c.new-path.ensures) c.new.ensures)
