use Rattle.std.proofs.Common.{◌≡◌, Option, Some, None, is_some, option_map, refl}
use Rattle.hp_scenario.specs.Seen.{said_seen}
use Rattle.hp_scenario.proofs.requests.is_line.Goals as goal

still_some : {A B : Type 0} (f : A → B) (o : Option A) → is_some o ≡ is_some (option_map f o)
still_some f (Some x) = refl
still_some f None = refl

pub returns : goal.returns
returns c = rw (c.is_some.ensures, still_some said_seen c.in_ok-line_says.field-0, c.in_ok-line_says.ensures)
