-- What the text of a part says, whatever ended the search.
use Rattle.std.proofs.Common.{ℕ, Bool, List, Option, Some, None, inl, inr}
use Rattle.hp_schedules.specs.Parts.{PartValue}
use Rattle.hp_schedules.specs.PartNumbers.{NumberValue}
use Rattle.hp_schedules.specs.Schedules.{Setting}
use Rattle.hp_schedules.specs.declared.multinomials.HowMany.{HowMany}
use Rattle.hp_schedules.specs.declared.tally.Ending.{Ending}
use Rattle.hp_parts.specs.Parts.{ArePartEnds, IsPartOf}

part_loosely : (g : Setting) (part : PartValue) (limit : ℕ) (ended : Type 0) (ends : List Ending)
    (more : Option HowMany)
    → ArePartEnds g part limit ended ends more → ArePartEnds g part limit (Unit {0}) ends more
part_loosely g part limit ended ends None h = h
part_loosely g part limit ended ends (Some known) h =
    (h.0, h.1, elim h.2 [ inl full ↦ inl full | inr why ↦ inr tt ], h.3)

pub loosely : (n : NumberValue) (input : List ℕ) (setup limit : ℕ) (ended : Type 0) (text : List ℕ)
    (found : Bool)
    → IsPartOf n input setup limit ended text found → IsPartOf n input setup limit (Unit {0}) text found
loosely n input setup limit ended text found h =
    let on = h.holds.holds in
    record {
      named = h.named;
      read = h.read;
      plain = h.plain;
      resolved = h.resolved;
      holds = record {
        start = h.holds.start;
        scripts = h.holds.scripts;
        begun = h.holds.begun;
        holds = record {
          calls = on.calls;
          ends = on.ends;
          more = on.more;
          by = on.by;
          are = part_loosely _ _ limit ended on.ends on.more on.are;
          ordered = on.ordered;
          within = on.within;
          told = on.told;
          is_found = on.is_found;
        };
      };
    }
