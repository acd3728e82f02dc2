-- The text says so, whatever ended the search.
use Rattle.std.proofs.Common.{string_bytes, subst, sym}
use Rattle.std.proofs.Common.{List, ℕ}
use Rattle.hp_parts.specs.Explorations.{IsExplorationOf}
use Rattle.hp_parts.proofs.Explorations.{loosely}
use Rattle.hotplug_lab.proofs.answering.explored.Goals as goal

pub returns-clause-ok : goal.returns-clause-ok
returns-clause-ok g c =
    let f = c.in_ok-finding.finding in (
      f.is_found,
      subst (λ (text : List ℕ). IsExplorationOf c.args.form c.args.by c.args.input.now c.args.asked.setup
          c.args.asked.limit (Unit {0}) text f.is_found) (sym c.answer_with.ensures.text)
          (loosely c.args.form c.args.by c.args.input.now c.args.asked.setup c.args.asked.limit _
          (string_bytes f.text) f.is_found c.in_ok-finding.ensures.ok),
      c.answer_with.ensures.status,
    )
