-- The text says so, whatever ended the search.
use Rattle.std.proofs.Common.{List, ℕ, string_bytes, subst, sym}
use Rattle.hp_parts.specs.Parts.{IsPartOf}
use Rattle.hotplug_lab.proofs.PartTexts.{loosely}
use Rattle.hotplug_lab.proofs.answering.partial.Goals as goal

pub returns-clause-ok : goal.returns-clause-ok
returns-clause-ok g c =
    let f = c.in_ok-finding.finding in (
      f.is_found,
      subst (λ (text : List ℕ). IsPartOf c.args.part.now c.args.input.now c.args.asked.setup
          c.args.asked.limit (Unit {0}) text f.is_found) (sym c.answer_with.ensures.text)
          (loosely c.args.part.now c.args.input.now c.args.asked.setup c.args.asked.limit _
          (string_bytes f.text) f.is_found c.in_ok-finding.ensures.ok),
      c.answer_with.ensures.status,
    )
