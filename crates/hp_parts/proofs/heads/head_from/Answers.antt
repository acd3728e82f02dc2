use Rattle.std.proofs.Common.{◌∙◌}
use Rattle.serde_json.specs.View.{view}
use Rattle.hp_parts.proofs.Values.{head_read}
use Rattle.hp_parts.proofs.heads.head_from.Goals as goal

pub returns-clause-is : goal.returns-clause-is
returns-clause-is c =
    c.head_with.ensures.is
    ∙ head_read (view c.args.value.now) c.in_ok-number.number c.in_ok-of.of c.in_ok-wide.wide
    c.in_ok-calls.calls c.in_ok-setup.setup c.in_ok-ends.ends c.in_ok-scenario.scenario.now
    c.in_ok-number.ensures c.in_ok-of.ensures c.in_ok-wide.ensures c.in_ok-calls.ensures
    c.in_ok-setup.ensures c.in_ok-ends.ensures c.in_ok-scenario.ensures
