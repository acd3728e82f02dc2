use Rattle.std.proofs.Common.{ap, option_map}
use Rattle.hp_units.specs.PartsSeen.{parts_seen}
use Rattle.hp_scenario.proofs.LineLoop.{all_made}
use Rattle.hp_scenario.proofs.scenario.scenario_with.Goals as goal

pub returns : goal.returns
returns c =
    all_made _ _ _ _ c.in_ok-layout.layout c.add_lines.new.names.keys c.add_lines.new.lines.items c.new.result
    (ap (option_map parts_seen) c.in-Some-Some.is-0) c.in-Some-Some.is-1 c.in_ok-layout.ensures
    c.in_ok-add_lines.ensures c.new.ensures
