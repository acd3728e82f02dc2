use Rattle.std.proofs.Common.{List, refl}
use Rattle.hp_map.specs.Rows.{RowValue}
use Rattle.hp_scenario.specs.Seen.{scenario_seen}
use Rattle.hp_trace.specs.Traces.{AreRowsOf}
use Rattle.hp_lab_shell.proofs.Plainly.{in_plain}
use Rattle.hp_lab_shell.proofs.pictures.drawn.Goals as goal

pub returns-clause-ok : goal.returns-clause-ok
returns-clause-ok c = (
  in_plain (λ s. (rows : List RowValue) × AreRowsOf c.args.drawing.view s rows) c.args.input.now
      (scenario_seen c.in_ok-scenario.scenario) c.in_ok-scenario.ensures.ok
      (c.in_ok-rows.rows.items, c.in_ok-rows.ensures),
  refl,
)
