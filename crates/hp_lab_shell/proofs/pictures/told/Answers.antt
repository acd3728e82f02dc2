use Rattle.std.proofs.Common.{ℕ, List, refl, string_bytes}
use Rattle.hp_scenario.specs.Seen.{scenario_seen}
use Rattle.hp_trace.specs.Traces.{IsJsonOf}
use Rattle.hp_lab_shell.specs.Shown.{IsJsonText}
use Rattle.hp_lab_shell.proofs.Plainly.{in_plain}
use Rattle.hp_lab_shell.proofs.pictures.told.Goals as goal

pub returns-clause-ok : goal.returns-clause-ok
returns-clause-ok c = (
  in_plain
      (λ s. (lines : List ℕ) × IsJsonOf s lines
      × IsJsonText c.args.form lines (string_bytes c.in_ok-text.text))
      c.args.input.now (scenario_seen c.in_ok-scenario.scenario) c.in_ok-scenario.ensures.ok
      (string_bytes c.in_ok-lines.lines, c.in_ok-lines.ensures, c.in_ok-text.ensures),
  refl,
)
