use Rattle.std.proofs.Common.{ℕ, List, refl}
use Rattle.hp_judge.specs.declared.events.LogEvent.{LogEvent}
use Rattle.hp_scenario.specs.Seen.{scenario_seen}
use Rattle.hp_trace.specs.Logs.{IsLogOfScenario}
use Rattle.hp_lab_shell.proofs.Plainly.{in_plain}
use Rattle.hp_lab_shell.proofs.logs.logged.Goals as goal

pub returns-clause-ok : goal.returns-clause-ok
returns-clause-ok c = (
  in_plain
      (λ s. (block_frames : ℕ) × (events : List LogEvent) × IsLogOfScenario s block_frames events)
      c.args.input.now (scenario_seen c.in_ok-scenario.scenario) c.in_ok-scenario.ensures.ok
      (c.in_ok-log.log.block_frames, c.in_ok-log.log.events.items, c.in_ok-log.ensures),
  refl,
)
