use Rattle.std.proofs.Common.{refl}
use Rattle.hp_scripts.specs.Seen.{named_seen}
use Rattle.hp_lab_shell.proofs.plain.plain_scenario.Goals as goal

pub returns-clause-ok : goal.returns-clause-ok
returns-clause-ok c = record {
  named = named_seen c.in_ok-named.named;
  read = c.in_ok-named.ensures;
  plain = named_seen c.in_ok-scenario.field-0;
  resolved = c.in_ok-scenario.ensures;
  holds = refl;
}
