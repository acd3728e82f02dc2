use Rattle.std.proofs.Common.{◌≡◌, IsUtf8, length}
use Rattle.json.specs.Lex.{between, lex}
use Rattle.hp_scenario.proofs.plain_reader.after_blanks.Given as goal

abbrev pub invariant-loop-rest : goal.invariant-loop-rest
invariant-loop-rest l = (lex between l.rest ≡ lex between l.text) × IsUtf8 l.rest

abbrev pub decreases-loop-rest : goal.decreases-loop-rest
decreases-loop-rest l = length l.rest
