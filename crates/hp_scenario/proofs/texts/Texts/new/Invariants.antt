use Rattle.std.specs.Prelude.{◌≡◌, true, take}
use Rattle.std.specs.List.{list_all}
use Rattle.hp_scenario.specs.Form.{is_text}
use Rattle.hp_scenario.proofs.texts.Texts.new.Given as goal

abbrev pub invariant-loop-value : goal.invariant-loop-value
invariant-loop-value l = list_all is_text (take l.value-index l.values) ≡ true
