use Rattle.std.proofs.Common.{is_some, take}
use Rattle.std.specs.List.{list_all}
use Rattle.serde_json.specs.View.{view}
use Rattle.hp_scenario.specs.Form.{boot_at}
use Rattle.hp_check.specs.Adds.{Adds, IsShape, lacks}
use Rattle.hp_check.proofs.shape.push_boots.Given as goal

abbrev pub invariant-loop-index : goal.invariant-loop-index
invariant-loop-index l =
    Adds IsShape (lacks (list_all (λ v. is_some (boot_at (view v))) (take l.index l.words)))
    l.fn.found.items l.found.items
