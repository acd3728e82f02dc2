use Rattle.std.proofs.Common.{take}
use Rattle.std.specs.List.{list_all}
use Rattle.serde_json.specs.View.{view}
use Rattle.hp_check.specs.Adds.{Adds, IsShape, lacks}
use Rattle.hp_check.specs.Shape.{is_number_at}
use Rattle.hp_check.proofs.shape.push_numbers.Given as goal

abbrev pub invariant-loop-key : goal.invariant-loop-key
invariant-loop-key l =
    Adds IsShape (lacks (list_all (is_number_at (view l.layout)) (take l.key-index l.keys))) l.fn.found.items
    l.found.items
