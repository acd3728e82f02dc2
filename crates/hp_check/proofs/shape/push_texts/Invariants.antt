use Rattle.std.proofs.Common.{is_some, take}
use Rattle.std.specs.List.{list_all}
use Rattle.serde_json.specs.Find.{as_str}
use Rattle.serde_json.specs.View.{view}
use Rattle.hp_check.specs.Adds.{Adds, IsShape, lacks}
use Rattle.hp_check.proofs.shape.push_texts.Given as goal

abbrev pub invariant-loop-index : goal.invariant-loop-index
invariant-loop-index l =
    Adds IsShape (lacks (list_all (λ v. is_some (as_str (view v))) (take l.index l.texts)))
    l.fn.found.items l.found.items
