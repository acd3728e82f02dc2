use Rattle.std.proofs.Common.{◌≡◌, ◌++◌, string_bytes}
use Rattle.hp_text.specs.State.{texts_below}
use Rattle.hp_search.specs.Prepared.{names_of, setting_of}
use Rattle.hp_search.specs.Texts.{object_at}
use Rattle.hp_search.proofs.prepared.Prepared.write_objects.Given as goal

abbrev pub invariant-loop-index : goal.invariant-loop-index
invariant-loop-index l =
    string_bytes l.out
    ≡ string_bytes l.fn.out ++ texts_below (object_at (names_of l.self) (setting_of l.self) l.ends) l.index
