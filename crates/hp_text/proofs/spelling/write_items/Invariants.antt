use Rattle.std.proofs.Common.{◌≡◌, ◌++◌, string_bytes, take}
use Rattle.std.specs.List.{flat_map}
use Rattle.hp_text.specs.Spelling.{item_word}
use Rattle.hp_text.proofs.spelling.write_items.Given as goal

abbrev pub invariant-loop-item : goal.invariant-loop-item
invariant-loop-item l =
    string_bytes l.out ≡ string_bytes l.fn.out ++ flat_map item_word (take l.item-index l.items)
