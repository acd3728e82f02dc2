use Rattle.std.proofs.Common.{◌≡◌, ℕ, List, Some, length}
use Rattle.hp_scenario.specs.Form.{each_in, boot_at}
use Rattle.hp_scenario.specs.Usual.{strings_then, texts_data}
use Rattle.hp_scenario.proofs.usual.takes_boot.Given as goal

abbrev pub invariant-words : goal.invariant-words
invariant-words l =
    (words : List (List ℕ)) × (l.initial.reader ≡ strings_then words l.reader)
    × (each_in boot_at (texts_data words) ≡ Some l.boot.items)

abbrev pub decreases-words : goal.decreases-words
decreases-words l = length l.reader
