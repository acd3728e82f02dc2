use Rattle.std.proofs.Common.{◌≡◌, take}
use Rattle.hp_plain.proofs.pages.copy_of_contents.Given as goal

abbrev pub invariant-loop-words : goal.invariant-loop-words
invariant-loop-words l = l.copy.items ≡ take l.words-index l.contents
