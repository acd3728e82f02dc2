use Rattle.std.proofs.Common.{◌≡◌, take}
use Rattle.hp_plain.proofs.pages.OwnerWords.copy.Given as goal

abbrev pub invariant-loop-words : goal.invariant-loop-words
invariant-loop-words l = l.pages.items ≡ take l.words-index l.words-items
