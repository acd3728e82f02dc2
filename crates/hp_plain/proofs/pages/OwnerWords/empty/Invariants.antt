use Rattle.std.proofs.Common.{◌≡◌, replicate, None}
use Rattle.hp_plain.proofs.pages.OwnerWords.empty.Given as goal

abbrev pub invariant-loop-page : goal.invariant-loop-page
invariant-loop-page l = l.empty.items ≡ replicate l._page None
