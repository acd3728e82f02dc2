use Rattle.std.proofs.Common.{[], None, cond, get_or}
use Rattle.hp_units.specs.Pages.{holds, words_at}
use Rattle.hp_units.specs.Placement.{IsPage}
use Rattle.hp_plain.proofs.Counting.{SoFar}
use Rattle.hp_plain.proofs.placement.place_owner.Given as goal

abbrev pub invariant-loop-number : goal.invariant-loop-number
invariant-loop-number l =
    SoFar (λ frame page entry. cond (holds frame entry) 1 0)
    (λ page entry. IsPage l.layout entry (words_at l.pages l.owner page))
    (get_or l.pages.table l.owner []) None l.number l.fn.marks l.marks
