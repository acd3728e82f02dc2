use Rattle.std.proofs.Common.{ℕ, [], None, get_or}
use Rattle.std.specs.List.{count_by}
use Rattle.hp_units.specs.Pages.{holds, words_at}
use Rattle.hp_units.specs.Placement.{IsPage}
use Rattle.hp_plain.proofs.Counting.{SoFar}
use Rattle.hp_plain.proofs.placement.place_pages.Given as goal

abbrev pub invariant-loop-owner : goal.invariant-loop-owner
invariant-loop-owner l =
    SoFar (λ frame owner row. count_by (holds frame) row)
    (λ owner row. (page : ℕ) → IsPage l.layout (get_or row page None) (words_at l.pages owner page))
    l.pages.table [] l.owner l.fn.marks l.marks
