use Rattle.hp_units.specs.Placement.{IsBlockOf, class_at, covered}
use Rattle.hp_plain.proofs.Counting.{SoFar}
use Rattle.hp_plain.proofs.free.place_list.Given as goal

abbrev pub invariant-loop-first : goal.invariant-loop-first
invariant-loop-first l =
    SoFar (λ frame number first. covered frame l.order first)
    (λ number first. IsBlockOf l.layout (class_at l.layout l.kinds l.rows) l.class l.order first)
    l.frames 0 l.first-index l.fn.marks l.marks
