use Rattle.std.proofs.Common.{◌≡◌, ℕ, ◌+◌, ◌*◌, [], replicate, ◌∙◌, ap}
use Rattle.hp_units.specs.Arithmetic.{pageblock_count}
use Rattle.hp_units.specs.Boot.{empty_areas}
use Rattle.hp_units.specs.Memory.{plain_kind}
use Rattle.hp_plain.proofs.EmptyFrames.{empty-areas_are, empty-areas_of, made}
use Rattle.hp_plain.proofs.areas.Areas.empty.Goals as goal
use Rattle.hp_plain.proofs.areas.Areas.empty.Goals.{In_ok-kinds}

value : (c : In_ok-kinds)
    → made c.in_ok-lists.lists.items c.in_ok-kinds.kinds.items ≡ empty_areas c.args.layout.now
value c =
    let l = c.args.layout.now in
    let lists : c.in_ok-lists.lists.items ≡ replicate (5 * (l.order + 1)) [] =
    c.in_ok-lists.ensures ∙ ap (λ (n : ℕ). replicate (5 * (n + 1)) []) c.order.ensures.is in
    let kinds : c.in_ok-kinds.kinds.items ≡ replicate (pageblock_count l) plain_kind =
    rw ((c.in_ok-kinds.ensures.items_if_clones_equal (λ y e. e)), c.plain.ensures)
    (rw (c.blocks-2.ensures.is, c.pageblocks.ensures.is)) in
    empty-areas_are l c.in_ok-lists.lists.items c.in_ok-kinds.kinds.items lists kinds

pub returns-clause-value : goal.returns-clause-value
returns-clause-value c = value (goal.at.returns-clause-value c).In_ok-kinds

pub returns-clause-layout : goal.returns-clause-layout
returns-clause-layout c =
    rw (value (goal.at.returns-clause-layout c).In_ok-kinds) (empty-areas_of c.args.layout.now)
