-- The walk down meets the operation's Begin, a step that breaks off the search, or the beginning.
use Rattle.std.proofs.Common.{sym, ◌∙◌, arith}
use Rattle.hp_history.specs.Entries.{tags_of}
use Rattle.hp_history.proofs.Places.{sole_found, sole_other, sole_broken, sole_empty}
use Rattle.hp_history.proofs.entries.sole_place.Goals as goal

pub returns-then-eq : goal.returns-then-eq
returns-then-eq c =
    sole_found c.args.op (tags_of c.args.before c.args.entries.now) c.loop-place.place
    c.step_tag-tag.result (omega arith) c.step_tag-tag.ensures
    (sym c.is_opening.ensures ∙ c.if-is_opening.true) (sym c.eq.ensures ∙ c.if-eq.true)
    c.loop-place.invariant.works

pub returns-else-eq : goal.returns-else-eq
returns-else-eq c =
    sole_other c.args.op (tags_of c.args.before c.args.entries.now) c.loop-place.place
    c.step_tag-tag.result (omega arith) c.step_tag-tag.ensures
    (sym c.is_opening.ensures ∙ c.if-is_opening.true) (sym c.eq.ensures ∙ c.if-eq.false)
    c.loop-place.invariant.works

pub returns-then-not-is_work_of : goal.returns-then-not-is_work_of
returns-then-not-is_work_of c =
    sole_broken c.args.op (tags_of c.args.before c.args.entries.now) c.loop-place.place
    c.step_tag-tag.result (omega arith) c.step_tag-tag.ensures
    (sym c.is_opening.ensures ∙ c.if-is_opening.false) (sym c.is_work_of.ensures ∙ c.if-not-is_work_of.true)
    c.loop-place.invariant.works

pub returns : goal.returns
returns c =
    sole_empty c.args.op (tags_of c.args.before c.args.entries.now)
    (λ i u ge at. c.loop-place.invariant.works i u (omega arith) at)
