use Rattle.std.proofs.Common.{◌≡◌, ap, arith, ◌∙◌}
use Rattle.hp_trace_json.specs.Changes.{NoOwnersPages, OwnersPagesTold}
use Rattle.hp_trace_json.proofs.Tellings.{below_more, below_none}
use Rattle.hp_trace_json.proofs.Parts.{pages_join}
use Rattle.hp_trace_json.proofs.frames.pages_told.Goals as goal

pub loop-number-init : goal.loop-number-init
loop-number-init c =
    below_none (λ owner. OwnersPagesTold c.args.was.now c.args.now.now owner c.args.now.now.layout.pages)
    NoOwnersPages (pages_join c.args.was.now c.args.now.now) c.new-told.result.items c.new-told.ensures.items

pub loop-number-preserved : goal.loop-number-preserved
loop-number-preserved c =
    rw (c.in_ok-extend_from_slice.ensures.items, c.as_slice.ensures.value)
    (below_more (λ owner. OwnersPagesTold c.args.was.now c.args.now.now owner c.args.now.now.layout.pages)
    NoOwnersPages (pages_join c.args.was.now c.args.now.now) c.loop-number.number _ _ c.loop-number.invariant
    c.in_ok-of_owner.ensures.told c.in_ok-of_owner.ensures.others)

pub returns : goal.returns
returns c =
    let end : c.owners-number-end.result ≡ c.args.now.now.layout.owners =
    c.owners-number-end.ensures.is ∙ ap (λ l. l.owners) c.layout.ensures in
    let all : c.loop-number.number ≡ c.args.now.now.layout.owners =
    omega (arith, end, c.loop-number-test.false, c.loop-number.auto.number-end) in
    rw (← all) c.loop-number.invariant
