use Rattle.std.proofs.Common.{sym, ◌∙◌, arith}
use Rattle.hp_states.proofs.Walked.{frame_more, has_next}
use Rattle.hp_states.proofs.memories.put_list.Goals as goal

pub after-ahead-requires : goal.after-ahead-requires
after-ahead-requires c = (
  c.args.list,
  (has_next c.args.links.now c.args.list _ _ c.are_apart.ensures
      (sym c.loop-number.invariant.ahead ∙ c.unwrap-frame.ensures)).on,
)

pub loop-number-preserved : goal.loop-number-preserved
loop-number-preserved c =
    let here = sym c.loop-number.invariant.ahead ∙ c.unwrap-frame.ensures in
    let next = has_next c.args.links.now c.args.list _ _ c.are_apart.ensures here in
    record {
      code =
          frame_more _ c.loop-number.code _ _ _ _ c.from.result here
          (omega (arith, c.from.ensures, c.frame.view_is)) c.loop-number.invariant.code
          c.in_ok-number.ensures;
      ahead = c.after-ahead.ensures c.args.list next.on ∙ next.next;
    }
