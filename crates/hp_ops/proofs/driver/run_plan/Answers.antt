use Rattle.std.proofs.Common.{[], ◌∷◌, ◌++◌, List, Option, None, Some, sym, ◌∙◌}
use Rattle.hp_units.specs.Driver.{IsDriverRun}
use Rattle.hp_ops.specs.Names.{CallFault, EndsLeft, Receipt}
use Rattle.hp_ops.proofs.Gained.{at_fault, shown_joined, shown_left}
use Rattle.hp_ops.proofs.Runs.{broken_off, ends, fewer_left, goes_on, known_by, over}
use Rattle.hp_ops.proofs.driver.run_plan.Goals as goal

pub loop-reply-smaller : goal.loop-reply-smaller
loop-reply-smaller g c =
    let made = c.in-Ok.ensures.ok in
    let so_far = c.loop-reply.invariant in
    fewer_left (g.P.Port.shows c.args.port.now).cpus c.args.turns c.args.plan c.loop-reply.driver
    c.answer.new.self c.loop-reply.event c.in-Some.next c.in-Ok.reply so_far.gained made.receipt so_far.is
    made.given.asked made.replied c.answer.ensures (sym c.work.ensures ∙ c.in-Some.is)

pub loop-reply-preserved : goal.loop-reply-preserved
loop-reply-preserved g c =
    let made = c.in-Ok.ensures.ok in
    let so_far = c.loop-reply.invariant in
    record {
      gained = so_far.gained ++ made.receipt ∷ [];
      value =
          shown_joined (g.P.Port.shows c.args.port.now) (g.P.Port.shows c.loop-reply.port)
          (g.P.Port.shows c.call.new.self) so_far.gained (made.receipt ∷ []) None None so_far.value
          made.given.value;
      made = g.met.P.Port.joined _ _ _ so_far.gained (made.receipt ∷ []) so_far.made made.made;
      is =
          goes_on _ _ _ _ _ _ _ _ _ _ so_far.is made.given.asked made.replied c.answer.ensures (sym
          c.work.ensures ∙ c.in-Some.is);
    }

pub end-requires : goal.end-requires
end-requires g c =
    let made = c.in-Ok.ensures.ok in
    let so_far = c.loop-reply.invariant in
    ends (g.P.Port.shows c.args.port.now).cpus c.args.turns c.args.plan c.loop-reply.driver
    c.answer.new.self c.loop-reply.event c.in-Ok.reply so_far.gained made.receipt so_far.is made.given.asked
    made.replied c.answer.ensures
    (known_by (g.P.Port.shows c.args.port.now) (g.P.Port.shows c.loop-reply.port)
    (g.P.Port.shows c.call.new.self) c.args.turns c.args.plan c.loop-reply.driver c.loop-reply.event
    so_far.gained made.receipt so_far.value so_far.is made.given)
    (sym c.work.ensures ∙ c.in-None.is)

pub returns-in-None : goal.returns-in-None
returns-in-None g c =
    let made = c.in-Ok.ensures.ok in
    let so_far = c.loop-reply.invariant in
    at_fault _ _ _ _ _ None (λ (f : Option CallFault) (gained : List Receipt). IsDriverRun
    (g.P.Port.shows c.args.port.now).cpus c.args.turns c.args.plan gained f c.end.result) (record {
      gained = so_far.gained ++ made.receipt ∷ [];
      value =
          shown_joined (g.P.Port.shows c.args.port.now) (g.P.Port.shows c.loop-reply.port)
          (g.P.Port.shows c.call.new.self) so_far.gained (made.receipt ∷ []) None None so_far.value
          made.given.value;
      made = g.met.P.Port.joined _ _ _ so_far.gained (made.receipt ∷ []) so_far.made made.made;
      is =
          over _ _ _ _ _ _ _ _ _ _ so_far.is made.given.asked made.replied c.answer.ensures (sym
          c.work.ensures ∙ c.in-None.is) c.end.ensures;
    })

pub returns-in-Err : goal.returns-in-Err
returns-in-Err g c =
    let so_far = c.loop-reply.invariant in
    at_fault _ _ _ _ _ (Some c.in-Err.fault) (λ (f : Option CallFault) (gained : List Receipt). IsDriverRun
    (g.P.Port.shows c.args.port.now).cpus c.args.turns c.args.plan gained f
    (EndsLeft c.operation_in.result c.in-Err.fault)) (record {
      gained = so_far.gained;
      value =
          shown_left (g.P.Port.shows c.args.port.now) (g.P.Port.shows c.loop-reply.port)
          (g.P.Port.shows c.call.new.self) so_far.gained None (Some c.in-Err.fault) so_far.value
          c.in-Err.ensures.err;
      made = (c.loop-reply.port, so_far.made, c.in-Err.ensures.leaves);
      is = broken_off _ _ _ _ _ _ _ _ so_far.is c.operation_in.ensures;
    })
