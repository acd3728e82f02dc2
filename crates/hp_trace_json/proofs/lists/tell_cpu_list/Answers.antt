use Rattle.std.proofs.Common.{inl, inr, refl}
use Rattle.hp_trace_json.proofs.Equal.{other_numbers, same_numbers}
use Rattle.hp_trace_json.proofs.lists.tell_cpu_list.Goals as goal

pub returns-then-eq : goal.returns-then-eq
returns-then-eq c =
    inl (same_numbers c.args.was.now c.args.list.now c.eq.result c.eq.ensures c.if-eq.true, refl)

pub returns : goal.returns
returns c =
    inr (
      record { cpu = c.args.cpu; pool = c.args.pool; splice = c.in_ok-splice.splice },
      other_numbers c.args.was.now c.args.list.now c.eq.result c.eq.ensures c.if-eq.false,
      c.in_ok-push.ensures.items,
      (refl, refl),
      c.in_ok-splice.ensures,
    )
