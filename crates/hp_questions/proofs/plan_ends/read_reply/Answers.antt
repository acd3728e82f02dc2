-- The script's next call gets the reply, if it makes one.
use Rattle.std.proofs.Common.{◌≡◌, ◌++◌}
use Rattle.std.specs.Option.{option_to_list}
use Rattle.std.proofs.lemmas.List.{append-nil}
use Rattle.hp_questions.specs.PlanEnds.{end_finished}
use Rattle.hp_questions.proofs.Reading.{read_more, read_past}
use Rattle.hp_questions.proofs.plan_ends.read_reply.Goals as goal
use Rattle.hp_questions.proofs.plan_ends.read_reply.Goals.{in-Some-ended+in_ok-push, in_default-ended}

pub returns-in_default : goal.returns-in_default
returns-in_default c =
    λ replies read.
    rw c.in_ok-reserve.ensures.items
    (read_past c.args.cpus c.args.script.now c.args.positions.now.cursors.items c.args.calls.now.items replies
    c.args.ends.now.items c.args.reply read
    (rw (
      c.from_ref-scripts.ensures.value,
      c.as_slice.ensures.value,
      c.in_ok-reserve.ensures.items,
      c.in_default.is,
    ) at c.in_ok-call.ensures))

pub returns : goal.returns
returns c =
    λ replies read.
    let ended : c.match-ended.ends.items
    ≡ c.args.ends.now.items ++ option_to_list (end_finished c.answered.result) =
    elim c.match-ended.branch [
      | in-Some-ended+in_ok-push w ↦
          rw (w.ends-is, w.in_ok-push.ensures.items, ← c.end_of-ended.ensures, w.in-Some-ended.is)
      | in_default-ended w ↦
          rw (w.ends-is, ← c.end_of-ended.ensures, w.in_default-ended.is, append-nil)
    ] in
    rw (c.push_reserved.ensures.items, c.in_ok-reserve.ensures.items)
    (read_more c.args.cpus c.args.script.now c.args.positions.now.cursors.items c.args.calls.now.items replies
    c.args.ends.now.items c.args.reply read c.go_on.new.self.cursors.items c.match-ended.ends.items
    c.in-Some.call c.in_ok-copy.field-0 c.answered.result c.in_ok-copy.ensures.ok
    (rw (
      c.from_ref-scripts.ensures.value,
      c.as_slice.ensures.value,
      c.in_ok-reserve.ensures.items,
      c.in-Some.is,
    ) at c.in_ok-call.ensures)
    c.go_on.ensures.many (rw c.from_ref-scripts.ensures.value at c.go_on.ensures.later)
    (rw c.from_ref-scripts.ensures.value at c.answered.ensures) ended)
