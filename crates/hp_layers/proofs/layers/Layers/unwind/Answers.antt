-- Each delta is undone when its turn comes.
use Rattle.std.proofs.Common.{◌<◌, length, drop, ◌∙◌, arith}
use Rattle.hp_tape.specs.Deltas.{undo, undo_all}
use Rattle.hp_layers.specs.Layers.{view_of}
use Rattle.hp_layers.proofs.Unwinding.{IsLatest, latest, past-drop, past-length, past-take, unwound}
use Rattle.hp_layers.proofs.layers.Layers.unwind.Goals as goal
use Rattle.hp_layers.proofs.layers.Layers.unwind.Goals.{In-Some}

more : (c : In-Some) → c.args.mark < length c.loop-tape.tape.deltas
more c = omega (arith, c.loop-tape-test.true, c.len.ensures)

last : (c : In-Some) → IsLatest c.args.self.now.layout c.in-Some.delta (view_of c.loop-tape.self)
last c =
    latest c.args.self.now.layout (drop c.args.mark c.loop-tape.tape.deltas)
    (drop c.args.mark c.latest.new.self.deltas) c.in-Some.delta (view_of c.loop-tape.self)
    (undo_all undo (drop c.args.mark c.args.tape.now.deltas) (view_of c.args.self.now))
    c.loop-tape.invariant.unwound
    (past-drop c.args.mark c.loop-tape.tape.deltas c.latest.new.self.deltas c.in-Some.delta (more c)
    c.in-Some.ensures.latest)

pub back-requires-clause-fits : goal.back-requires-clause-fits
back-requires-clause-fits c = (last (goal.at.back-requires-clause-fits c).In-Some).fits

pub back-requires-clause-numbers : goal.back-requires-clause-numbers
back-requires-clause-numbers c =
    rw c.loop-tape.invariant.layout (last (goal.at.back-requires-clause-numbers c).In-Some).numbers

pub loop-tape-preserved : goal.loop-tape-preserved
loop-tape-preserved c =
    let here = (goal.at.loop-tape-preserved c).In-Some in
    let all = c.loop-tape.tape.deltas in
    let deltas = c.latest.new.self.deltas in
    let delta = c.in-Some.delta in
    record {
      unwound =
          unwound c.args.self.now.layout (drop c.args.mark all) (drop c.args.mark deltas) delta
          (view_of c.loop-tape.self) (view_of c.back.new.self)
          (undo_all undo (drop c.args.mark c.args.tape.now.deltas) (view_of c.args.self.now))
          c.loop-tape.invariant.unwound
          (past-drop c.args.mark all deltas delta (more here) c.in-Some.ensures.latest) c.back.ensures.back;
      kept =
          past-take c.args.mark all deltas delta (more here) c.in-Some.ensures.latest
          ∙ c.loop-tape.invariant.kept;
      mark = past-length c.args.mark all deltas delta (more here) c.in-Some.ensures.latest;
      room = c.latest.ensures.room ∙ c.loop-tape.invariant.room;
      layout = c.back.ensures.layout ∙ c.loop-tape.invariant.layout;
      one = c.back.ensures.one;
    }
