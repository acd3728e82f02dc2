-- One more processor.
use Rattle.std.proofs.Common.{arith}
use Rattle.std.proofs.lemmas.List.{take_rest}
use Rattle.hp_explain.proofs.AnswersRead.{script_more}
use Rattle.hp_explain.proofs.answer_lines.read_words.Goals as goal

pub loop-cpu-preserved : goal.loop-cpu-preserved
loop-cpu-preserved c =
    let read = rw (take_rest c.args.lines.now c.loop-cpu.place) at c.in_ok-script.ensures in
    let pushed = rw c.reserve.ensures.items at c.push_reserved.ensures.items in
    script_more _ _ _ _ _ _ _ _ _ (omega arith) c.index-scripts-cpu.is c.line_count-count.ensures read pushed
    c.loop-cpu.invariant
