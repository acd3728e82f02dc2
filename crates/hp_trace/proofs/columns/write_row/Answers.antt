use Rattle.std.proofs.Common.{string_bytes}
use Rattle.std.proofs.lemmas.Result.{on_ok_weaker}
use Rattle.hp_trace.proofs.RowTexts.{row_in}
use Rattle.hp_trace.proofs.columns.write_row.Goals as goal

pub returns : goal.returns
returns c =
    on_ok_weaker c.writeln.result
    (λ written. row_in c.args.row.now.asked c.args.row.now.answer (string_bytes c.in_ok-below.below)
    (string_bytes c.in_ok-beside.beside) c.args.memory.now (string_bytes c.args.out.now)
    (string_bytes c.writeln.new.self) c.asked-asked.result.now c.answer-answer.result.now
    c.asked-asked.ensures c.answer-answer.ensures written) c.writeln.ensures.bytes
