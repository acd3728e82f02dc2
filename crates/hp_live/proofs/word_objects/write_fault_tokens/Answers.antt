use Rattle.std.proofs.lemmas.Result.{on_ok_weaker}
use Rattle.hp_live.proofs.Tokens.{adds_more, wrote}
use Rattle.hp_live.proofs.word_objects.write_fault_tokens.Goals as goal

pub returns : goal.returns
returns c =
    on_ok_weaker c.end_object.result
    (λ last. adds_more c.args.writer.now c.begin.new.writer c.end_object.new.self _ _
    c.in_ok-begin.ensures (adds_more c.begin.new.writer c.write_fault_keys.new.writer
    c.end_object.new.self _ _ c.in_ok-write_fault_keys.ensures last))
    (wrote _ _ _ _ c.end_object.ensures)
