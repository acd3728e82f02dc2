use Rattle.std.proofs.Common.{◌<◌, arith, ap, length, refl, slice_get, sym}
use Rattle.std.proofs.lemmas.Option.{slice_get_read}
use Rattle.hp_text.proofs.Texts.{texts_none, texts_more}
use Rattle.hp_commands.specs.Runs.{processor_text}
use Rattle.hp_commands.proofs.runs.write_processors.Goals as goal

pub loop-cpu-init : goal.loop-cpu-init
loop-cpu-init c = texts_none (λ cpu. processor_text cpu (slice_get c.args.lists.now.items cpu)) _

pub loop-cpu-preserved : goal.loop-cpu-preserved
loop-cpu-preserved c =
    let lists = c.args.lists.now.items in
    let inside : c.loop-cpu.cpu < length lists =
    omega (arith, c.loop-cpu-test.true, c.loop-cpu.auto, c.args.lists.now.ok.0) in
    let here =
    slice_get_read lists (length lists) c.loop-cpu.cpu c.index.result.now refl inside c.index.ensures in
    texts_more (λ cpu. processor_text cpu (slice_get lists cpu)) c.loop-cpu.cpu _ _ _ _ c.loop-cpu.invariant
    c.in_ok-write_processor.ensures (ap (processor_text c.loop-cpu.cpu) (sym here))
