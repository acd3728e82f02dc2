-- One call more.
use Rattle.std.proofs.Common.{refl}
use Rattle.std.proofs.lemmas.Option.{slice_get_read}
use Rattle.hp_explain.proofs.Stood.{played_further}
use Rattle.hp_explain.proofs.standing.play_along.Goals as goal

pub loop-cpu-preserved : goal.loop-cpu-preserved
loop-cpu-preserved c =
    let forth = rw c.in-Ok-true.field-0-test at c.in-Ok-true.ensures.ok in record {
      setting = rw forth.3 c.loop-cpu.invariant.setting;
      front = played_further c.loop-cpu.path c.forward.new.self c.cpu.inside.0 _ _ forth
          (rw c.cpu.view_is (slice_get_read _ _ _ c.cpu-item.result refl c.loop-cpu-test.true c.cpu-item.is))
          c.loop-cpu.invariant.front;
    }
