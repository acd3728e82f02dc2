-- The law of the frames that are handed out, over the machine's own base and records.
use Rattle.std.proofs.Common.{List, ap, sym, subst, ◌∙◌}
use Rattle.hp_units.specs.Contents.{handed_frame}
use Rattle.hp_units.specs.History.{IsLegal, value_of}
use Rattle.hp_units.specs.Memory.{Memory}
use Rattle.hp_units.specs.declared.replies.Record.{Record}
use Rattle.history_tests.proofs.sealed.hands_out_plugged_frames.Goals as goal

pub returns : goal.returns
returns c h r frame is handed =
    let m = c.args.machine.now in
    let kept = c.history.ensures.kept in
    c.handed_frames_are_plugged.ensures.plugged m.layout m.base m.before h r frame
    c.stays_sound.ensures.limits
    c.stays_sound.ensures.base_placed (subst (λ (g : List Record). IsLegal m.layout m.base m.before g) is
    kept.legal)
    (ap (λ (s : Memory). handed_frame s r)
    (ap (value_of m.layout m.base) (sym is) ∙ sym kept.state) ∙ handed)
