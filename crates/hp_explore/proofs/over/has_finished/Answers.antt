-- Each line of the script has an answer, or a call is left.
use Rattle.std.proofs.Common.{◌≡◌, ap, length, sym}
use Rattle.std.proofs.lemmas.Option.{slice_get_read}
use Rattle.hp_explore.proofs.Answered.{finished_if}
use Rattle.hp_explore.proofs.over.has_finished.Goals as goal

pub returns : goal.returns
returns c =
    let p = c.args.path.now in
    let scripts = c.scripts-scripts.result.now in
    let same : scripts ≡ p.setting.scripts = c.scripts-scripts.ensures in
    finished_if p.setting c.args.cpu p.news _ c.finished.result c.line_count.result
    (rw same at (slice_get_read scripts _ c.args.cpu _ (ap length (sym same)) c.requires
    c.index-scripts-cpu.is))
    c.finished.ensures c.line_count.ensures
