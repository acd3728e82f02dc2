-- What holds of the text that was read holds of all that the reader had.
use Rattle.std.proofs.Common.{◌≡◌, List, ℕ, subst}
use Rattle.std.proofs.lemmas.Result.{IfErr-weaker, IfOk-weaker, err_from_is_err_and}
use Rattle.hp_scripts.specs.Named.{named_in}
use Rattle.hp_streams.proofs.Whole.{given}
use Rattle.hp_lab_shell.specs.Needs.{unbegun_of}
use Rattle.hotplug_lab.specs.Words.{ServesText}
use Rattle.hotplug_lab.proofs.Served.{read_fault, text_fault}
use Rattle.hotplug_lab.proofs.serving.serve_word.Goals as goal

pub returns-clause-ok : goal.returns-clause-ok
returns-clause-ok g c =
    IfOk-weaker c.serve_text.result _ _
    (λ served h. given (g.R.Source.remaining c.args.reader.now)
    (g.R.Source.remaining c.read_all.new.reader) c.in_ok-input.input.items c.in_ok-input.ensures.bytes
    c.in_ok-input.ensures.end (λ i. ServesText c.args.word i (g.W.Sink.contents c.args.writer.now)
    (g.W.Sink.contents c.serve_text.new.writer) served.status)
    (subst (λ (i : List ℕ). ServesText c.args.word i (g.W.Sink.contents c.args.writer.now)
    (g.W.Sink.contents c.serve_text.new.writer) served.status) c.deref.ensures.value h))
    c.serve_text.ensures.ok

pub returns-clause-told : goal.returns-clause-told
returns-clause-told g c =
    IfOk-weaker c.serve_text.result _ _
    (λ served h. given (g.R.Source.remaining c.args.reader.now)
    (g.R.Source.remaining c.read_all.new.reader) c.in_ok-input.input.items c.in_ok-input.ensures.bytes
    c.in_ok-input.ensures.end (λ i. served.unbegun.items ≡ unbegun_of c.args.word (named_in i))
    (subst (λ (i : List ℕ). served.unbegun.items ≡ unbegun_of c.args.word (named_in i))
    c.deref.ensures.value h))
    c.serve_text.ensures.told

pub returns-in_err-input-clause-err : goal.returns-in_err-input-clause-err
returns-in_err-input-clause-err g c =
    let p =
    err_from_is_err_and c.from_residual.result c.from_residual.ensures.1 in
    rw (p.1, p.2)
    (read_fault c.args.word (g.R.Source.remaining c.args.reader.now) _ _ c.in_err-input.field-0.0
    c.in_err-input.ensures.err)

pub returns-clause-err : goal.returns-clause-err
returns-clause-err g c =
    IfErr-weaker c.serve_text.result _ _
    (λ fault h. text_fault c.args.word (g.R.Source.remaining c.args.reader.now)
    (g.R.Source.remaining c.read_all.new.reader) c.in_ok-input.input.items c.deref.result.now _ _ fault
    c.deref.ensures.value c.in_ok-input.ensures.bytes c.in_ok-input.ensures.end h)
    c.serve_text.ensures.err
