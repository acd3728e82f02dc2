use Rattle.std.proofs.Common.{◌≡◌, arith, ◌∙◌, ◌∷◌, ◌++◌, [], List, ap, length}
use Rattle.std.proofs.lemmas.Result.{IfErr-weaker}
use Rattle.hp_scenario.specs.Names.{line_in}
use Rattle.hp_scenario.specs.declared.lines.Line.{Line}
use Rattle.hp_live.proofs.Told.{lost_line}
use Rattle.hp_live.proofs.session.Session.answer_plain.Goals as goal

pub returns-in-Ok-Some-clause-err : goal.returns-in-Ok-Some-clause-err
returns-in-Ok-Some-clause-err c =
    let lines = c.self.inside.lines.items in
    let number = c.run_and_keep-ran.result.number in
    let reserved = ap (λ (l : List Line). length l) c.in-Ok.ensures.items in
    let at_place : c.len-place.result ≡ length lines =
    omega (arith, c.len-place.ensures, c.reserve.new.self.ok.0, reserved) in
    IfErr-weaker c.or_lack.result _ _
    (λ given w. rw (← c.self.view_is) (lost_line given c.self.inside.names.keys c.read_line.new.names.keys
    lines c.run_and_keep-ran.new.lines.items c.self.inside.bound c.note-is_noted.new.bound
    c.self.inside.machine c.run_and_keep-ran.new.machine c.args.plain c.in-Ok-Some.field-0 c.in-Ok-Some.line
    c.run_and_keep-ran.new.out.did number w.0 c.run_and_keep-ran.ensures.done
    c.run_and_keep-ran.ensures.number c.in-Ok-Some.field-0-is
    (c.in-Ok-Some.ensures.is ∙ ap (line_in c.self.inside.names.keys) c.as_str.ensures)
    (c.run_and_keep-ran.ensures.kept
    ∙ ap (λ (l : List Line). l ++ c.in-Ok-Some.line ∷ []) c.in-Ok.ensures.items)
    (rw at_place at c.note-is_noted.ensures.known))) c.or_lack.ensures.err
