use Rattle.std.proofs.Common.{arith, ◌∙◌, ◌∷◌, ◌++◌, [], List, ℕ, ap, length, string_bytes, subst}
use Rattle.hp_scenario.specs.Names.{line_in}
use Rattle.hp_scenario.specs.declared.lines.Line.{Line}
use Rattle.hp_live.specs.Results.{IsKnown, typed_by}
use Rattle.hp_live.specs.RowTalks.{IsLostTyped, RowsSession}
use Rattle.hp_live.proofs.Rowed.{kept_lost}
use Rattle.hp_live.proofs.Told.{on_err}
use Rattle.hp_live.proofs.row_talk.RowTalk.write_to_plain.Goals as goal

pub returns-in-Some-clause-err : goal.returns-in-Some-clause-err
returns-in-Some-clause-err c =
    let lines = c.self.inside.lines.items in
    on_err _ (subst (λ (s : RowsSession). IsLostTyped s (typed_by s.names c.args.plain) (record {
      names = c.read_line.new.names.keys;
      lines = c.run_and_keep-ran.new.lines.items;
      bound = c.note-is_noted.new.bound;
      trace = c.run_and_keep-ran.new.trace;
      text = string_bytes c.write_rows.new.out;
    })) c.self.view_is (kept_lost c.self.inside.names.keys c.read_line.new.names.keys lines
    c.run_and_keep-ran.new.lines.items c.self.inside.bound c.note-is_noted.new.bound c.self.inside.trace
    c.run_and_keep-ran.new.trace (string_bytes c.self.inside.text) (string_bytes c.write_rows.new.out)
    c.args.plain c.in_ok-line.field-0 c.in-Some.line c.run_and_keep-ran.result.number c.in-Some.is
    (c.in_ok-line.ensures.is ∙ ap (line_in c.self.inside.names.keys) c.as_str.ensures)
    (c.run_and_keep-ran.ensures.kept
    ∙ ap (λ (l : List Line). l ++ c.in-Some.line ∷ []) c.in_ok-reserve.ensures.items)
    c.run_and_keep-ran.ensures.number
    (subst (λ (n : ℕ). IsKnown c.self.inside.bound c.args.plain.naming n c.run_and_keep-ran.result.number
    c.note-is_noted.new.bound) (omega (
      arith,
      c.len-place.ensures,
      c.reserve.new.self.ok.0,
      ap (λ (l : List Line). length l) c.in_ok-reserve.ensures.items,
    ))
    c.note-is_noted.ensures.known)))
