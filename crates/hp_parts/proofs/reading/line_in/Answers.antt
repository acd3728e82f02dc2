use Rattle.std.proofs.Common.{ap, option_map, sym, ◌∙◌}
use Rattle.std.proofs.lemmas.Result.{IfOk-weaker}
use Rattle.serde_json.specs.View.{view}
use Rattle.hp_parts.proofs.Values.{in_value}
use Rattle.hp_parts.proofs.reading.line_in.Goals as goal

pub returns-in-Some : goal.returns-in-Some
returns-in-Some c =
    IfOk-weaker c.line_of.result _ _
    (λ line h. in_value c.args.text.now (view c.in-Some.value) line
    (sym (ap (option_map view) c.in-Some.is) ∙ c.in_ok-value.ensures) h) c.line_of.ensures
