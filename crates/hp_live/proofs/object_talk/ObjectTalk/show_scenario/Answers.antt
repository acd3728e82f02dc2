use Rattle.std.proofs.Common.{◌∙◌, ◌++◌, [], List, ℕ, ap}
use Rattle.std.specs.Prelude.{codes}
use Rattle.std.proofs.lemmas.Result.{on_ok_weaker}
use Rattle.hp_text.specs.Scenarios.{scenario_text}
use Rattle.hp_live.specs.Talks.{word_object}
use Rattle.hp_live.proofs.object_talk.ObjectTalk.show_scenario.Goals as goal

pub returns-clause-ok : goal.returns-clause-ok
returns-clause-ok c =
    let session = c.args.self.now.session in
    let shown = scenario_text session.machine.layout session.names session.lines [] in
    on_ok_weaker c.write_word.result
    (λ e. e ∙ ap (λ (t : List ℕ). c.args.out.now.items ++ word_object (codes "scenario") t)
    (c.as_str.ensures.value ∙ c.in_ok-write_scenario.ensures
    ∙ ap (λ (l : List ℕ). l ++ shown) c.new-text.ensures.bytes)) c.write_word.ensures.ok
