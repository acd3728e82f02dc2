use Rattle.std.proofs.Common.{sym, ap, option_map, ◌∙◌}
use Rattle.hp_scenario.specs.Lines.{event}
use Rattle.hp_scenario.specs.Seen.{request_seen}
use Rattle.hp_scenario.proofs.EventWords.{of_one, of_two, of_three, of_four}
use Rattle.hp_scenario.proofs.verbs.event_from.Goals as goal

pub returns-in_err-event_of_number-in-len1 : goal.returns-in_err-event_of_number-in-len1
returns-in_err-event_of_number-in-len1 c =
    ap (option_map request_seen) c.from_residual.ensures
    ∙ (ap (option_map event) c.in_err-event_of_number-in-len1.ensures
    ∙ sym (of_one c.args.verb.now c.args.args.now _ c.in-len1.len_at_least c.in-len1.len_below))

pub returns-in_ok-event_of_number-in-len1 : goal.returns-in_ok-event_of_number-in-len1
returns-in_ok-event_of_number-in-len1 c =
    ap (option_map event) c.in_ok-event_of_number-in-len1.ensures
    ∙ sym (of_one c.args.verb.now c.args.args.now _ c.in-len1.len_at_least c.in-len1.len_below)

pub returns-in-len2 : goal.returns-in-len2
returns-in-len2 c =
    c.request_of_two.ensures
    ∙ sym (of_two c.args.verb.now c.args.args.now _ c.in-len2.len_at_least c.in-len2.len_below)

pub returns-in-len3 : goal.returns-in-len3
returns-in-len3 c =
    c.request_of_three.ensures
    ∙ sym (of_three c.args.verb.now c.args.args.now _ c.in-len3.len_at_least c.in-len3.len_below)

pub returns-in-len4 : goal.returns-in-len4
returns-in-len4 c =
    c.request_of_four.ensures
    ∙ sym (of_four c.args.verb.now c.args.args.now _ c.in-len4.len_at_least c.in-len4.len_below)
