use Rattle.std.proofs.Common.{◌++◌, ℕ, List, ap, arith, length, ◌∙◌}
use Rattle.std.specs.List.{flat_map}
use Rattle.std.proofs.lemmas.List.{append_assoc}
use Rattle.hp_states.specs.Numbers.{number_code}
use Rattle.hp_states.proofs.Loops.{all_of}
use Rattle.hp_states.proofs.place_table.put_numbers.Goals as goal

pub returns : goal.returns
returns c =
    let numbers = c.args.numbers.now in
    all_of number_code c.number.new.self c.loop-number.code numbers c.loop-number.number-index
    (omega (arith, c.loop-number-test.false, c.loop-number.auto.number-index-end)) c.loop-number.invariant
    ∙ (ap (λ (code : List ℕ). code ++ flat_map number_code numbers) c.in_ok-number.ensures
    ∙ append_assoc c.args.code.now (number_code (length numbers)) (flat_map number_code numbers))
