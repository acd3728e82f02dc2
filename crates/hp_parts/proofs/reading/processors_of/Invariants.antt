use Rattle.std.proofs.Common.{◌≡◌, drop}
use Rattle.serde_json.specs.View.{items_view}
use Rattle.hp_scenario.specs.Form.{each_in}
use Rattle.hp_parts.specs.Reading.{processor_of}
use Rattle.hp_scenario.proofs.Each.{after_front}
use Rattle.hp_parts.proofs.reading.processors_of.Given as goal

abbrev pub invariant-loop-value : goal.invariant-loop-value
invariant-loop-value l =
    after_front l.processors.items (each_in processor_of (items_view (drop l.value-index l.values.items)))
    ≡ each_in processor_of (items_view l.values.items)
