use Rattle.std.proofs.Common.{◌≡◌, drop}
use Rattle.serde_json.specs.View.{items_view}
use Rattle.hp_scenario.specs.Form.{each_in, boot_at}
use Rattle.hp_scenario.proofs.Each.{after_front}
use Rattle.hp_scenario.proofs.form.boots_from.Given as goal

abbrev pub invariant-loop-value : goal.invariant-loop-value
invariant-loop-value l =
    after_front l.boots.items (each_in boot_at (items_view (drop l.value-index l.values.items)))
    ≡ each_in boot_at (items_view l.values.items)
