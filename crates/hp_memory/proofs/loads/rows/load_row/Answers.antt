use Rattle.std.proofs.Common.{◌∙◌, ap, unwrap_or}
use Rattle.std.proofs.lemmas.Option.{unwrap_or-slice_get}
use Rattle.hp_units.specs.Memory.{offline_row}
use Rattle.hp_memory.proofs.loads.rows.load_row.Goals as goal

pub returns-clause-row : goal.returns-clause-row
returns-clause-row c =
    rw (
      c.back.ensures.back,
      c.new-change.ensures,
      c.unwrap_or-row.ensures ∙ (ap
          (λ o. unwrap_or o offline_row) c.row.ensures
          ∙ unwrap_or-slice_get c.args.image.now.memory.blocks.rows c.args.block offline_row),
    )
