use Rattle.std.proofs.Common.{◌∙◌, ap, unwrap_or}
use Rattle.std.proofs.lemmas.Option.{unwrap_or-slice_get}
use Rattle.hp_units.specs.declared.rows.Kind.{Kind}
use Rattle.hp_units.specs.Memory.{plain_kind}
use Rattle.hp_memory.proofs.loads.areas.load_kind.Goals as goal

pub returns-clause-kind : goal.returns-clause-kind
returns-clause-kind c =
    let kinds = c.args.image.now.memory.free.areas.kinds in
    rw (
      c.back.ensures.back,
      c.unwrap_or-was.ensures ∙ (ap (λ (k : Kind). unwrap_or c.kind.result k)
          c.plain.ensures ∙ (ap (λ o. unwrap_or o plain_kind) c.kind.ensures ∙ unwrap_or-slice_get kinds
          c.args.pageblock plain_kind)),
    )
