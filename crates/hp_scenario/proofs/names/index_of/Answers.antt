use Rattle.std.proofs.Common.{◌∙◌, ap}
use Rattle.std.specs.Str.{bytes_eq}
use Rattle.indexmap.specs.IndexSet.{insert_key}
use Rattle.hp_scenario.specs.Names.{owner_of}
use Rattle.hp_scenario.proofs.names.index_of.Goals as goal

pub returns-clause-ok : goal.returns-clause-ok
returns-clause-ok c =
    let same = c.new-name.ensures ∙ c.in_ok-from_str.ensures.ok in (
      c.in_ok-index.ensures.keys ∙ ap (insert_key bytes_eq c.args.names.now.keys) same,
      c.in_ok-index.ensures.index ∙ ap (owner_of c.args.names.now.keys) same,
    )
