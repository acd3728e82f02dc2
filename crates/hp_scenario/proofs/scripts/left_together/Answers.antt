use Rattle.std.proofs.Common.{◌∙◌, List, [], length, ap, arith}
use Rattle.std.proofs.lemmas.List.FromFn.{length-map-range_with_len}
use Rattle.hp_scenario.specs.Scripts.{script_of}
use Rattle.hp_scenario.specs.declared.lines.Line.{Line}
use Rattle.hp_scenario.proofs.ScriptLists.{all_together, one_within}
use Rattle.hp_scenario.proofs.scripts.left_together.Goals as goal

pub index_mut-requires : goal.index_mut-requires
index_mut-requires c =
    let count =
    ap (λ (scripts : List (List Line)). length scripts) c.requires.bare
    ∙ length-map-range_with_len (script_of []) 0 c.args.cpus in
    let within = one_within c.args.cpus c.args.place c.args.lines.items c.requires.together c.requires.fit in
    omega (arith, count, within, c.args.scripts.ok.0)

pub returns : goal.returns
returns c =
    let within = one_within c.args.cpus c.args.place c.args.lines.items c.requires.together c.requires.fit in
    rw c.new.ensures (all_together c.args.cpus c.args.place c.args.lines.items c.args.scripts.items
    c.requires.bare c.requires.together within)
