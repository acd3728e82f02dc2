use Rattle.std.proofs.Common.{◌≡◌, ◌<◌, ◌++◌, ◌∷◌, [], length, get_or, ◌∙◌, arith}
use Rattle.std.proofs.lemmas.List.{get_or_default, length-set, nil_from_length}
use Rattle.std.proofs.lemmas.List.FromFn.{length-map-range_with_len}
use Rattle.hp_scenario.specs.Scripts.{script_of}
use Rattle.hp_scenario.proofs.ScriptLists.{none_dealt, one_dealt_at, all_dealt, all_reversed, all_but_last}
use Rattle.hp_scenario.proofs.scripts.dealt_singly.Goals as goal

pub loop-line-init : goal.loop-line-init
loop-line-init c = (
  none_dealt c.args.lines.items c.reverse.new.self.items c.args.scripts.items c.args.cpus
      c.reverse.ensures.items c.requires.bare,
  rw c.requires.bare (length-map-range_with_len (script_of []) 0 c.args.cpus),
  rw c.reverse.ensures.items (all_reversed c.args.cpus c.args.lines.items c.requires.fit),
)

pub index_mut-requires : goal.index_mut-requires
index_mut-requires c =
    let last =
    all_but_last c.args.cpus c.loop-line.left.items c.pop.new.self.items c.in-Some.line
    c.in-Some.ensures.items c.loop-line.invariant.2 in
    omega (arith, last.1, c.place.ensures, c.loop-line.invariant.1, c.loop-line.scripts.ok.0)

pub loop-line-preserved : goal.loop-line-preserved
loop-line-preserved c =
    let scripts = c.loop-line.scripts.items in
    let last =
    all_but_last c.args.cpus c.loop-line.left.items c.pop.new.self.items c.in-Some.line
    c.in-Some.ensures.items c.loop-line.invariant.2 in
    let inside : c.place.result < length scripts =
    omega (arith, last.1, c.place.ensures, c.loop-line.invariant.1) in
    let own : c.push.new.self.items ≡ get_or scripts c.place.result [] ++ c.in-Some.line ∷ [] =
    rw (c.in_ok-push.ensures.items, c.behind-scripts.view_is, c.index_mut.ensures.value)
    (rw (get_or_default scripts c.place.result c.index_mut.result.now [] inside)) in (
      one_dealt_at c.args.lines.items c.loop-line.left.items c.pop.new.self.items c.in-Some.line scripts
          c.push.new.self.items c.place.result c.place.ensures c.in-Some.ensures.items own inside
          c.loop-line.invariant.0,
      length-set scripts c.place.result c.push.new.self.items ∙ c.loop-line.invariant.1,
      last.0,
    )

pub returns : goal.returns
returns c =
    let none =
    nil_from_length c.loop-line.left.items
    (omega (arith, c.in_default.ensures.cases.0, c.loop-line.left.ok.0)) in
    all_dealt c.args.lines.items c.loop-line.left.items c.loop-line.scripts.items c.args.cpus none
    c.loop-line.invariant.1 c.loop-line.invariant.0
