use Rattle.std.proofs.Common.{ap, sym, ◌∙◌}
use Rattle.std.specs.Option.{option_copied_mut}
use Rattle.hp_scripts.proofs.BoundNumbers.{more_numbered, none_numbered}
use Rattle.hp_scripts.proofs.bindings.Bindings.number.Goals.{in-Some, in_default}
use Rattle.hp_scripts.proofs.bindings.Bindings.number.Goals as goal

pub loop-index-preserved : goal.loop-index-preserved
loop-index-preserved c =
    let numbers = c.args.numbers.now in
    let now = c.loop-index.self-inside.results.entries in
    let next = c.match-get_index_mut.self-inside.results.entries in
    elim c.match-get_index_mut.branch [
      | in-Some w ↦ more_numbered numbers c.args.self.now now next c.loop-index.index w.in-Some.found.now
          w.numbered.result c.loop-index.invariant
          (sym c.get_index_mut.ensures.value ∙ ap option_copied_mut w.in-Some.is) w.numbered.ensures
          (ap (λ i. i.results.entries) w.self-inside-is)
      | in_default w ↦ none_numbered numbers c.args.self.now now next c.loop-index.index
          c.loop-index.invariant (sym c.get_index_mut.ensures.value ∙ ap option_copied_mut w.in_default.is)
          (ap (λ i. i.results.entries) w.self-inside-is)
    ]
