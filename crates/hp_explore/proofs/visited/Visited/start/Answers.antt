-- The numbers are those of the place where the scripts begin.
use Rattle.std.proofs.Common.{◌≡◌, [], Some, ap, length, slice_get, subst, sym, arith, ◌∙◌}
use Rattle.hp_schedules.specs.Alike.{is_closed}
use Rattle.hp_states.specs.Stops.{AreStopsAt, StopsValue}
use Rattle.hp_states.proofs.StopNumbers.{begun_at}
use Rattle.hp_explore.specs.LatestOps.{numbering}
use Rattle.hp_explore.specs.Paths.{PathValue}
use Rattle.hp_explore.specs.Settings.{setting}
use Rattle.hp_explore.proofs.LatestNumbers.{numbers_here}
use Rattle.hp_explore.proofs.visited.Visited.start.Goals as goal

pub start-requires : goal.start-requires
start-requires c =
    omega (
      arith,
      c.requires.processors,
      c.positions.ensures.many,
      ap (λ (p : PathValue). length p.setting.scripts) c.requires.begun,
    )

pub returns-clause-way : goal.returns-clause-way
returns-clause-way c =
    let g = setting c.args.machine.now c.args.scripts.now in
    let latest = c.in_ok-latest.ensures g (rw c.requires.begun at c.positions.ensures) in
    λ set. (
      c.in_ok-number_state.ensures.here (numbering g) g []
          (sym (numbers_here g [] c.greatest_named-fixed.result c.in_ok-latest.latest c.here.result.now
          c.greatest_named-fixed.ensures c.here.ensures latest))
          (rw c.requires.begun at c.memory.ensures)
          (subst (AreStopsAt (numbering g) g []) (sym c.start-stops.ensures)
          (begun_at (numbering g) g c.is_closed.result
          (c.is_closed.ensures ∙ ap is_closed c.history.ensures.records))),
      latest,
      c.greatest_named-fixed.ensures,
    )

pub returns-clause-base : goal.returns-clause-base
returns-clause-base c =
    λ n ns here. c.in_ok-number_state.ensures.kept.lists n ns
    (subst (λ (s : StopsValue). slice_get s.lists n ≡ Some ns) (sym c.start-stops.ensures) here)
