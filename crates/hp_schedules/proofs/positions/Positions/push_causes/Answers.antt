-- The numbers of what the processor's line met.
use Rattle.std.proofs.Common.{refl}
use Rattle.std.proofs.lemmas.Option.{slice_get_read}
use Rattle.std.proofs.lemmas.Result.{on_ok_weaker}
use Rattle.hp_schedules.specs.Causes.{cause_numbers}
use Rattle.hp_schedules.proofs.CausesAt.{caused_at, extended, two_numbers}
use Rattle.hp_schedules.proofs.positions.Positions.push_causes.Goals as goal

pub returns : goal.returns
returns c =
    on_ok_weaker c.extend_from_slice.result
    (λ items. (
      cause_numbers c.cause-cause.result,
      items,
      two_numbers c.cause-cause.result,
      λ g news scripts all. caused_at g c.args.cpu news c.lines.result.now _ _ c.cause-cause.result
          (rw (scripts, c.lines.ensures)
          (slice_get_read _ _ _ _ refl c.requires.scripts c.index-scripts-place.is))
          (slice_get_read _ _ _ _ refl c.requires.cursors c.index.ensures) all c.cause-cause.ensures,
    ))
    (extended c.extend_from_slice.result c.args.numbers.now.items c.extend_from_slice.new.self.items
    c.cause_numbers.result (cause_numbers c.cause-cause.result) c.extend_from_slice.ensures.items
    c.cause_numbers.ensures)
