use Rattle.std.proofs.Common.{◌∙◌, sym, arith}
use Rattle.hp_shared.proofs.Turns.{begun}
use Rattle.hp_shared.proofs.locked.Locked.new.Goals as goal

pub invariant_of-result : goal.invariant_of-result
invariant_of-result g c = (
  begun g.L.Job.layout c.args.machine c.args.book.total c.requires.machine c.begins_at_boot.ensures
      c.history.ensures.kept c.requires.book.0,
  c.requires.one_each,
  c.requires.book.1 ∙ sym c.requires.machine.before,
  λ some. absurd (omega (arith, some, c.requires.book.2)),
)
