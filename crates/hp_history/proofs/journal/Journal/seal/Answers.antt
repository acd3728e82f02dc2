-- The present state is the base of a journal without records.
use Rattle.std.proofs.Common.{◌+◌, ap, refl, ◌∙◌}
use Rattle.hp_history.specs.Seen.{seen}
use Rattle.hp_history.proofs.Courses.{sealed_course}
use Rattle.hp_history.proofs.journal.Journal.seal.Goals as goal

pub invariant_of-self : goal.invariant_of-self
invariant_of-self c =
    let m = seen c.self.inside in
    let es = c.shrink_to_fit.new.self.items in
    let ds = c.emptied.new.tape.deltas in
    rw c.start-past.ensures (
      sealed_course c.self.invariant.0 (ap (λ n. c.self.inside.before + n) c.self.invariant.1)
          (c.shrink_to_fit.ensures.items ∙ c.clear.ensures.items) c.emptied.ensures,
      refl,
    )
