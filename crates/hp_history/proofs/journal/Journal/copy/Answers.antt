-- The memory, the records of the proofs, and the count of what was sealed are the same.
use Rattle.std.proofs.Common.{◌≡◌, ◌∙◌, ap, length, sym}
use Rattle.hp_history.specs.Seen.{seen}
use Rattle.hp_history.specs.declared.remembered.Remembered.{Remembered}
use Rattle.hp_history.proofs.Courses.{value_with}
use Rattle.hp_history.proofs.journal.Journal.copy.Goals as goal
use Rattle.hp_history.proofs.journal.Journal.copy.Goals.{After-again}

-- the value is that of the journal
same : (c : After-again)
    → value_with c.self.inside.before c.again.result.base c.again.result.history c.in_ok-memory.memory
    ≡ seen c.self.inside
same c = rw (c.in_ok-memory.ensures, c.again.ensures)

pub invariant_of-result : goal.invariant_of-result
invariant_of-result c =
    let here = (goal.at.invariant_of-result c).After-again in
    let ds = c.in_ok-deltas.deltas.deltas in (
      rw (same here, c.in_ok-entries.ensures.items, c.as_slice.ensures.value)
          (rw c.in_ok-deltas.ensures.deltas c.self.invariant.0),
      c.self.invariant.1 ∙ sym (ap (λ (p : Remembered). length p.history) c.again.ensures),
    )

pub returns : goal.returns
returns c = same (goal.at.returns c).After-again ∙ c.self.view_is
