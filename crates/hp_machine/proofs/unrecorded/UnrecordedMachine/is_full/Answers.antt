-- How many records there may be, and how many there are.
use Rattle.std.proofs.Common.{◌≡◌, length}
use Rattle.hp_machine.proofs.Full.{full_at_end, full_at_limit}
use Rattle.hp_machine.proofs.unrecorded.UnrecordedMachine.is_full.Goals as goal
use Rattle.hp_machine.proofs.unrecorded.UnrecordedMachine.is_full.Goals.{After-history}

limit : (c : After-history) → c.history.result ≡ c.args.self.now.layout.history
limit c = rw (c.history.ensures.is, c.layout.ensures, c.memory.ensures, c.self.view_is)

count : (c : After-history) → c.len.result ≡ length c.args.self.now.history
count c = rw c.self.view_is at c.len.ensures

pub returns-then-len-history : goal.returns-then-len-history
returns-then-len-history c =
    let here = (goal.at.returns-then-len-history c).After-history in
    full_at_limit c.args.self.now c.history.result c.len.result (limit here) (count here)
    c.if-len-history.true

pub returns-else-len-history : goal.returns-else-len-history
returns-else-len-history c =
    let here = (goal.at.returns-else-len-history c).After-history in
    full_at_end c.args.self.now c.history.result c.len.result (limit here) (count here) c.is_spent.result
    c.if-len-history.false (rw c.self.view_is at c.is_spent.ensures)
