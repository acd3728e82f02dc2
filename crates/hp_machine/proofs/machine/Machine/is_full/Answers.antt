-- How many records there may be, and how many there are.
use Rattle.std.proofs.Common.{◌≡◌, length}
use Rattle.hp_machine.proofs.Full.{full_at_end, full_at_limit}
use Rattle.hp_machine.proofs.machine.Machine.is_full.Goals as goal
use Rattle.hp_machine.proofs.machine.Machine.is_full.Goals.{After-history-2}

limit : (c : After-history-2) → c.history-2.result ≡ c.args.self.now.layout.history
limit c = rw (c.history-2.ensures.is, c.layout.ensures, c.memory.ensures, c.self.view_is)

count : (c : After-history-2) → length c.history.result.now ≡ length c.args.self.now.history
count c = rw (c.history.ensures.records, c.self.view_is)

pub returns-then-history : goal.returns-then-history
returns-then-history c =
    let here = (goal.at.returns-then-history c).After-history-2 in
    full_at_limit c.args.self.now c.history-2.result (length c.history.result.now) (limit here) (count here)
    c.if-history.true

pub returns-else-history : goal.returns-else-history
returns-else-history c =
    let here = (goal.at.returns-else-history c).After-history-2 in
    full_at_end c.args.self.now c.history-2.result (length c.history.result.now) (limit here) (count here)
    c.is_spent.result c.if-history.false (rw c.self.view_is at c.is_spent.ensures)
