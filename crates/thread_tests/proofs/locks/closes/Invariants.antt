use Rattle.thread_tests.proofs.locks.closes.Given as goal

-- the machine's own layout, and the ledgers that were just made
abbrev pub ghosts-closes_on-L-Job : goal.ghosts-closes_on-L-Job
ghosts-closes_on-L-Job g a =
    record { layout = a.machine.layout; sealed = a.sealed.name; fulls = a.fulls.name }

abbrev pub ghosts-closes_on-L-Ledger : goal.ghosts-closes_on-L-Ledger
ghosts-closes_on-L-Ledger g a = record { name = a.records.name; parts = a.records.parts }
