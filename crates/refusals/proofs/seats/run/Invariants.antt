use Rattle.refusals.proofs.seats.run.Given as goal

-- the machine's own layout, and the ledgers that were just made
abbrev pub ghosts-share-L-Job : goal.ghosts-share-L-Job
ghosts-share-L-Job g a = record { layout = a.machine.layout; sealed = a.sealed.name; fulls = a.fulls.name }

abbrev pub ghosts-share-L-Ledger : goal.ghosts-share-L-Ledger
ghosts-share-L-Ledger g a = record { name = a.records.name; parts = a.records.parts }
