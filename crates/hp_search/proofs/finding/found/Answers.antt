-- What is told is what the search found.
use Rattle.std.proofs.Common.{string_bytes}
use Rattle.hp_explore.specs.Settings.{setting}
use Rattle.hp_search.specs.Prepared.{before_of, names_of}
use Rattle.hp_search.proofs.Findings.{found_on}
use Rattle.hp_search.proofs.finding.found.Goals as goal

pub returns-in_ok-finding-in-Ok-clause-ok : goal.returns-in_ok-finding-in-Ok-clause-ok
returns-in_ok-finding-in-Ok-clause-ok g c =
    let p = c.args.prepared.now in
    let f = c.in_ok-finding-in-Ok.finding in
    rw (← c.as_slice-scripts.ensures.value)
    (found_on c.args.form (names_of p) (before_of p) (setting p.start.machine c.as_slice-scripts.result.now)
    c.args.wanted.now c.in-Ok.found (string_bytes f.text) f.result c.requires.within c.in-Ok.ensures.ok
    c.in-Ok.ensures.room c.in-Ok.ensures.along
    (rw c.as_slice-scripts.ensures.value c.in_ok-finding-in-Ok.ensures))
