use Rattle.std.proofs.Common.{arith, append-nil}
use Rattle.std.proofs.lemmas.List.{drop_all}
use Rattle.hp_search.specs.Prepared.{names_of, setting_of}
use Rattle.hp_parts.proofs.PartsWritten.{end_written}
use Rattle.hp_parts.proofs.writing.write_ends.Goals as goal

pub loop-index-preserved : goal.loop-index-preserved
loop-index-preserved c =
    end_written (names_of c.args.prepared.now) (setting_of c.args.prepared.now) _ _ _ _ _ _
    c.loop-index-test.true c.index-ends-index.is c.loop-index.invariant c.in_ok-write_end_line.ensures.ok

pub returns-clause-ok : goal.returns-clause-ok
returns-clause-ok c =
    let none = drop_all c.loop-index.index c.args.ends.now (omega (arith, c.loop-index-test.false)) in
    rw (none, append-nil) at c.loop-index.invariant
