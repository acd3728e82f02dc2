use Rattle.std.proofs.lemmas.Result.{err_from_is_err_and}
use Rattle.hp_search.proofs.prepared.Prepared.write_numbered.Goals as goal

pub returns-clause-ok : goal.returns-clause-ok
returns-clause-ok c =
    let calls = rw (c.in_ok-played.ensures.calls, c.as_slice.ensures.value) at c.calls_of-calls.ensures in
    rw (c.layout-layout.ensures, calls) at c.in_ok-write_end.ensures

pub returns-in_err-played-clause-along : goal.returns-in_err-played-clause-along
returns-in_err-played-clause-along c =
    let p = err_from_is_err_and c.from_residual.result c.from_residual.ensures.1 in
    rw (p.1, p.2)
    (λ full. rw c.as_slice.ensures.value at (c.in_err-played.ensures.along full))
