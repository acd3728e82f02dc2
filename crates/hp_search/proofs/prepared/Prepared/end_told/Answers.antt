use Rattle.std.proofs.lemmas.Result.{err_from_is_err_and}
use Rattle.hp_search.proofs.prepared.Prepared.end_told.Goals as goal

pub returns-in_ok-text-in-Some-clause-ok : goal.returns-in_ok-text-in-Some-clause-ok
returns-in_ok-text-in-Some-clause-ok c = (
  c.in-Some.end.now,
  c.in-Some.ensures.some,
  rw c.as_slice-schedule.ensures.value at c.in_ok-text-in-Some.ensures.ok,
)

pub returns-in_err-text-in-Some-clause-along : goal.returns-in_err-text-in-Some-clause-along
returns-in_err-text-in-Some-clause-along c =
    let p = err_from_is_err_and c.from_residual.result c.from_residual.ensures.1 in
    rw (p.1, p.2) (λ full. (
      c.in-Some.ensures.some.place,
      c.in-Some.end.now,
      c.in-Some.ensures.some.here,
      rw c.as_slice-schedule.ensures.value at (c.in_err-text-in-Some.ensures.along full),
    ))
