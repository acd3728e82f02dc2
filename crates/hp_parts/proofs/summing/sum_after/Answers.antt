use Rattle.std.proofs.Common.{inl, inr, string_bytes}
use Rattle.std.proofs.lemmas.Result.{IfErr-weaker, IfOk-weaker}
use Rattle.hp_search.proofs.Known.{held_in}
use Rattle.hp_parts.specs.Faults.{IsUntoldSum}
use Rattle.hp_parts.specs.Sums.{IsSumOn}
use Rattle.hp_parts.proofs.Read.{head_read}
use Rattle.hp_parts.proofs.summing.sum_after.Goals as goal

pub sum_on-requires-clause-read : goal.sum_on-requires-clause-read
sum_on-requires-clause-read c =
    head_read _ _ c.args.head.now _ _ c.requires.line c.requires.number c.requires.start

pub returns-in-Err-clause-err : goal.returns-in-Err-clause-err
returns-in-Err-clause-err c =
    rw (← c.head.view_is, ← c.search.view_is, ← c.as_bytes.ensures.value)
    (inl (c.in-Err.fault, c.fault_of_head.ensures, c.in-Err.ensures.err))

pub returns-clause-ok : goal.returns-clause-ok
returns-clause-ok c =
    let s = c.args.head.now.search in
    IfOk-weaker c.sum_on.result _ _
    (λ f h. held_in (IsSumOn c.args.form c.args.input.now s (string_bytes f.text) f.is_found) s.scenario
    s.setup c.in-Ok.prepared
    (rw (← c.head.view_is, ← c.search.view_is, ← c.as_bytes.ensures.value) c.in-Ok.ensures.ok) h)
    c.sum_on.ensures.ok

pub returns-clause-err : goal.returns-clause-err
returns-clause-err c =
    let s = c.args.head.now.search in
    IfErr-weaker c.sum_on.result _ _
    (λ fault h. inr (held_in (λ names before g. IsUntoldSum c.args.input.now names g s fault) s.scenario
    s.setup c.in-Ok.prepared
    (rw (← c.head.view_is, ← c.search.view_is, ← c.as_bytes.ensures.value) c.in-Ok.ensures.ok) h))
    c.sum_on.ensures.err
