-- What holds on the machine where the search begins holds in the scenario.
use Rattle.std.proofs.Common.{string_bytes}
use Rattle.std.proofs.lemmas.Result.{err_from_is_err_and}
use Rattle.hp_explore.specs.Faults.{IsCause}
use Rattle.hp_search.proofs.Known.{held_in, unprepared_known, untold, untold_in}
use Rattle.hp_parts.specs.Parts.{IsPartCause, IsPartOn}
use Rattle.hp_parts.proofs.Parted.{full_part, no_text, part_fault}
use Rattle.hp_parts.proofs.parts.part_text.Goals as goal

pub returns-in_default-clause-err : goal.returns-in_default-clause-err
returns-in_default-clause-err g c = no_text c.args.input.now c.args.setup c.in_default.ensures

pub returns-in_err-prepared-clause-err : goal.returns-in_err-prepared-clause-err
returns-in_err-prepared-clause-err g c =
    let p = err_from_is_err_and c.from_residual.result c.from_residual.ensures.1 in
    rw (p.1, p.2) (unprepared_known IsCause _ _ _ c.in_err-prepared.ensures.err)

pub returns-in_err-prepared-clause-full : goal.returns-in_err-prepared-clause-full
returns-in_err-prepared-clause-full g c =
    let p = err_from_is_err_and c.from_residual.result c.from_residual.ensures.1 in
    rw (p.1, p.2)
    (full_part _ _ _ _ _
    (unprepared_known (IsPartCause c.args.number c.args.limit) _ _ _ c.in_err-prepared.ensures.err))

pub returns-in-Ok-part_on-clause-ok : goal.returns-in-Ok-part_on-clause-ok
returns-in-Ok-part_on-clause-ok g c =
    let f = c.in-Ok-part_on.finding in
    held_in
    (λ names before s. IsPartOn c.args.number c.args.setup c.args.input.now c.args.limit
    (g.W.Watch.has_ended c.part_on.new.watch) (string_bytes f.text) f.is_found names s)
    _ _ _ c.in_ok-prepared.ensures.ok
    (rw (c.in-Ok.ensures.0, c.in_ok-prepared.ensures.ok.number) at c.in-Ok-part_on.ensures.ok)

pub returns-clause-err : goal.returns-clause-err
returns-clause-err g c =
    part_fault _ _ _ _ _
    (untold_in (IsPartCause c.args.number c.args.limit) _ _ _ _ c.in_ok-prepared.ensures.ok
    (untold (IsPartCause c.args.number c.args.limit) _ _ _ c.told_fault.ensures c.in-Err.ensures.err))

pub returns-clause-full : goal.returns-clause-full
returns-clause-full g c =
    full_part _ _ _ _ _
    (untold_in (IsPartCause c.args.number c.args.limit) _ _ _ _ c.in_ok-prepared.ensures.ok
    (untold (IsPartCause c.args.number c.args.limit) _ _ _ c.told_fault.ensures c.in-Err.ensures.err))
