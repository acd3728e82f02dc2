-- The history has no room only for a call of the schedule that is played.
use Rattle.std.proofs.Common.{◌≡◌, ℕ, List, refl}
use Rattle.hp_schedules.specs.Schedules.{Setting}
use Rattle.hp_explore.specs.Faults.{FillsAlong}
use Rattle.hp_explore.specs.Settings.{setting}
use Rattle.hp_explore.specs.declared.exploring.ExploreFault.{ExploreFault}
use Rattle.hp_explore.specs.declared.exploring.ExploreFault.TheVariants as explore
use Rattle.hp_search.specs.Prepared.{setting_of}
use Rattle.hp_search.proofs.Known.{untold}
use Rattle.hp_parts.specs.Faults.{IsCauseAlong}
use Rattle.hp_parts.proofs.taking.outcome_of.Goals as goal

cause_along : (g : Setting) (schedule : List ℕ) (fault : ExploreFault)
    → (fault ≡ explore.HistoryFull → FillsAlong g schedule) → IsCauseAlong schedule g fault
cause_along g schedule explore.HistoryFull along = along refl
cause_along g schedule explore.OutOfMemory along = tt

pub returns-in-Ok-clause-ok : goal.returns-in-Ok-clause-ok
returns-in-Ok-clause-ok c =
    rw (← c.part-part.ensures, ← c.as_slice.ensures.value) c.in-Ok.ensures.ok

pub returns-in-Err-clause-err : goal.returns-in-Err-clause-err
returns-in-Err-clause-err c =
    let p = c.args.prepared.now in
    let schedule = c.args.schedule.now in
    let fault = c.in-Err.fault in (
      c.told_fault.result,
      refl,
      untold (IsCauseAlong schedule) (setting_of p) fault c.told_fault.result c.told_fault.ensures
          (rw (← c.as_slice.ensures.value)
          (cause_along (setting p.start.machine c.as_slice.result.now) schedule fault
          c.in-Err.ensures.along)),
    )
