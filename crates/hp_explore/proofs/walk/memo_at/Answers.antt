-- The walk stands where the scripts begin.
use Rattle.std.proofs.Common.{ap, length, refl, sym, ◌∙◌}
use Rattle.hp_schedules.specs.Alike.{is_closed}
use Rattle.hp_explore.specs.Settings.{setting}
use Rattle.hp_states.proofs.Keeping.{memo_begun}
use Rattle.hp_states.proofs.Stood.{stood_begun}
use Rattle.hp_explore.proofs.walk.memo_at.Goals as goal

pub returns-clause-way : goal.returns-clause-way
returns-clause-way c =
    λ set. stood_begun (setting c.args.machine.now c.args.scripts.now) c.in_ok-memo.memo.standing
    (length c.args.scripts.now) c.is_closed.result refl
    (c.is_closed.ensures ∙ ap is_closed c.history.ensures.records) c.in_ok-memo.ensures.standing

pub returns-clause-memo : goal.returns-clause-memo
returns-clause-memo c =
    λ ends. memo_begun (setting c.args.machine.now c.args.scripts.now) ends c.in_ok-memo.memo
    c.in_ok-memo.ensures.rows.0 c.in_ok-memo.ensures.rows.1
    (λ set. c.keeps_places-is_on.ensures (sym c.in_ok-memo.ensures.on ∙ set))
