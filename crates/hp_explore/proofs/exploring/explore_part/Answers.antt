-- The walk begins where the machine stands with no ends, and ends with all, or with the first ones.
use Rattle.std.proofs.Common.{[], ◌≡◌, ◌⊎◌, ℕ, Bool, true, false, List, ap, ◌∙◌, arith, inl, inr, ◌≤◌}
use Rattle.std.specs.Prelude.{sum_by}
use Rattle.std.proofs.lemmas.Result.{err_from_is_err_and}
use Rattle.hp_schedules.specs.Ends.{AreInOrder}
use Rattle.hp_schedules.specs.Parts.{IsCompleteInPart}
use Rattle.hp_explore.specs.Faults.{IsCausePartWithin}
use Rattle.hp_explore.specs.Frames.{IsDone, IsEndedBy}
use Rattle.hp_explore.specs.Fronts.{AreFirstInPart, counted}
use Rattle.hp_explore.specs.Settings.{setting}
use Rattle.hp_states.specs.Walks.{IsPartWalkedThrough}
use Rattle.hp_schedules.specs.declared.tally.Ending.{Ending}
use Rattle.hp_explore.specs.declared.walk.Walk.{Walk}
use Rattle.hp_states.proofs.Walks.{walk_ends}
use Rattle.hp_explore.proofs.OfPart.{cause_part, none_fills}
use Rattle.hp_schedules.proofs.Uniqueness.{no_more}
use Rattle.hp_explore.proofs.Machines.{first_exceed}
use Rattle.hp_explore.proofs.exploring.explore_part.Given.{Over}
use Rattle.hp_explore.proofs.exploring.explore_part.Goals as goal
use Rattle.hp_explore.proofs.exploring.explore_part.Goals.{In_err-is_whole, In_ok-is_whole}

-- all is walked, from where the machine stands
whole : (o : Over) (c : In_ok-is_whole o) → c.in_ok-is_whole.is_whole ≡ true
    → IsPartWalkedThrough (setting c.args.machine.now c.args.scripts.now) c.args.part []
    c.run.new.self.tally.ends
whole o c all =
    let same = c.in_ok-is_whole.ensures.same in
    rw (same.0, c.in_ok-walk.ensures.setting, same.2, c.in_ok-walk.ensures.part) at
    (rw all at c.in_ok-is_whole.ensures.done)

-- or the first ones are counted
first : (o : Over) (c : In_ok-is_whole o) → c.in_ok-is_whole.is_whole ≡ false
    → AreFirstInPart (setting c.args.machine.now c.args.scripts.now) c.args.part
    (counted c.run.new.self.tally.ends) c.run.new.self.tally.ends
first o c some =
    let same = c.in_ok-is_whole.ensures.same in
    let halted = rw some at c.in_ok-is_whole.ensures.done in
    rw (same.0, c.in_ok-walk.ensures.setting, same.2, c.in_ok-walk.ensures.part) at halted.first

-- which are as many as the limit, or the watch ended the walk
stopped : (w : Walk) (limit : ℕ) (ended : Type 0) (is_whole : Bool) → w.tally.limit ≡ limit
    → IsEndedBy ended w → IsDone w is_whole → is_whole ≡ false → (counted w.tally.ends ≡ limit) ⊎ ended
stopped w limit ended true most by done some = absurd cc
stopped w limit ended false most by done some =
    elim done.cause [
      | inl full ↦ inl (full ∙ most)
      | inr stop ↦ inr (by stop)
    ]

ordered : (w : Walk) (is_whole : Bool) → IsDone w is_whole → AreInOrder w.tally.ends
ordered w true done = done.ordered
ordered w false done = done.first.walked.ordered

pub returns-clause-ok : goal.returns-clause-ok
returns-clause-ok o c =
    let here = (goal.at.returns-clause-ok o c).In_ok-is_whole in
    λ all. rw c.into_ends.ensures.is (walk_ends _ _ _ (whole o here all).counted)

pub returns-clause-few : goal.returns-clause-few
returns-clause-few o c =
    let g = setting c.args.machine.now c.args.scripts.now in
    let here = (goal.at.returns-clause-few o c).In_ok-is_whole in
    let few : sum_by (λ (e : Ending). e.count) c.run.new.self.tally.ends ≤ c.args.limit =
    omega (arith, c.into_ends.ensures.within, c.in_ok-is_whole.ensures.same.1, c.in_ok-walk.ensures.limit) in
    λ all. no_more (IsCompleteInPart g c.args.part) _ _ few (walk_ends _ _ _ (whole o here all).counted).total

pub returns-clause-room : goal.returns-clause-room
returns-clause-room o c =
    let here = (goal.at.returns-clause-room o c).In_ok-is_whole in
    λ all. none_fills _ _ _ (whole o here all)

pub returns-clause-first : goal.returns-clause-first
returns-clause-first o c =
    let here = (goal.at.returns-clause-first o c).In_ok-is_whole in
    λ some. rw c.into_ends.ensures.is (first o here some)

pub returns-clause-many : goal.returns-clause-many
returns-clause-many o c =
    let here = (goal.at.returns-clause-many o c).In_ok-is_whole in
    λ some. rw c.into_ends.ensures.is (first_exceed _ _ _ _ (first o here some))

pub returns-clause-stopped : goal.returns-clause-stopped
returns-clause-stopped o c =
    let done = c.in_ok-is_whole.ensures in
    λ some. rw c.into_ends.ensures.is (stopped c.run.new.self c.args.limit (o.W.Watch.has_ended
    c.run.new.watch) c.in_ok-is_whole.is_whole (done.same.1 ∙ c.in_ok-walk.ensures.limit) done.ended done.done
    some)

pub returns-clause-within : goal.returns-clause-within
returns-clause-within o c =
    omega (
      arith,
      c.into_ends.ensures.within,
      c.in_ok-is_whole.ensures.same.1,
      c.in_ok-walk.ensures.limit,
      ap (λ (ends : List Ending). sum_by (λ (e : Ending). e.count) ends) c.into_ends.ensures.is,
    )

pub returns-clause-ordered : goal.returns-clause-ordered
returns-clause-ordered o c =
    rw c.into_ends.ensures.is (ordered c.run.new.self c.in_ok-is_whole.is_whole c.in_ok-is_whole.ensures.done)

-- the walk began with the machine, the scripts, the part and the limit
cause : (o : Over) (c : In_err-is_whole o)
    → IsCausePartWithin (setting c.args.machine.now c.args.scripts.now) c.args.part c.args.limit
    c.in_err-is_whole.field-0.0
cause o c =
    let walk = c.in_ok-walk.ensures in
    rw (walk.setting, walk.part, walk.limit) at c.in_err-is_whole.ensures.err

pub returns-in_err-is_whole-clause-err : goal.returns-in_err-is_whole-clause-err
returns-in_err-is_whole-clause-err o c =
    let p =
    err_from_is_err_and c.from_residual-in_err-is_whole.result c.from_residual-in_err-is_whole.ensures.1 in
    rw (p.1, p.2) (cause_part _ _ c.args.limit _
    (cause o (goal.at.returns-in_err-is_whole-clause-err o c).In_err-is_whole))

pub returns-in_err-is_whole-clause-full : goal.returns-in_err-is_whole-clause-full
returns-in_err-is_whole-clause-full o c =
    let p =
    err_from_is_err_and c.from_residual-in_err-is_whole.result c.from_residual-in_err-is_whole.ensures.1 in
    rw (p.1, p.2) (cause o (goal.at.returns-in_err-is_whole-clause-full o c).In_err-is_whole)
