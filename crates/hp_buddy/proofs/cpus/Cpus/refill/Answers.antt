-- Each frame that was taken comes to the back of the list.
use Rattle.std.proofs.Common.{◌≡◌, ◌<◌, ◌+◌, ◌*◌, ◌-◌, None, sym, ◌∙◌, ap, subst, arith}
use Rattle.hp_units.specs.LayoutParts.{LayoutParts}
use Rattle.hp_units.specs.Memory.{class_of_pool}
use Rattle.hp_units.specs.FreeAreas.{take_block}
use Rattle.hp_tape.specs.Bounds.{take_bound}
use Rattle.hp_tape.specs.Tapes.{HasRoom, NotesFree}
use Rattle.hp_buddy.specs.Buddy.{BuddyValue}
use Rattle.hp_buddy.specs.Cpus.{CpusValue, frames_of}
use Rattle.hp_buddy.proofs.Besides.{notes-beside, room_left}
use Rattle.hp_buddy.proofs.Together.{IsOut, area-out, areas-apart, listed_once}
use Rattle.hp_buddy.proofs.Refills.{filled-zero, filled-none, filled-more, pushed-some}
use Rattle.hp_buddy.proofs.Loops.{IsTaken, IsTurn, taken_as, taken-turn, notes-turn, turn_room, few_turns}
use Rattle.hp_buddy.proofs.cpus.Cpus.refill.Goals as goal
use Rattle.hp_buddy.proofs.cpus.Cpus.refill.Goals.{In-Some, In-None, After-push_back}

pub take-requires-clause-apart : goal.take-requires-clause-apart
take-requires-clause-apart c =
    areas-apart c.loop-taken.self c.loop-taken.buddy c.loop-taken.invariant.together

pub take-requires-clause-room : goal.take-requires-clause-room
take-requires-clause-room c =
    let l = c.args.self.now.layout in
    let k = c.loop-taken in
    let same : c.self.inside.layout.batch ≡ l.batch = ap (λ (v : CpusValue). v.layout.batch) c.self.view_is in
    let room : HasRoom k.tape (l.order + 2) =
    turn_room l k._taken l.batch c.args.tape.now k.tape c.args.self.now k.self c.args.buddy.now.areas
    k.buddy.areas (omega (arith, c.batch-taken-end.ensures.is)) c.requires.room k.invariant.notes in
    rw (k.invariant.together.layout ∙ k.invariant.layout) (omega (arith, room))

taken : (c : In-Some)
    → IsTaken c.args.self.now.layout (class_of_pool c.args.pool) c.loop-taken.buddy c.take.new.self
    c.in-Some.frame c.loop-taken.tape c.take.new.tape
taken c =
    taken_as c.args.self.now.layout c.class.result (class_of_pool c.args.pool) c.loop-taken.buddy
    c.take.new.self c.in-Some.frame c.loop-taken.tape c.take.new.tape
    (c.loop-taken.invariant.together.layout ∙ c.loop-taken.invariant.layout) c.class.ensures
    c.in-Some.ensures.taken c.in-Some.ensures.layout c.in-Some.ensures.notes

out : (c : In-Some)
    → IsOut c.loop-taken.self c.loop-taken.self c.loop-taken.buddy c.take.new.self c.in-Some.frame
out c =
    area-out c.loop-taken.self c.loop-taken.buddy c.take.new.self c.in-Some.frame
    c.loop-taken.invariant.together c.in-Some.ensures.layout c.in-Some.ensures.apart c.in-Some.ensures.block
    c.in-Some.ensures.places

pub push_back-requires-clause-cpu : goal.push_back-requires-clause-cpu
push_back-requires-clause-cpu c = rw c.loop-taken.invariant.layout c.requires.cpu

pub push_back-requires-clause-frame : goal.push_back-requires-clause-frame
push_back-requires-clause-frame c = (out (goal.at.push_back-requires-clause-frame c).In-Some).frame.within

pub push_back-requires-clause-once : goal.push_back-requires-clause-once
push_back-requires-clause-once c =
    listed_once c.loop-taken.self c.take.new.self
    (out (goal.at.push_back-requires-clause-once c).In-Some).together

pub push_back-requires-clause-nowhere : goal.push_back-requires-clause-nowhere
push_back-requires-clause-nowhere c =
    omega (arith, (out (goal.at.push_back-requires-clause-nowhere c).In-Some).frame.nowhere)

pub push_back-requires-clause-room : goal.push_back-requires-clause-room
push_back-requires-clause-room c =
    let l = c.args.self.now.layout in
    let k = c.loop-taken in
    let same : c.self.inside.layout.batch ≡ l.batch = ap (λ (v : CpusValue). v.layout.batch) c.self.view_is in
    let room : HasRoom k.tape (l.order + 2) =
    turn_room l k._taken l.batch c.args.tape.now k.tape c.args.self.now k.self c.args.buddy.now.areas
    k.buddy.areas (omega (arith, c.batch-taken-end.ensures.is)) c.requires.room k.invariant.notes in
    room_left l (take_bound l) 1 k.tape c.take.new.tape (frames_of k.buddy.areas k.self)
    (frames_of c.take.new.self.areas k.self)
    (notes-beside l (take_bound l) k.tape c.take.new.tape k.self.cached c.take.new.self.areas k.buddy.areas
    (taken (goal.at.push_back-requires-clause-room c).In-Some).notes)
    (omega (arith, room))

turn : (c : After-push_back)
    → IsTaken c.args.self.now.layout (class_of_pool c.args.pool) c.loop-taken.buddy c.take.new.self
    c.in-Some.frame c.loop-taken.tape c.take.new.tape
    → IsOut c.loop-taken.self c.loop-taken.self c.loop-taken.buddy c.take.new.self c.in-Some.frame
    → IsTurn c.args.self.now.layout c.loop-taken.self c.push_back.new.self c.loop-taken.buddy c.take.new.self
    c.loop-taken.tape c.push_back.new.tape
turn c t o =
    let k = c.loop-taken in
    taken-turn c.args.self.now.layout k.self c.push_back.new.self k.buddy c.take.new.self c.args.cpu
    c.args.pool c.in-Some.frame k.tape c.take.new.tape c.push_back.new.tape k.invariant.layout
    c.requires.cpu t o
    c.push_back.ensures.cached (c.push_back.ensures.notes c.take.new.self.areas)

pub loop-taken-preserved : goal.loop-taken-preserved
loop-taken-preserved c =
    let l = c.args.self.now.layout in
    let k = c.loop-taken in
    let at = (goal.at.loop-taken-preserved c).In-Some in
    let same : c.self.inside.layout.batch ≡ l.batch = ap (λ (v : CpusValue). v.layout.batch) c.self.view_is in
    let below : k._taken < l.batch = omega (arith, c.batch-taken-end.ensures.is) in
    let t = turn (goal.at.loop-taken-preserved c).After-push_back (taken at) (out at) in
    let here = ap (λ (v : CpusValue). frames_of c.take.new.self.areas v) c.push_back.ensures.cached in
    record {
      filled =
          sym (filled-more l (frames_of k.buddy.areas k.self)
          (frames_of c.take.new.self.areas c.push_back.new.self) c.take.new.self.areas c.args.cpu
          c.args.pool c.in-Some.frame k._taken l.batch k.self.layout.cpus
          (subst (λ (m : LayoutParts). c.args.cpu < m.cpus) (sym k.invariant.layout) c.requires.cpu)
          k.invariant.together.lists below (taken at).taken here) ∙ k.invariant.filled;
      layout = t.layout;
      together = t.together;
      notes =
          notes-turn l k._taken c.args.tape.now k.tape c.push_back.new.tape c.args.self.now k.self
          c.push_back.new.self c.args.buddy.now.areas k.buddy.areas c.take.new.self.areas k.invariant.notes
          t.notes;
      places = λ o. omega (arith, t.places o, k.invariant.places o);
      none = λ empty.
          absurd (pushed-some k.self c.push_back.new.self c.args.cpu c.args.pool c.in-Some.frame
          k.invariant.together.lists
          (subst (λ (m : LayoutParts). c.args.cpu < m.cpus) (sym k.invariant.layout) c.requires.cpu)
          c.push_back.ensures.cached empty);
    }

-- nothing was taken
nothing : (c : In-None)
    → take_block c.args.self.now.layout c.loop-taken.buddy.areas (class_of_pool c.args.pool) 0 ≡ None
nothing c =
    rw (← c.class.ensures, ← c.loop-taken.invariant.layout, ← c.loop-taken.invariant.together.layout)
    c.in-None.ensures.taken

pub returns-in-None-clause-filled : goal.returns-in-None-clause-filled
returns-in-None-clause-filled c =
    let l = c.args.self.now.layout in
    let k = c.loop-taken in
    rw c.in-None.ensures.none.0 (rw (← filled-none l (frames_of k.buddy.areas k.self) c.args.cpu c.args.pool
    (l.batch - k._taken) (nothing (goal.at.returns-in-None-clause-filled c).In-None)) k.invariant.filled)

pub returns-in-None-clause-notes : goal.returns-in-None-clause-notes
returns-in-None-clause-notes c =
    let l = c.args.self.now.layout in
    let k = c.loop-taken in
    let same : c.self.inside.layout.batch ≡ l.batch = ap (λ (v : CpusValue). v.layout.batch) c.self.view_is in
    let before = frames_of c.args.buddy.now.areas c.args.self.now in
    let at =
    few_turns l k._taken l.batch c.args.tape.now k.tape (frames_of k.buddy.areas k.self) before
    (omega (arith, c.batch-taken-end.ensures.is)) k.invariant.notes in
    rw c.in-None.ensures.none.1 (subst (λ (b : BuddyValue). NotesFree l (l.batch * (l.order + 2))
    c.args.tape.now k.tape (frames_of b.areas k.self) before) (sym c.in-None.ensures.none.0) at)

pub returns-clause-filled : goal.returns-clause-filled
returns-clause-filled c =
    let l = c.args.self.now.layout in
    let k = c.loop-taken in
    let same : c.self.inside.layout.batch ≡ l.batch = ap (λ (v : CpusValue). v.layout.batch) c.self.view_is in
    let over : l.batch - k._taken ≡ 0 = omega (arith, c.batch-taken-end.ensures.is) in
    rw (← filled-zero l (frames_of k.buddy.areas k.self) c.args.cpu c.args.pool, ← over) k.invariant.filled
