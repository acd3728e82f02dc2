-- Each frame that left the front of the list is given.
use Rattle.std.proofs.Common.{◌≡◌, ◌<◌, ◌+◌, ℕ, ◌∷◌, length, sym, ◌∙◌, ap, subst, arith}
use Rattle.std.proofs.lemmas.List.{nil_from_length}
use Rattle.hp_units.specs.LayoutParts.{LayoutParts}
use Rattle.hp_tape.specs.Bounds.{give_bound}
use Rattle.hp_tape.specs.Tapes.{HasRoom}
use Rattle.hp_buddy.specs.Cpus.{CpusValue, frames_of, list_of}
use Rattle.hp_buddy.proofs.Besides.{room_left}
use Rattle.hp_buddy.proofs.Together.{IsOut, list-out, front-times, listed_once}
use Rattle.hp_buddy.proofs.Spills.{drain_pool-more, drain_pool-none}
use Rattle.hp_buddy.proofs.Loops.{IsTurn, given-turn, given_is, notes-turn, turn_room}
use Rattle.hp_buddy.proofs.cpus.Cpus.drain_pool.Goals as goal
use Rattle.hp_buddy.proofs.cpus.Cpus.drain_pool.Goals.{In-Some, In-None, After-give}

pub pop-requires-clause-cpu : goal.pop-requires-clause-cpu
pop-requires-clause-cpu c = rw c.loop-given.invariant.layout c.requires.cpu

pub pop-requires-clause-once : goal.pop-requires-clause-once
pop-requires-clause-once c = listed_once c.loop-given.self c.loop-given.buddy c.loop-given.invariant.together

pub pop-requires-clause-room : goal.pop-requires-clause-room
pop-requires-clause-room c =
    let l = c.args.self.now.layout in
    let k = c.loop-given in
    let all : ℕ = length (list_of c.args.self.now c.args.cpu c.args.pool) in
    let room : HasRoom k.tape (l.order + 2) =
    turn_room l k._given all c.args.tape.now k.tape c.args.self.now k.self c.args.buddy.now.areas
    k.buddy.areas (omega (arith, c.len-given-end.ensures)) c.requires.room k.invariant.notes in
    omega (arith, room)

out : (c : In-Some)
    → IsOut c.loop-given.self c.pop.new.self c.loop-given.buddy c.loop-given.buddy c.in-Some.frame
out c =
    let k = c.loop-given in
    list-out k.self c.pop.new.self k.buddy c.args.cpu c.args.pool c.in-Some.frame
    (list_of c.pop.new.self c.args.cpu c.args.pool) k.invariant.together
    (subst (λ (l : LayoutParts). c.args.cpu < l.cpus) (sym k.invariant.layout) c.requires.cpu)
    c.in-Some.ensures.cached
    (front-times (list_of k.self c.args.cpu c.args.pool) (list_of c.pop.new.self c.args.cpu c.args.pool)
    c.in-Some.frame c.in-Some.ensures.popped)

pub give-requires-clause-together : goal.give-requires-clause-together
give-requires-clause-together c = (out (goal.at.give-requires-clause-together c).In-Some).together

pub give-requires-clause-frame : goal.give-requires-clause-frame
give-requires-clause-frame c = (out (goal.at.give-requires-clause-frame c).In-Some).frame

pub give-requires-clause-room : goal.give-requires-clause-room
give-requires-clause-room c =
    let l = c.args.self.now.layout in
    let k = c.loop-given in
    let all : ℕ = length (list_of c.args.self.now c.args.cpu c.args.pool) in
    let kept : c.pop.new.self.layout ≡ k.self.layout = rw c.in-Some.ensures.cached in
    let room : HasRoom k.tape (l.order + 2) =
    turn_room l k._given all c.args.tape.now k.tape c.args.self.now k.self c.args.buddy.now.areas
    k.buddy.areas (omega (arith, c.len-given-end.ensures)) c.requires.room k.invariant.notes in
    subst (λ (m : LayoutParts). HasRoom c.pop.new.tape (give_bound m)) (sym (kept ∙ k.invariant.layout))
    (room_left k.self.layout 1 (give_bound l) k.tape c.pop.new.tape (frames_of k.buddy.areas k.self)
    (frames_of k.buddy.areas c.pop.new.self) (c.in-Some.ensures.notes k.buddy.areas) (omega (arith, room)))

turn : (c : After-give)
    → IsOut c.loop-given.self c.pop.new.self c.loop-given.buddy c.loop-given.buddy c.in-Some.frame
    → IsTurn c.args.self.now.layout c.loop-given.self c.pop.new.self c.loop-given.buddy c.give.new.buddy
    c.loop-given.tape c.give.new.tape
turn c o =
    let k = c.loop-given in
    given-turn c.args.self.now.layout k.self c.pop.new.self k.buddy c.give.new.buddy c.in-Some.frame k.tape
    c.pop.new.tape c.give.new.tape k.invariant.layout
    (ap (λ (v : CpusValue). v.layout) c.in-Some.ensures.cached) o c.give.ensures.together
    c.give.ensures.places (c.in-Some.ensures.notes k.buddy.areas) c.give.ensures.notes

pub loop-given-preserved : goal.loop-given-preserved
loop-given-preserved c =
    let l = c.args.self.now.layout in
    let k = c.loop-given in
    let d = c.pop.new.self in
    let t = turn (goal.at.loop-given-preserved c).After-give (out (goal.at.loop-given-preserved c).In-Some) in
    let size : length (list_of k.self c.args.cpu c.args.pool)
    ≡ length (c.in-Some.frame ∷ list_of d c.args.cpu c.args.pool) = rw c.in-Some.ensures.popped in
    record {
      drained =
          sym (drain_pool-more l (frames_of k.buddy.areas k.self) (frames_of c.give.new.buddy.areas d)
          c.args.cpu c.args.pool c.in-Some.frame k.self.layout.cpus (list_of d c.args.cpu c.args.pool)
          (subst (λ (m : LayoutParts). c.args.cpu < m.cpus) (sym k.invariant.layout) c.requires.cpu)
          k.invariant.together.lists c.in-Some.ensures.popped
          (given_is l k.self d k.buddy c.give.new.buddy c.args.cpu c.args.pool c.zone.result c.in-Some.frame
          t.layout c.zone.ensures c.in-Some.ensures.cached c.give.ensures.given)) ∙ k.invariant.drained;
      left = omega (arith, size, k.invariant.left);
      layout = t.layout;
      together = t.together;
      notes =
          notes-turn l k._given c.args.tape.now k.tape c.give.new.tape c.args.self.now k.self d
          c.args.buddy.now.areas k.buddy.areas c.give.new.buddy.areas k.invariant.notes t.notes;
      places = λ o. omega (arith, t.places o, k.invariant.places o);
    }

-- there are as many frames as turns
never : (c : In-None) → ⊥
never c =
    omega (arith, c.len-given-end.ensures, ap length c.in-None.ensures.popped, c.loop-given.invariant.left)

pub returns-in-None-clause-drained : goal.returns-in-None-clause-drained
returns-in-None-clause-drained c = absurd (never (goal.at.returns-in-None-clause-drained c).In-None)

pub returns-in-None-clause-notes : goal.returns-in-None-clause-notes
returns-in-None-clause-notes c = absurd (never (goal.at.returns-in-None-clause-notes c).In-None)

pub returns-in-None-clause-together : goal.returns-in-None-clause-together
returns-in-None-clause-together c = absurd (never (goal.at.returns-in-None-clause-together c).In-None)

pub returns-in-None-clause-places : goal.returns-in-None-clause-places
returns-in-None-clause-places c = absurd (never (goal.at.returns-in-None-clause-places c).In-None)

pub returns-clause-drained : goal.returns-clause-drained
returns-clause-drained c =
    let k = c.loop-given in
    let none : length (list_of k.self c.args.cpu c.args.pool) ≡ 0 =
    omega (arith, c.len-given-end.ensures, k.invariant.left) in
    sym (drain_pool-none c.args.self.now.layout (frames_of k.buddy.areas k.self) c.args.cpu c.args.pool
    (nil_from_length (list_of k.self c.args.cpu c.args.pool) none)) ∙ k.invariant.drained
