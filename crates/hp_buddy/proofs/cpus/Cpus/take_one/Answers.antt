-- The front frame of a list that has one, or of one that was filled.
use Rattle.std.proofs.Common.{◌≡◌, ◌<◌, ◌+◌, ◌*◌, length, sym, ◌∙◌, ap, subst, arith}
use Rattle.std.proofs.lemmas.List.{nil_from_length}
use Rattle.hp_units.specs.LayoutParts.{LayoutParts}
use Rattle.hp_tape.specs.Bounds.{batch_bound}
use Rattle.hp_buddy.specs.Cpus.{CpusValue, frames_of, list_of, places_among}
use Rattle.hp_buddy.proofs.Besides.{notes-then}
use Rattle.hp_buddy.proofs.Refills.{refilled-empty, refilled-some}
use Rattle.hp_buddy.proofs.CpuCalls.{IsPopped, popped, taken_one, same_places, bound-some, bound-none}
use Rattle.hp_buddy.proofs.cpus.Cpus.take_one.Goals as goal
use Rattle.hp_buddy.proofs.cpus.Cpus.take_one.Goals.{Then-len-gt0, After-pop, After-refill, After-pop-2}

-- ---- the list has a frame

some : (c : Then-len-gt0) → 0 < length (list_of c.args.self.now c.args.cpu c.args.pool)
some c = omega (arith, c.len.ensures, c.if-len-gt0.true)

first : (c : After-pop) → IsPopped c.args.self.now c.pop.new.self c.args.buddy.now c.pop.result
first c =
    popped c.args.self.now c.pop.new.self c.args.buddy.now c.args.cpu c.args.pool c.pop.result (c.pop.new.tape
    ≡ c.args.tape.now) c.requires.together c.requires.cpu c.pop.ensures.popped c.pop.ensures.none
    c.pop.ensures.cached

pub returns-then-len-gt0-clause-taken : goal.returns-then-len-gt0-clause-taken
returns-then-len-gt0-clause-taken c =
    let v = c.args.self.now in
    let l = v.layout in
    let areas = c.args.buddy.now.areas in
    taken_one l (frames_of areas v) (frames_of areas v) (frames_of areas c.pop.new.self) c.args.cpu
    c.args.pool c.pop.result (list_of c.pop.new.self c.args.cpu c.args.pool)
    (refilled-some l (frames_of areas v) c.args.cpu c.args.pool
    (some (goal.at.returns-then-len-gt0-clause-taken c).Then-len-gt0)) c.pop.ensures.popped
    (ap (λ (w : CpusValue). frames_of areas w) c.pop.ensures.cached)

pub returns-then-len-gt0-clause-notes : goal.returns-then-len-gt0-clause-notes
returns-then-len-gt0-clause-notes c =
    let v = c.args.self.now in
    let areas = c.args.buddy.now.areas in
    rw (bound-some v.layout (list_of v c.args.cpu c.args.pool)
    (some (goal.at.returns-then-len-gt0-clause-notes c).Then-len-gt0)) (c.pop.ensures.notes areas)

pub returns-then-len-gt0-clause-together : goal.returns-then-len-gt0-clause-together
returns-then-len-gt0-clause-together c =
    (first (goal.at.returns-then-len-gt0-clause-together c).After-pop).together

pub returns-then-len-gt0-clause-frame : goal.returns-then-len-gt0-clause-frame
returns-then-len-gt0-clause-frame c = (first (goal.at.returns-then-len-gt0-clause-frame c).After-pop).frame

pub returns-then-len-gt0-clause-places : goal.returns-then-len-gt0-clause-places
returns-then-len-gt0-clause-places c = (first (goal.at.returns-then-len-gt0-clause-places c).After-pop).places

-- ---- the list is filled

none : (c : After-refill) → length (list_of c.args.self.now c.args.cpu c.args.pool) ≡ 0
none c = omega (arith, c.len.ensures, c.if-len-gt0.false)

second : (c : After-pop-2) → IsPopped c.refill.new.self c.pop-2.new.self c.refill.new.buddy c.pop-2.result
second c =
    popped c.refill.new.self c.pop-2.new.self c.refill.new.buddy c.args.cpu c.args.pool c.pop-2.result
    (c.pop-2.new.tape ≡ c.refill.new.tape) c.refill.ensures.together
    (subst (λ (m : LayoutParts). c.args.cpu < m.cpus) (sym c.refill.ensures.layout) c.requires.cpu)
    c.pop-2.ensures.popped c.pop-2.ensures.none c.pop-2.ensures.cached

pub returns-clause-taken : goal.returns-clause-taken
returns-clause-taken c =
    let v = c.args.self.now in
    let l = v.layout in
    let fs = frames_of c.args.buddy.now.areas v in
    let areas = c.refill.new.buddy.areas in
    let empty =
    nil_from_length (list_of v c.args.cpu c.args.pool)
    (none (goal.at.returns-clause-taken c).After-refill) in
    taken_one l fs (frames_of areas c.refill.new.self) (frames_of areas c.pop-2.new.self) c.args.cpu
    c.args.pool c.pop-2.result (list_of c.pop-2.new.self c.args.cpu c.args.pool)
    (c.refill.ensures.filled ∙ refilled-empty l fs c.args.cpu c.args.pool empty) c.pop-2.ensures.popped
    (ap (λ (w : CpusValue). frames_of areas w) c.pop-2.ensures.cached)

pub returns-clause-notes : goal.returns-clause-notes
returns-clause-notes c =
    let v = c.args.self.now in
    let l = v.layout in
    let areas = c.refill.new.buddy.areas in
    let before = frames_of c.args.buddy.now.areas v in
    let after = frames_of areas c.pop-2.new.self in
    rw (bound-none l (list_of v c.args.cpu c.args.pool) (none (goal.at.returns-clause-notes c).After-refill))
    (notes-then l c.refill.new.self.layout (l.batch * (l.order + 2)) 1 (batch_bound l) c.args.tape.now
    c.refill.new.tape c.pop-2.new.tape before (frames_of areas c.refill.new.self) after
    c.refill.ensures.layout (omega arith) c.refill.ensures.notes (c.pop-2.ensures.notes areas))

pub returns-clause-together : goal.returns-clause-together
returns-clause-together c = (second (goal.at.returns-clause-together c).After-pop-2).together

pub returns-clause-frame : goal.returns-clause-frame
returns-clause-frame c = (second (goal.at.returns-clause-frame c).After-pop-2).frame

pub returns-clause-places : goal.returns-clause-places
returns-clause-places c =
    same_places c.pop-2.result (places_among c.refill.new.buddy.areas c.refill.new.self) (places_among
    c.args.buddy.now.areas c.args.self.now) (places_among c.refill.new.buddy.areas c.pop-2.new.self)
    c.refill.ensures.places (second (goal.at.returns-clause-places c).After-pop-2).places
