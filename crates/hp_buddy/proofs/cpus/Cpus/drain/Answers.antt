-- The three lists, one after another.
use Rattle.std.proofs.Common.{◌≡◌, ◌+◌, ◌*◌, ℕ, length, ◌∙◌, arith}
use Rattle.hp_units.specs.declared.rows.Pool.TheVariants.{Nu, Nm, Mm}
use Rattle.hp_tape.specs.Tapes.{NotesFree}
use Rattle.hp_buddy.specs.Cpus.{frames_of, list_of}
use Rattle.hp_buddy.proofs.Besides.{notes-then, room_left}
use Rattle.hp_buddy.proofs.CpuCalls.{drained, other_list, three_lists}
use Rattle.hp_buddy.proofs.cpus.Cpus.drain.Goals as goal
use Rattle.hp_buddy.proofs.cpus.Cpus.drain.Goals.{After-drain_pool, After-drain_pool-2}

-- a list's deltas are as many after the lists before it as in the beginning
second : (c : After-drain_pool)
    → length (list_of c.drain_pool.new.self c.args.cpu Nm) * (c.drain_pool.new.self.layout.order + 2)
    ≡ length (list_of c.args.self.now c.args.cpu Nm) * (c.args.self.now.layout.order + 2)
second c =
    let l = c.args.self.now.layout in
    let d = c.drain_pool.new in
    rw c.drain_pool.ensures.layout (rw (other_list l (frames_of c.args.buddy.now.areas c.args.self.now)
    (frames_of d.buddy.areas d.self) c.args.cpu Nu Nm c.drain_pool.ensures.drained (λ same. omega arith)))

third : (c : After-drain_pool-2)
    → length (list_of c.drain_pool-2.new.self c.args.cpu Mm) * (c.drain_pool-2.new.self.layout.order + 2)
    ≡ length (list_of c.args.self.now c.args.cpu Mm) * (c.args.self.now.layout.order + 2)
third c =
    let l = c.args.self.now.layout in
    let d = c.drain_pool.new in
    let e = c.drain_pool-2.new in
    let one = frames_of d.buddy.areas d.self in
    rw (c.drain_pool-2.ensures.layout, c.drain_pool.ensures.layout)
    (rw (other_list d.self.layout one (frames_of e.buddy.areas e.self) c.args.cpu Nm Mm
    c.drain_pool-2.ensures.drained (λ same. omega arith)) (rw (other_list l (frames_of c.args.buddy.now.areas
    c.args.self.now) one c.args.cpu Nu Mm c.drain_pool.ensures.drained (λ same. omega arith))))

-- what the first two note
two_notes : (c : After-drain_pool-2)
    → length (list_of c.drain_pool.new.self c.args.cpu Nm) * (c.drain_pool.new.self.layout.order + 2)
    ≡ length (list_of c.args.self.now c.args.cpu Nm) * (c.args.self.now.layout.order + 2)
    → NotesFree c.args.self.now.layout
    (length (list_of c.args.self.now c.args.cpu Nu) * (c.args.self.now.layout.order + 2)
    + length (list_of c.args.self.now c.args.cpu Nm) * (c.args.self.now.layout.order + 2)) c.args.tape.now
    c.drain_pool-2.new.tape (frames_of c.drain_pool-2.new.buddy.areas c.drain_pool-2.new.self)
    (frames_of c.args.buddy.now.areas c.args.self.now)
two_notes c same =
    let v = c.args.self.now in
    let each : ℕ = v.layout.order + 2 in
    let d = c.drain_pool.new in
    let e = c.drain_pool-2.new in
    notes-then v.layout d.self.layout (length (list_of v c.args.cpu Nu) * each)
    (length (list_of d.self c.args.cpu Nm) * (d.self.layout.order + 2))
    (length (list_of v c.args.cpu Nu) * each + length (list_of v c.args.cpu Nm) * each)
    c.args.tape.now d.tape e.tape (frames_of c.args.buddy.now.areas v) (frames_of d.buddy.areas d.self)
    (frames_of e.buddy.areas e.self) c.drain_pool.ensures.layout (omega arith)
    c.drain_pool.ensures.notes c.drain_pool-2.ensures.notes

pub drain_pool-requires-clause-room : goal.drain_pool-requires-clause-room
drain_pool-requires-clause-room c =
    let v = c.args.self.now in
    omega (
      arith,
      c.requires.room,
      three_lists (length (list_of v c.args.cpu Nu)) (length (list_of v c.args.cpu Nm))
          (length (list_of v c.args.cpu Mm)) (v.layout.order + 2),
    )

pub drain_pool-requires-2-clause-cpu : goal.drain_pool-requires-2-clause-cpu
drain_pool-requires-2-clause-cpu c = rw c.drain_pool.ensures.layout c.requires.cpu

pub drain_pool-requires-2-clause-room : goal.drain_pool-requires-2-clause-room
drain_pool-requires-2-clause-room c =
    let v = c.args.self.now in
    let each : ℕ = v.layout.order + 2 in
    let nu : ℕ = length (list_of v c.args.cpu Nu) in
    let nm : ℕ = length (list_of v c.args.cpu Nm) in
    let d = c.drain_pool.new in
    rw (second (goal.at.drain_pool-requires-2-clause-room c).After-drain_pool)
    (room_left v.layout (nu * each) (nm * each) c.args.tape.now d.tape (frames_of c.args.buddy.now.areas v)
    (frames_of d.buddy.areas d.self) c.drain_pool.ensures.notes
    (omega (arith, c.requires.room, three_lists nu nm (length (list_of v c.args.cpu Mm)) each)))

pub drain_pool-requires-3-clause-cpu : goal.drain_pool-requires-3-clause-cpu
drain_pool-requires-3-clause-cpu c =
    rw (c.drain_pool-2.ensures.layout, c.drain_pool.ensures.layout) c.requires.cpu

pub drain_pool-requires-3-clause-room : goal.drain_pool-requires-3-clause-room
drain_pool-requires-3-clause-room c =
    let v = c.args.self.now in
    let each : ℕ = v.layout.order + 2 in
    let nu : ℕ = length (list_of v c.args.cpu Nu) in
    let nm : ℕ = length (list_of v c.args.cpu Nm) in
    let mm : ℕ = length (list_of v c.args.cpu Mm) in
    let e = c.drain_pool-2.new in
    rw (third (goal.at.drain_pool-requires-3-clause-room c).After-drain_pool-2) (room_left v.layout
    (nu * each + nm * each) (mm * each) c.args.tape.now e.tape (frames_of c.args.buddy.now.areas v)
    (frames_of e.buddy.areas e.self) (two_notes (goal.at.drain_pool-requires-3-clause-room
    c).After-drain_pool-2 (second (goal.at.drain_pool-requires-3-clause-room c).After-drain_pool))
    (omega (arith, c.requires.room, three_lists nu nm mm each)))

pub returns-clause-layout : goal.returns-clause-layout
returns-clause-layout c =
    c.drain_pool-3.ensures.layout ∙ c.drain_pool-2.ensures.layout ∙ c.drain_pool.ensures.layout

pub returns-clause-places : goal.returns-clause-places
returns-clause-places c =
    λ other. c.drain_pool-3.ensures.places other ∙ c.drain_pool-2.ensures.places other
    ∙ c.drain_pool.ensures.places other

pub returns-clause-drained : goal.returns-clause-drained
returns-clause-drained c =
    let d = c.drain_pool.new in
    let e = c.drain_pool-2.new in
    let f = c.drain_pool-3.new in
    drained c.args.self.now.layout d.self.layout e.self.layout
    (frames_of c.args.buddy.now.areas c.args.self.now) (frames_of d.buddy.areas d.self)
    (frames_of e.buddy.areas e.self) (frames_of f.buddy.areas f.self) c.args.cpu
    c.drain_pool.ensures.layout (c.drain_pool-2.ensures.layout ∙ c.drain_pool.ensures.layout)
    c.drain_pool.ensures.drained c.drain_pool-2.ensures.drained c.drain_pool-3.ensures.drained

pub returns-clause-notes : goal.returns-clause-notes
returns-clause-notes c =
    let v = c.args.self.now in
    let each : ℕ = v.layout.order + 2 in
    let nu : ℕ = length (list_of v c.args.cpu Nu) in
    let nm : ℕ = length (list_of v c.args.cpu Nm) in
    let mm : ℕ = length (list_of v c.args.cpu Mm) in
    let e = c.drain_pool-2.new in
    let f = c.drain_pool-3.new in
    let at = (goal.at.returns-clause-notes c).After-drain_pool-2 in
    notes-then v.layout e.self.layout (nu * each + nm * each)
    (length (list_of e.self c.args.cpu Mm) * (e.self.layout.order + 2)) ((nu + nm + mm) * each)
    c.args.tape.now e.tape f.tape (frames_of c.args.buddy.now.areas v) (frames_of e.buddy.areas e.self)
    (frames_of f.buddy.areas f.self) (c.drain_pool-2.ensures.layout ∙ c.drain_pool.ensures.layout)
    (omega (arith, third at, three_lists nu nm mm each))
    (two_notes at (second (goal.at.returns-clause-notes c).After-drain_pool)) c.drain_pool-3.ensures.notes
