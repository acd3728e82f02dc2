-- A list that is past its mark spills.
use Rattle.std.proofs.Common.{◌≡◌, ◌<◌, ◌≤◌, ◌+◌, ◌*◌, ℕ, ◌∷◌, List, length, Bool, true, false, nat_le, cond, sym, ◌∙◌, ap, subst, arith}
use Rattle.std.proofs.lemmas.Bool.{cond-true, cond-false, lt-leb, le-leb}
use Rattle.hp_units.specs.declared.rows.Pool.{Pool}
use Rattle.hp_units.specs.LayoutParts.{LayoutParts}
use Rattle.hp_units.specs.Memory.{FreeFrames, cached_list}
use Rattle.hp_units.specs.ProcessorLists.{spilled}
use Rattle.hp_tape.specs.Bounds.{batch_bound}
use Rattle.hp_tape.specs.Tapes.{TapeValue, HasRoom}
use Rattle.hp_buddy.specs.Batches.{given_last}
use Rattle.hp_buddy.specs.Cpus.{CpusValue, frames_of, list_of}
use Rattle.hp_buddy.proofs.CpuCounts.{list_of-same, times-cons}
use Rattle.hp_buddy.proofs.Together.{IsIn, list-in}
use Rattle.hp_buddy.proofs.Besides.{notes-then, room_left}
use Rattle.hp_buddy.proofs.CpuCalls.{put_bound}
use Rattle.hp_buddy.proofs.cpus.Cpus.put_cached.Goals as goal
use Rattle.hp_buddy.proofs.cpus.Cpus.put_cached.Goals.{After-push_front, Then-len-high}

-- a list that is past its mark gives a batch back, another one stays
spilled-long : (l : LayoutParts) (fs : FreeFrames) (cpu : ℕ) (pool : Pool)
    → l.high < length (cached_list fs cpu pool) → spilled l fs cpu pool ≡ given_last l fs cpu pool l.batch
spilled-long l fs cpu pool past =
    let size = length (cached_list fs cpu pool) in
    cond-false (nat_le size l.high) fs (given_last l fs cpu pool l.batch) (lt-leb size l.high past)

spilled-short : (l : LayoutParts) (fs : FreeFrames) (cpu : ℕ) (pool : Pool)
    → length (cached_list fs cpu pool) ≤ l.high → spilled l fs cpu pool ≡ fs
spilled-short l fs cpu pool low =
    let size = length (cached_list fs cpu pool) in
    cond-true (nat_le size l.high) fs (given_last l fs cpu pool l.batch) (le-leb size l.high low)

-- there is room for one delta in either case
one_room : (l : LayoutParts) (tape : TapeValue) (short : Bool) → HasRoom tape (cond short 1 (batch_bound l))
    → HasRoom tape 1
one_room l tape true room = room
one_room l tape false room = omega (arith, room)

-- the frame is on its list
is_in : (c : After-push_front)
    → IsIn c.args.self.now c.push_front.new.self c.args.buddy.now c.args.buddy.now c.args.frame
is_in c =
    let v = c.args.self.now in
    let xs : List ℕ = list_of v c.args.cpu c.args.pool in
    list-in v c.push_front.new.self c.args.buddy.now c.args.cpu c.args.pool c.args.frame (c.args.frame ∷ xs)
    c.requires.together c.requires.frame c.requires.cpu c.push_front.ensures.cached
    (λ o. omega (arith, times-cons o c.args.frame xs))

-- the processor is one of the layout
low : (c : After-push_front) → c.args.cpu < c.push_front.new.self.layout.cpus
low c = rw c.push_front.ensures.cached c.requires.cpu

-- the list is past its mark with the frame
bound : (c : Then-len-high)
    → cond (nat_le (length (list_of c.args.self.now c.args.cpu c.args.pool) + 1) c.args.self.now.layout.high)
    1 (batch_bound c.args.self.now.layout) ≡ batch_bound c.args.self.now.layout
bound c =
    let v = c.args.self.now in
    let d = c.push_front.new.self in
    let xs : List ℕ = list_of v c.args.cpu c.args.pool in
    let same : c.self.inside.layout.high ≡ d.layout.high =
    ap (λ (w : CpusValue). w.layout.high) c.self.view_is in
    let kept : d.layout.high ≡ v.layout.high = rw c.push_front.ensures.cached in
    let size : length (list_of d c.args.cpu c.args.pool) ≡ length (c.args.frame ∷ xs) =
    ap length (ap (λ (w : CpusValue). list_of w c.args.cpu c.args.pool) c.push_front.ensures.cached
    ∙ list_of-same v c.args.cpu c.args.pool (c.args.frame ∷ xs) c.requires.cpu c.requires.together.lists) in
    put_bound v.layout (length xs)
    (omega (arith, c.if-len-high.true, c.high.ensures.is, c.len.ensures, size, same, kept))

pub spill-requires-clause-room : goal.spill-requires-clause-room
spill-requires-clause-room c =
    let v = c.args.self.now in
    let l = v.layout in
    let kept : c.push_front.new.self.layout ≡ l = rw c.push_front.ensures.cached in
    let room : HasRoom c.args.tape.now (batch_bound l) =
    rw (← bound (goal.at.spill-requires-clause-room c).Then-len-high) c.requires.room in
    rw kept (room_left l 1 (l.batch * (l.order + 2)) c.args.tape.now c.push_front.new.tape
    (frames_of c.args.buddy.now.areas v) (frames_of c.args.buddy.now.areas c.push_front.new.self)
    (c.push_front.ensures.notes c.args.buddy.now.areas) (omega (arith, room)))

pub returns-then-len-high-clause-notes : goal.returns-then-len-high-clause-notes
returns-then-len-high-clause-notes c =
    let v = c.args.self.now in
    let l = v.layout in
    let d = c.push_front.new.self in
    let kept : d.layout ≡ l = ap (λ (w : CpusValue). w.layout) c.push_front.ensures.cached in
    let before = frames_of c.args.buddy.now.areas v in
    let after = frames_of c.spill.new.buddy.areas c.spill.new.self in
    rw (bound (goal.at.returns-then-len-high-clause-notes c).Then-len-high)
    (notes-then l d.layout 1 (d.layout.batch * (d.layout.order + 2)) (batch_bound l) c.args.tape.now
    c.push_front.new.tape c.spill.new.tape before (frames_of c.args.buddy.now.areas d) after kept
    (subst (λ (m : LayoutParts). 1 + m.batch * (m.order + 2) ≤ batch_bound l) (sym kept) (omega arith))
    (c.push_front.ensures.notes c.args.buddy.now.areas) c.spill.ensures.notes)

pub push_front-requires-clause-room : goal.push_front-requires-clause-room
push_front-requires-clause-room c =
    let v = c.args.self.now in
    one_room v.layout c.args.tape.now
    (nat_le (length (list_of v c.args.cpu c.args.pool) + 1) v.layout.high) c.requires.room

pub len-requires : goal.len-requires
len-requires c = low (goal.at.len-requires c).After-push_front

pub spill-requires-clause-cpu : goal.spill-requires-clause-cpu
spill-requires-clause-cpu c = low (goal.at.spill-requires-clause-cpu c).After-push_front

pub spill-requires-clause-together : goal.spill-requires-clause-together
spill-requires-clause-together c =
    (is_in (goal.at.spill-requires-clause-together c).After-push_front).together

pub spill-requires-clause-long : goal.spill-requires-clause-long
spill-requires-clause-long c =
    let d = c.push_front.new.self in
    let high : c.self.inside.layout.high ≡ d.layout.high =
    ap (λ (w : CpusValue). w.layout.high) c.self.view_is in
    let batch : c.self.inside.layout.batch ≡ d.layout.batch =
    ap (λ (w : CpusValue). w.layout.batch) c.self.view_is in
    omega (arith, c.if-len-high.true, c.high.ensures.is, c.high.ensures.layout.batch, c.len.ensures)

pub returns-then-len-high-clause-put : goal.returns-then-len-high-clause-put
returns-then-len-high-clause-put c =
    let l = c.args.self.now.layout in
    let d = c.push_front.new.self in
    let pool = c.args.pool in
    let kept : d.layout ≡ l = ap (λ (w : CpusValue). w.layout) c.push_front.ensures.cached in
    let high : c.self.inside.layout.high ≡ l.high =
    ap (λ (w : CpusValue). w.layout.high) (c.self.view_is ∙ c.push_front.ensures.cached) in
    let fs = frames_of c.args.buddy.now.areas d in
    rw (c.spill.ensures.spilled, kept) (rw (← spilled-long l fs c.args.cpu pool
    (omega (arith, c.if-len-high.true, c.high.ensures.is, c.len.ensures))) (rw c.push_front.ensures.cached))

pub returns-then-len-high-clause-layout : goal.returns-then-len-high-clause-layout
returns-then-len-high-clause-layout c = rw (c.spill.ensures.layout, c.push_front.ensures.cached)

pub returns-then-len-high-clause-places : goal.returns-then-len-high-clause-places
returns-then-len-high-clause-places c =
    let here = is_in (goal.at.returns-then-len-high-clause-places c).After-push_front in
    λ other. c.spill.ensures.places other ∙ here.places other

pub returns-else-len-high-clause-put : goal.returns-else-len-high-clause-put
returns-else-len-high-clause-put c =
    let l = c.args.self.now.layout in
    let d = c.push_front.new.self in
    let high : c.self.inside.layout.high ≡ l.high =
    ap (λ (w : CpusValue). w.layout.high) (c.self.view_is ∙ c.push_front.ensures.cached) in
    rw (← spilled-short l (frames_of c.args.buddy.now.areas d) c.args.cpu c.args.pool
    (omega (arith, c.if-len-high.false, c.high.ensures.is, c.len.ensures))) (rw c.push_front.ensures.cached)

pub returns-else-len-high-clause-layout : goal.returns-else-len-high-clause-layout
returns-else-len-high-clause-layout c = ap (λ (w : CpusValue). w.layout) c.push_front.ensures.cached

pub returns-else-len-high-clause-notes : goal.returns-else-len-high-clause-notes
returns-else-len-high-clause-notes c =
    let v = c.args.self.now in
    let l = v.layout in
    let xs : List ℕ = list_of v c.args.cpu c.args.pool in
    let high : c.self.inside.layout.high ≡ l.high =
    ap (λ (w : CpusValue). w.layout.high) (c.self.view_is ∙ c.push_front.ensures.cached) in
    let size : length (list_of c.push_front.new.self c.args.cpu c.args.pool) ≡ length (c.args.frame ∷ xs) =
    ap length (ap (λ (w : CpusValue). list_of w c.args.cpu c.args.pool) c.push_front.ensures.cached
    ∙ list_of-same v c.args.cpu c.args.pool (c.args.frame ∷ xs) c.requires.cpu c.requires.together.lists) in
    rw (cond-true (nat_le (length xs + 1) l.high) 1 (batch_bound l) (le-leb (length xs + 1) l.high
    (omega (arith, c.if-len-high.false, c.high.ensures.is, c.len.ensures, size))))
    (c.push_front.ensures.notes c.args.buddy.now.areas)

pub returns-else-len-high-clause-together : goal.returns-else-len-high-clause-together
returns-else-len-high-clause-together c =
    (is_in (goal.at.returns-else-len-high-clause-together c).After-push_front).together

pub returns-else-len-high-clause-places : goal.returns-else-len-high-clause-places
returns-else-len-high-clause-places c =
    (is_in (goal.at.returns-else-len-high-clause-places c).After-push_front).places
