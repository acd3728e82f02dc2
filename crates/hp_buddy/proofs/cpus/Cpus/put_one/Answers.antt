-- The pageblock's kind says where the frame goes.
use Rattle.std.proofs.Common.{◌≡◌, ◌+◌, ℕ, length, nat_le, true, false, cond, sym, ◌∙◌, ap}
use Rattle.std.proofs.lemmas.Bool.{cond-true, cond-false}
use Rattle.hp_units.specs.declared.rows.Kind.{Kind}
use Rattle.hp_units.specs.declared.rows.Pool.{Pool}
use Rattle.hp_units.specs.declared.rows.Zone.{Zone}
use Rattle.hp_units.specs.LayoutParts.{LayoutParts}
use Rattle.hp_units.specs.Arithmetic.{pageblock_of}
use Rattle.hp_units.specs.Memory.{FreeFrames, cached_list, kind_of, pool_of}
use Rattle.hp_tape.specs.Bounds.{batch_bound, give_bound, put_one_bound}
use Rattle.hp_units.proofs.Geometry.{pageblock_in}
use Rattle.hp_buddy.specs.Cpus.{CpusValue, frames_of, list_of}
use Rattle.hp_buddy.proofs.CpuCalls.{put_one-isolated, put_one-cached}
use Rattle.hp_buddy.proofs.cpus.Cpus.put_one.Goals as goal
use Rattle.hp_buddy.proofs.cpus.Cpus.put_one.Goals.{After-pageblock_of, Then-kind, After-of_mobility}

-- the bound where the frame goes to the areas, and where it goes to its list
bound-isolated : (l : LayoutParts) (fs : FreeFrames) (cpu : ℕ) (zone : Zone) (f at : ℕ) (kind : Kind)
    → at ≡ pageblock_of l f → kind ≡ kind_of fs.areas at → kind.isolated ≡ true
    → put_one_bound l fs cpu zone f ≡ give_bound l
bound-isolated l fs cpu zone f at kind at_is is isolated =
    cond-true (kind_of fs.areas (pageblock_of l f)).isolated _ _
    (sym (ap (λ (k : Kind). k.isolated) (is ∙ ap (λ (n : ℕ). kind_of fs.areas n) at_is)) ∙ isolated)

bound-cached : (l : LayoutParts) (fs : FreeFrames) (cpu : ℕ) (zone : Zone) (f at : ℕ) (kind : Kind)
    (pool : Pool)
    → at ≡ pageblock_of l f → kind ≡ kind_of fs.areas at → kind.isolated ≡ false
    → pool ≡ pool_of zone kind.mobility
    → put_one_bound l fs cpu zone f
    ≡ cond (nat_le (length (cached_list fs cpu pool) + 1) l.high) 1 (batch_bound l)
bound-cached l fs cpu zone f at kind pool at_is is cached pool_is =
    let known : kind ≡ kind_of fs.areas (pageblock_of l f) = is ∙ ap (λ (n : ℕ). kind_of fs.areas n) at_is in
    rw (cond-false (kind_of fs.areas (pageblock_of l f)).isolated _ _
    (sym (ap (λ (k : Kind). k.isolated) known) ∙ cached)) (rw (← known, ← pool_is))

place : (c : After-pageblock_of) → c.pageblock_of.result ≡ pageblock_of c.args.self.now.layout c.args.frame
place c = c.pageblock_of.ensures ∙ ap (λ (v : CpusValue). pageblock_of v.layout c.args.frame) c.self.view_is

pub kind-kind-requires : goal.kind-kind-requires
kind-kind-requires c =
    rw (c.requires.together.layout, place (goal.at.kind-kind-requires c).After-pageblock_of)
    (pageblock_in c.args.self.now.layout c.args.frame c.requires.frame.within)

pub returns-then-kind-clause-put : goal.returns-then-kind-clause-put
returns-then-kind-clause-put c =
    rw c.give.ensures.given (rw (← put_one-isolated c.args.self.now.layout (frames_of c.args.buddy.now.areas
    c.args.self.now) c.args.cpu c.args.zone c.args.frame c.pageblock_of.result c.kind-kind.result
    (place (goal.at.returns-then-kind-clause-put c).After-pageblock_of) c.kind-kind.ensures c.if-kind.true))

pub returns-else-kind-clause-put : goal.returns-else-kind-clause-put
returns-else-kind-clause-put c =
    c.put_cached.ensures.put
    ∙ sym (put_one-cached c.args.self.now.layout (frames_of c.args.buddy.now.areas c.args.self.now) c.args.cpu
    c.args.zone c.args.frame c.pageblock_of.result c.kind-kind.result c.of_mobility.result
    (place (goal.at.returns-else-kind-clause-put c).After-pageblock_of) c.kind-kind.ensures c.if-kind.false
    c.of_mobility.ensures)

isolated : (c : Then-kind) → c.pageblock_of.result ≡ pageblock_of c.args.self.now.layout c.args.frame
    → put_one_bound c.args.self.now.layout (frames_of c.args.buddy.now.areas c.args.self.now) c.args.cpu
    c.args.zone c.args.frame ≡ give_bound c.args.self.now.layout
isolated c here =
    bound-isolated c.args.self.now.layout (frames_of c.args.buddy.now.areas c.args.self.now) c.args.cpu
    c.args.zone c.args.frame c.pageblock_of.result c.kind-kind.result here c.kind-kind.ensures
    c.if-kind.true

pub give-requires-clause-room : goal.give-requires-clause-room
give-requires-clause-room c =
    rw (← isolated (goal.at.give-requires-clause-room c).Then-kind
    (place (goal.at.give-requires-clause-room c).After-pageblock_of)) c.requires.room

pub returns-then-kind-clause-notes : goal.returns-then-kind-clause-notes
returns-then-kind-clause-notes c =
    rw (isolated (goal.at.returns-then-kind-clause-notes c).Then-kind
    (place (goal.at.returns-then-kind-clause-notes c).After-pageblock_of)) c.give.ensures.notes

cached : (c : After-of_mobility)
    → c.pageblock_of.result ≡ pageblock_of c.args.self.now.layout c.args.frame
    → put_one_bound c.args.self.now.layout (frames_of c.args.buddy.now.areas c.args.self.now) c.args.cpu
    c.args.zone c.args.frame
    ≡ cond (nat_le (length (list_of c.args.self.now c.args.cpu c.of_mobility.result) + 1)
    c.args.self.now.layout.high) 1 (batch_bound c.args.self.now.layout)
cached c here =
    bound-cached c.args.self.now.layout (frames_of c.args.buddy.now.areas c.args.self.now) c.args.cpu
    c.args.zone c.args.frame c.pageblock_of.result c.kind-kind.result c.of_mobility.result
    here c.kind-kind.ensures c.if-kind.false c.of_mobility.ensures

pub put_cached-requires-clause-room : goal.put_cached-requires-clause-room
put_cached-requires-clause-room c =
    rw (← cached (goal.at.put_cached-requires-clause-room c).After-of_mobility
    (place (goal.at.put_cached-requires-clause-room c).After-pageblock_of)) c.requires.room

pub returns-else-kind-clause-notes : goal.returns-else-kind-clause-notes
returns-else-kind-clause-notes c =
    rw (cached (goal.at.returns-else-kind-clause-notes c).After-of_mobility
    (place (goal.at.returns-else-kind-clause-notes c).After-pageblock_of)) c.put_cached.ensures.notes
