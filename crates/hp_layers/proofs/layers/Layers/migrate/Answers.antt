use Rattle.std.proofs.Common.{◌≡◌, ℕ, ◌+◌, ◌*◌, ◌≤◌, arith, true, Some, refl, sym, ◌∙◌}
use Rattle.std.specs.Prelude.{is_some}
use Rattle.hp_units.specs.Pages.{page_at}
use Rattle.hp_units.specs.Migrations.{migration_source}
use Rattle.hp_units.specs.Rows.{is_live}
use Rattle.hp_layers.specs.Layers.{state_of}
use Rattle.hp_units.specs.declared.events.Event.TheVariants.{Migrate}
use Rattle.hp_units.specs.declared.replies.Refusal.TheVariants.{NoFrame, NoOp, NothingToMove}
use Rattle.hp_layers.proofs.Answers.{refused, refused_none}
use Rattle.hp_layers.proofs.Migrated.{migrate-done, migrate-idle, migrate-over, migrate-refused, source-holds, source-inside, source-returns}
use Rattle.hp_layers.proofs.PageEvents.{settled, taken-free, taken-inside}
use Rattle.hp_layers.proofs.Placed.{tidy-placed}
use Rattle.hp_layers.proofs.Rooms.{room-free, room-less, room-pages}
use Rattle.hp_layers.proofs.Sources.{source-live}
use Rattle.hp_tape.specs.Bounds.{give_bound, steal_bound}
use Rattle.hp_tape.specs.Tapes.{HasRoom, TapeValue}
use Rattle.hp_layers.proofs.layers.Layers.migrate.Goals as goal
use Rattle.hp_layers.proofs.layers.Layers.migrate.Goals.{In-Some}

found : (c : In-Some)
    → migration_source c.args.self.now.layout (state_of c.args.self.now) c.args.op ≡ Some c.in-Some.from
found c = sym c.migration_source.ensures ∙ c.in-Some.is

holds : (c : In-Some) → is_some (page_at (state_of c.args.self.now).pages c.in-Some.from) ≡ true
holds c = source-holds c.args.self.now c.args.op c.in-Some.from (found c)

live : (c : In-Some) → is_live c.args.self.now.blocks.blocks c.args.op ≡ true
live c =
    source-live c.args.self.now.layout (state_of c.args.self.now) c.args.op c.in-Some.from
    c.requires.placed.placed.in_order.shape.rows (found c)

pub migration_target-requires-clause-tidy : goal.migration_target-requires-clause-tidy
migration_target-requires-clause-tidy c = tidy-placed c.args.self.now c.requires.placed

pub zone_of-zone-requires-clause-frame : goal.zone_of-zone-requires-clause-frame
zone_of-zone-requires-clause-frame c =
    source-inside c.args.self.now c.in-Some.from c.requires.placed
    (holds (goal.at.zone_of-zone-requires-clause-frame c).In-Some)

pub move_page-requires-clause-from : goal.move_page-requires-clause-from
move_page-requires-clause-from c =
    rw c.requires.placed.one.pages (source-inside c.args.self.now c.in-Some.from c.requires.placed
    (holds (goal.at.move_page-requires-clause-from c).In-Some))

pub move_page-requires-clause-mapped : goal.move_page-requires-clause-mapped
move_page-requires-clause-mapped c = holds (goal.at.move_page-requires-clause-mapped c).In-Some

pub move_page-requires-clause-settled : goal.move_page-requires-clause-settled
move_page-requires-clause-settled c = settled c.args.self.now c.requires.placed

pub give-requires-clause-block : goal.give-requires-clause-block
give-requires-clause-block c =
    source-returns c.args.self.now _ _ c.migration_target.new.self _ _ c.in-Some.from
    c.in-Some-migration_target.to c.requires.placed (holds (goal.at.give-requires-clause-block c).In-Some)
    c.in-Some-migration_target.ensures

pub returns-in-Some-migration_target-clause-ok : goal.returns-in-Some-migration_target-clause-ok
returns-in-Some-migration_target-clause-ok c =
    migrate-done c.args.self.now c.migration_target.new.self c.give.new.self c.move_page.new.self c.args.op
    c.in-Some.from c.in-Some-migration_target.to c.zone_of-zone.result c.reserve.new.self
    c.migration_target.new.tape c.move_page.new.tape c.give.new.tape c.requires.placed
    c.reserve.ensures.deltas (live (goal.at.returns-in-Some-migration_target-clause-ok c).In-Some)
    (found (goal.at.returns-in-Some-migration_target-clause-ok c).In-Some) c.in-Some-migration_target.ensures
    c.move_page.ensures.layout c.move_page.ensures.moved c.move_page.ensures.notes
    c.zone_of-zone.ensures c.give.ensures

pub returns-in-None-clause-ok : goal.returns-in-None-clause-ok
returns-in-None-clause-ok c =
    let here = (goal.at.returns-in-None-clause-ok c).In-Some in
    let m = c.args.self.now in
    refused_none m c.migration_target.new.self (Migrate c.args.op) _ c.args.tape.now.deltas
    c.reserve.new.self c.migration_target.new.tape NoFrame c.requires.placed (c.in-None.ensures.none refl)
    c.reserve.ensures.deltas
    (migrate-refused m c.migration_target.new.self c.args.op c.in-Some.from _ c.reserve.new.self
    c.migration_target.new.tape c.requires.placed (live here) (found here) c.in-None.ensures)

pub returns-then-is_live-clause-ok : goal.returns-then-is_live-clause-ok
returns-then-is_live-clause-ok c =
    let m = c.args.self.now in
    refused m (Migrate c.args.op) _ c.args.tape.now.deltas c.args.tape.now.deltas NothingToMove
    c.requires.placed
    (migrate-idle m.layout (state_of m) c.args.op (sym c.is_live.ensures ∙ c.if-is_live.true)
    (sym c.migration_source.ensures ∙ c.in_default.is)) refl

pub returns-in_default-clause-ok : goal.returns-in_default-clause-ok
returns-in_default-clause-ok c =
    let m = c.args.self.now in
    refused m (Migrate c.args.op) _ c.args.tape.now.deltas c.args.tape.now.deltas NoOp c.requires.placed
    (migrate-over m.layout (state_of m) c.args.op (sym c.is_live.ensures ∙ c.if-is_live.false)) refl

pub move_page-requires-clause-to : goal.move_page-requires-clause-to
move_page-requires-clause-to c =
    rw c.requires.placed.one.pages (taken-inside c.args.self.now _ _ _ _ _ c.in-Some-migration_target.to
    c.requires.placed c.in-Some-migration_target.ensures)

pub move_page-requires-clause-free : goal.move_page-requires-clause-free
move_page-requires-clause-free c =
    taken-free c.args.self.now _ _ _ _ _ c.in-Some-migration_target.to c.requires.placed
    c.in-Some-migration_target.ensures

-- what is left of the room that was reserved
enough : (c : In-Some) (t : TapeValue) (order more : ℕ) → HasRoom t (2 * order + 5)
    → order ≡ c.args.self.now.layout.order → more ≤ order + 3
    → HasRoom t (steal_bound c.args.self.now.frames.cpus.layout + more)
enough c t order more room is few = rw c.requires.placed.one.cpus (omega (arith, room, is, few))

pub migration_target-requires-clause-room : goal.migration_target-requires-clause-room
migration_target-requires-clause-room c =
    room-less c.reserve.new.self (steal_bound c.args.self.now.frames.cpus.layout) 0
    (enough (goal.at.migration_target-requires-clause-room c).In-Some c.reserve.new.self
    c.order-order.result 0 c.in_ok-reserve.ensures.room c.order-order.ensures.is (omega arith))

pub move_page-requires-clause-room : goal.move_page-requires-clause-room
move_page-requires-clause-room c =
    room-free _ (steal_bound c.args.self.now.frames.cpus.layout) 2 c.reserve.new.self
    c.migration_target.new.tape _ _ c.migration_target.ensures.notes
    (enough (goal.at.move_page-requires-clause-room c).In-Some c.reserve.new.self c.order-order.result 2
    c.in_ok-reserve.ensures.room c.order-order.ensures.is (omega arith))

pub give-requires-clause-room : goal.give-requires-clause-room
give-requires-clause-room c =
    let m = c.args.self.now in
    let left : ℕ = 2 + give_bound m.layout in
    rw (c.migration_target.ensures.layout, c.requires.placed.one.cpus)
    (room-pages _ 2 (give_bound m.layout) c.migration_target.new.tape c.move_page.new.tape _ _
    c.move_page.ensures.notes (room-free _ (steal_bound m.frames.cpus.layout) left c.reserve.new.self
    c.migration_target.new.tape _ _ c.migration_target.ensures.notes
    (enough (goal.at.give-requires-clause-room c).In-Some c.reserve.new.self c.order-order.result left
    c.in_ok-reserve.ensures.room c.order-order.ensures.is (omega (arith, c.order-order.ensures.is)))))
