-- One block further.
use Rattle.std.proofs.Common.{◌≡◌, ℕ, ◌*◌, List, length, get_or, take, sym, subst, arith}
use Rattle.std.specs.List.{fold}
use Rattle.std.proofs.Math.Seq.{take-length}
use Rattle.std.proofs.lemmas.List.{get_or_read}
use Rattle.hp_units.specs.Rows.{release_block}
use Rattle.hp_tape.specs.Bounds.{moved_block_bound}
use Rattle.hp_layers.specs.Layers.{state_of}
use Rattle.hp_layers.specs.Operations.{IsReworked}
use Rattle.hp_layers.proofs.Claims.{reworked-none}
use Rattle.hp_layers.proofs.Releases.{blocks-further}
use Rattle.hp_layers.proofs.Rooms.{room-each, room-view}
use Rattle.hp_layers.proofs.layers.Layers.release_blocks.Goals as goal

pub loop-block-preserved : goal.loop-block-preserved
loop-block-preserved c =
    record {
      done =
          blocks-further release_block moved_block_bound c.args.self.now c.loop-block.self
          c.release_block.new.self c.args.blocks.now c.loop-block.block-index c.block-item.result
          c.args.tape.now
          c.loop-block.tape c.release_block.new.tape c.loop-block-test.true
          (sym (get_or_read c.args.blocks.now c.loop-block.block-index c.block-item.result
          c.loop-block-test.true c.block-item.is 0)) c.loop-block.invariant.done c.release_block.ensures;
    }

pub loop-block-init : goal.loop-block-init
loop-block-init c =
    let m = c.args.self.now in
    record {
      done =
          reworked-none m (0 * moved_block_bound m.layout) c.args.tape.now c.requires.one c.requires.tidy;
    }

pub release_block-requires-clause-tidy : goal.release_block-requires-clause-tidy
release_block-requires-clause-tidy c = c.loop-block.invariant.done.tidy

pub release_block-requires-clause-block : goal.release_block-requires-clause-block
release_block-requires-clause-block c =
    let here : get_or c.args.blocks.now c.loop-block.block-index 0 ≡ c.block-item.result =
    sym (get_or_read c.args.blocks.now c.loop-block.block-index c.block-item.result
    c.loop-block-test.true c.block-item.is 0) in
    rw (c.loop-block.invariant.done.layout, ← here)
    (c.requires.within c.loop-block.block-index c.loop-block-test.true)

pub release_block-requires-clause-room : goal.release_block-requires-clause-room
release_block-requires-clause-room c =
    let m = c.args.self.now in
    let each : ℕ = moved_block_bound m.layout in
    rw c.loop-block.invariant.done.layout (room-view m.layout (c.loop-block.block-index * each) each
    c.args.tape.now c.loop-block.tape _ _ c.loop-block.invariant.done.notes (room-each c.args.tape.now
    c.loop-block.block-index (length c.args.blocks.now) each c.loop-block-test.true c.requires.room))

pub returns : goal.returns
returns c =
    let m = c.args.self.now in
    let blocks : List ℕ = c.args.blocks.now in
    let each : ℕ = moved_block_bound m.layout in
    let all : c.loop-block.block-index ≡ length blocks = omega arith in
    subst (λ (xs : List ℕ). IsReworked m (fold (release_block m.layout) (state_of m) xs)
    (length blocks * each) c.loop-block.self c.args.tape.now c.loop-block.tape) (take-length blocks)
    (subst (λ (n : ℕ). IsReworked m (fold (release_block m.layout) (state_of m) (take n blocks)) (n * each)
    c.loop-block.self c.args.tape.now c.loop-block.tape) all c.loop-block.invariant.done)
