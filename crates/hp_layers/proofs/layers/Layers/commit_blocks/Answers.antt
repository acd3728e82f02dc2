-- One block further.
use Rattle.std.proofs.Common.{◌*◌, ℕ, sym, subst}
use Rattle.std.proofs.lemmas.List.{get_or_read}
use Rattle.hp_units.specs.Rows.{commit_block}
use Rattle.hp_tape.specs.Bounds.{committed_block_bound}
use Rattle.hp_laws.specs.Commits.{IsGrantable}
use Rattle.hp_layers.specs.Layers.{state_of}
use Rattle.hp_layers.proofs.Claims.{reworked-none}
use Rattle.hp_layers.proofs.Committed.{committing-next, committing-none, middle-placed, middle-ready}
use Rattle.hp_layers.proofs.Placed.{tidy-placed}
use Rattle.hp_layers.proofs.Releases.{blocks-further}
use Rattle.hp_layers.proofs.layers.Layers.commit_blocks.Goals as goal

pub loop-block-init : goal.loop-block-init
loop-block-init c = record {
  done =
      reworked-none c.args.self.now (0 * committed_block_bound c.args.self.now.layout) c.args.tape.now
      c.requires.placed.one (tidy-placed c.args.self.now c.requires.placed);
  middle = committing-none c.args.self.now c.args.blocks.now c.requires.placed;
}

pub commit_block-requires-clause-placed : goal.commit_block-requires-clause-placed
commit_block-requires-clause-placed c =
    middle-placed c.args.self.now c.loop-block.self _ c.args.blocks.now c.loop-block.block-index _
    c.args.tape.now c.loop-block.tape c.requires.placed c.loop-block.invariant.done
    c.loop-block.invariant.middle

pub commit_block-requires-clause-block : goal.commit_block-requires-clause-block
commit_block-requires-clause-block c =
    let here =
    sym (get_or_read c.args.blocks.now c.loop-block.block-index c.block-item.result c.loop-block-test.true
    c.block-item.is 0) in
    rw (c.loop-block.invariant.done.layout, ← here)
    (c.requires.within c.loop-block.block-index c.loop-block-test.true)

pub commit_block-requires-clause-ready : goal.commit_block-requires-clause-ready
commit_block-requires-clause-ready c =
    let m = c.args.self.now in
    let here =
    sym (get_or_read c.args.blocks.now c.loop-block.block-index c.block-item.result c.loop-block-test.true
    c.block-item.is 0) in
    middle-ready m c.loop-block.self _ c.args.blocks.now c.loop-block.block-index c.block-item.result _
    c.args.tape.now c.loop-block.tape c.loop-block.invariant.done c.loop-block-test.true here
    c.loop-block.invariant.middle (subst (λ (b : ℕ). IsGrantable m.layout (state_of m) b) here
    (c.requires.ready c.loop-block.block-index c.loop-block-test.true))

pub loop-block-preserved : goal.loop-block-preserved
loop-block-preserved c =
    let m = c.args.self.now in
    let here =
    sym (get_or_read c.args.blocks.now c.loop-block.block-index c.block-item.result c.loop-block-test.true
    c.block-item.is 0) in
    record {
      done =
          blocks-further commit_block committed_block_bound m c.loop-block.self c.commit_block.new.self
          c.args.blocks.now c.loop-block.block-index c.block-item.result c.args.tape.now
          c.loop-block.tape c.commit_block.new.tape c.loop-block-test.true here c.loop-block.invariant.done
          c.commit_block.ensures;
      middle =
          committing-next m.layout (state_of m) c.args.blocks.now c.loop-block.block-index c.block-item.result
          c.requires.placed.one.layout c.loop-block-test.true here
          (rw (← here) (c.requires.within c.loop-block.block-index c.loop-block-test.true))
          (subst (λ (b : ℕ). IsGrantable m.layout (state_of m) b) here (c.requires.ready
          c.loop-block.block-index c.loop-block-test.true)) c.requires.rise c.loop-block.invariant.middle;
    }
