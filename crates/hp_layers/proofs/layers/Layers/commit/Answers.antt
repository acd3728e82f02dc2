use Rattle.std.proofs.Common.{◌≡◌, true, refl, sym, ◌∙◌}
use Rattle.std.specs.List.{list_all}
use Rattle.hp_units.specs.declared.events.Event.TheVariants.{Commit}
use Rattle.hp_units.specs.declared.replies.Refusal.TheVariants.{NotFree}
use Rattle.hp_layers.specs.Commits.{is_ready}
use Rattle.hp_layers.specs.Layers.{state_of}
use Rattle.hp_layers.proofs.Answers.{refused}
use Rattle.hp_layers.proofs.Committed.{blocks-grantable, blocks-rise, commit-done, commit-refused}
use Rattle.hp_layers.proofs.layers.Layers.commit.Goals as goal

pub commit_blocks-requires-clause-rise : goal.commit_blocks-requires-clause-rise
commit_blocks-requires-clause-rise c =
    blocks-rise c.args.self.now.layout c.args.self.now.blocks.blocks c.args.op c.as_slice-blocks.result.now
    (c.as_slice-blocks.ensures.value ∙ c.in_ok-held.ensures.blocks)

pub commit_blocks-requires-clause-ready : goal.commit_blocks-requires-clause-ready
commit_blocks-requires-clause-ready c =
    let m = c.args.self.now in
    let within = rw (← c.as_slice-blocks.ensures.value) at c.in_ok-held.ensures.within in
    blocks-grantable m.layout (state_of m) c.args.op c.as_slice-blocks.result.now
    (c.as_slice-blocks.ensures.value ∙ c.in_ok-held.ensures.blocks) within c.in_default.ensures

pub returns-in-Some-clause-ok : goal.returns-in-Some-clause-ok
returns-in-Some-clause-ok c =
    let m = c.args.self.now in
    refused m (Commit c.args.op) _ c.args.tape.now.deltas c.args.tape.now.deltas (NotFree c.in-Some.frame)
    c.requires.placed
    (commit-refused m c.args.op c.as_slice-blocks.result.now c.in-Some.frame
    (sym c.is_live.ensures ∙ c.if-not-is_live.false)
    (c.as_slice-blocks.ensures.value ∙ c.in_ok-held.ensures.blocks) c.in-Some.ensures) refl

pub returns-clause-ok : goal.returns-clause-ok
returns-clause-ok c =
    let m = c.args.self.now in
    let ready : list_all (is_ready m.layout (state_of m)) c.as_slice-blocks.result.now ≡ true =
    c.in_default.ensures in
    commit-done m c.commit_blocks.new.self c.args.op c.as_slice-blocks.result.now c.reserve.new.self
    c.commit_blocks.new.tape c.requires.placed c.reserve.ensures.deltas
    (sym c.is_live.ensures ∙ c.if-not-is_live.false)
    (c.as_slice-blocks.ensures.value ∙ c.in_ok-held.ensures.blocks) ready c.commit_blocks.ensures
