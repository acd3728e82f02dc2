-- Each volume that is not at fault leads on; in the end the journal begins at the state after all of them.
use Rattle.std.proofs.lemmas.Option.{slice_get_read}
use Rattle.std.proofs.lemmas.Result.{err_from_is_err_and}
use Rattle.std.proofs.Common.{◌∙◌, length, refl}
use Rattle.hp_laws.proofs.Boots.{boot-placed}
use Rattle.hp_machine.proofs.ChainEnds.{begins_with, begun_at_boot, chain_refuted, end_placed, end_shown, ends_all, ends_more, ends_none, fault_after}
use Rattle.hp_machine.proofs.chains.audit_chain.Goals as goal

pub from_image-requires : goal.from_image-requires
from_image-requires c =
    record {
      placed =
          rw (c.in_ok-base.ensures.layout, c.in_ok-base.ensures.memory)
          (boot-placed c.args.layout.now c.in_ok-base.ensures.limits);
    }

pub loop-place-init : goal.loop-place-init
loop-place-init c =
    record {
      end =
          ends_none c.args.layout.now c.args.volumes.now c.in_ok-end.end (begun_at_boot c.args.layout.now
          c.in_ok-base.base c.in_ok-end.end c.in_ok-base.ensures.layout c.in_ok-base.ensures.memory
          c.in_ok-end.ensures);
      base = begins_with c.in_ok-base.base c.in_ok-end.end c.in_ok-end.ensures;
    }

pub after_volume-requires-clause-start : goal.after_volume-requires-clause-start
after_volume-requires-clause-start c = c.loop-place.invariant.end.start

pub after_volume-requires-clause-base : goal.after_volume-requires-clause-base
after_volume-requires-clause-base c = c.loop-place.invariant.base

pub loop-place-preserved : goal.loop-place-preserved
loop-place-preserved c = record {
  end =
      ends_more c.args.layout.now c.args.volumes.now c.loop-place.place c.index-volumes-place.result
      c.loop-place.end c.after_volume.new.end
      (slice_get_read c.args.volumes.now (length c.args.volumes.now) c.loop-place.place
      c.index-volumes-place.result refl c.loop-place-test.true
      c.index-volumes-place.is) c.loop-place.invariant.end
      c.in_ok-after_volume.ensures.follows c.in_ok-after_volume.ensures.legal
      c.in_ok-after_volume.ensures.next;
  base = c.in_ok-after_volume.ensures.base;
}

pub returns-clause-chain : goal.returns-clause-chain
returns-clause-chain c =
    (ends_all c.args.layout.now c.args.volumes.now c.loop-place.place c.loop-place.end c.loop-place-test.false
    c.loop-place.invariant.end).chain

pub returns-clause-value : goal.returns-clause-value
returns-clause-value c =
    c.loop-place.invariant.base ∙ end_shown c.args.layout.now c.args.volumes.now c.loop-place.end
    (ends_all c.args.layout.now c.args.volumes.now c.loop-place.place c.loop-place.end c.loop-place-test.false
    c.loop-place.invariant.end)

pub returns-clause-placed : goal.returns-clause-placed
returns-clause-placed c =
    end_placed c.args.layout.now c.args.volumes.now c.loop-place.base c.in_ok-base.ensures.limits
    (returns-clause-value c)

pub returns-in_err-after_volume-clause-fault : goal.returns-in_err-after_volume-clause-fault
returns-in_err-after_volume-clause-fault c =
    let p =
    err_from_is_err_and c.from_residual-in_err-after_volume.result
    c.from_residual-in_err-after_volume.ensures.1 in
    rw (p.1, p.2) (fault_after c.args.layout.now c.args.volumes.now c.loop-place.place
    c.index-volumes-place.result c.loop-place.end _
    (slice_get_read c.args.volumes.now (length c.args.volumes.now) c.loop-place.place
    c.index-volumes-place.result refl c.loop-place-test.true
    c.index-volumes-place.is) c.loop-place.invariant.end c.in_err-after_volume.ensures.err)

pub returns-in_err-after_volume-clause-only : goal.returns-in_err-after_volume-clause-only
returns-in_err-after_volume-clause-only c =
    let p =
    err_from_is_err_and c.from_residual-in_err-after_volume.result
    c.from_residual-in_err-after_volume.ensures.1 in
    rw (p.1, p.2) (chain_refuted c.args.layout.now c.args.volumes.now _
    (fault_after c.args.layout.now c.args.volumes.now c.loop-place.place c.index-volumes-place.result
    c.loop-place.end _
    (slice_get_read c.args.volumes.now (length c.args.volumes.now) c.loop-place.place
    c.index-volumes-place.result refl c.loop-place-test.true
    c.index-volumes-place.is) c.loop-place.invariant.end c.in_err-after_volume.ensures.err))
