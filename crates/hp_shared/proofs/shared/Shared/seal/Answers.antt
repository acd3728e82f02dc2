use Rattle.std.proofs.Common.{◌≡◌, arith}
use Rattle.std.proofs.lemmas.Result.{IfOk-weaker}
use Rattle.hp_history.specs.Volumes.{volume_of}
use Rattle.hp_history.specs.declared.volumes.Volume.{Volume}
use Rattle.hp_shared.specs.Volumes.{IsSealOf}
use Rattle.hp_shared.proofs.shared.Shared.seal.Goals as goal

pub returns-clause-ok : goal.returns-clause-ok
returns-clause-ok g c =
    let old = c.deref_mut.result.now in
    IfOk-weaker c.seal.result (λ (v : Volume). v ≡ volume_of old.machine)
    (λ (v : Volume). IsSealOf g.L.Job.layout v c.seal.new.share.amount) (λ v same. record {
      seen = old;
      shared = c.seal.ensures.shown;
      is = same;
      within = omega (arith, c.seal.ensures.within, c.seal.ensures.total, c.seal.ensures.shown.total);
    }) c.seal.ensures.volume
