-- The journal is sealed, and begins where the volumes so far lead to, as the base does.
use Rattle.std.proofs.Common.{◌≡◌, take}
use Rattle.hp_history.specs.Kept.{pictured}
use Rattle.hp_machine.proofs.ChainEnds.{EndsVolumes}
use Rattle.hp_machine.proofs.chains.audit_chain.Given as goal

abbrev pub invariant-loop-place : goal.invariant-loop-place
invariant-loop-place l = record {
  end : EndsVolumes l.layout (take l.place l.volumes) l.end;
  base : l.base ≡ pictured l.end.layout l.end.base;
}
