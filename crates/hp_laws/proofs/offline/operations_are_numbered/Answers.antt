-- Only a Begin makes claims, and they carry its serial.
use Rattle.std.proofs.Common.{◌≤◌}
use Rattle.hp_laws.proofs.OfflineClaims.{boot-claims, numbered_others, value-claims}
use Rattle.hp_laws.proofs.offline.operations_are_numbered.Goals as goal

pub returns-clause-boot : goal.returns-clause-boot
returns-clause-boot c l = boot-claims l (λ op. op ≤ 0)

pub returns-clause-history : goal.returns-clause-history
returns-clause-history c = value-claims

pub returns-clause-greater : goal.returns-clause-greater
returns-clause-greater c last op blocks h low = numbered_others last op blocks low h
