use Rattle.std.proofs.Common.{ap, sym}
use Rattle.hp_requests.specs.Files.{file_at}
use Rattle.hp_requests.proofs.files.file_at.Goals as goal

pub returns-in-probe : goal.returns-in-probe
unfolding file_at
returns-in-probe c = sym (ap file_at c.in-probe.is)
