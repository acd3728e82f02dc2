use Rattle.std.proofs.Common.{rules}
use Rattle.hp_text.proofs.file_faults.write_read_fault.Goals as goal

pub returns : goal.returns
returns c = search rules
