use Rattle.std.proofs.Common.{rules}
use Rattle.hp_text.proofs.file_faults.write_echo_fault.Goals as goal

pub returns : goal.returns
returns c = search rules
