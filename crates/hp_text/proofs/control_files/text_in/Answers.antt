use Rattle.std.proofs.Common.{rules}
use Rattle.hp_text.specs.ControlFiles.{file_text}
use Rattle.hp_text.proofs.control_files.text_in.Goals as goal

pub returns-in-Some : goal.returns-in-Some
unfolding file_text
returns-in-Some c = search rules

pub returns-in-None : goal.returns-in-None
unfolding file_text
returns-in-None c = search rules
