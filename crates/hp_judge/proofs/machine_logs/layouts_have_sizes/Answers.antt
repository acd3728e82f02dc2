-- A memory block is 2^k pageblocks of 2^order frames.
use Rattle.hp_judge.proofs.Histories.{size_of}
use Rattle.hp_judge.proofs.machine_logs.layouts_have_sizes.Goals as goal

pub returns : goal.returns
returns c = size_of
