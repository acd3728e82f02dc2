-- What is remembered owns nothing, so it may be seen from any thread.
use denote.Memory.{part_of, raw_all}
use denote.Param.Send.{IsSync, cell_keyless}
use Rattle.hp_history.specs.contracts.remembered.Remembered.{the_row}

pub sync : IsSync the_row
unfolding part_of
sync = record {
  shared = λ d b o κ. λ q vs. (cell_keyless q (raw_all the_row.mir) vs b o, ((λ uss. (tt, tt)), tt));
}
