use Rattle.std.proofs.Common.{rules}
use Rattle.hp_streams.proofs.reading.read_all.Goals as goal

pub returns-in_default-clause-bytes : goal.returns-in_default-clause-bytes
returns-in_default-clause-bytes g c = search rules

pub returns-in_default-clause-limit : goal.returns-in_default-clause-limit
returns-in_default-clause-limit g c = search rules

pub returns-in_default-clause-end : goal.returns-in_default-clause-end
returns-in_default-clause-end g c = search rules

pub returns-in_default-clause-err : goal.returns-in_default-clause-err
returns-in_default-clause-err g c = search rules

pub returns-then-count-eq0-clause-bytes : goal.returns-then-count-eq0-clause-bytes
returns-then-count-eq0-clause-bytes g c = search rules

pub returns-then-count-eq0-clause-limit : goal.returns-then-count-eq0-clause-limit
returns-then-count-eq0-clause-limit g c = search rules

pub returns-then-count-eq0-clause-end : goal.returns-then-count-eq0-clause-end
returns-then-count-eq0-clause-end g c = search rules

pub returns-then-count-eq0-clause-err : goal.returns-then-count-eq0-clause-err
returns-then-count-eq0-clause-err g c = search rules

pub returns-in_err-extend_from_slice-clause-bytes : goal.returns-in_err-extend_from_slice-clause-bytes
returns-in_err-extend_from_slice-clause-bytes g c = search rules

pub returns-in_err-extend_from_slice-clause-limit : goal.returns-in_err-extend_from_slice-clause-limit
returns-in_err-extend_from_slice-clause-limit g c = search rules

pub returns-in_err-extend_from_slice-clause-end : goal.returns-in_err-extend_from_slice-clause-end
returns-in_err-extend_from_slice-clause-end g c = search rules

pub returns-in_err-extend_from_slice-clause-err : goal.returns-in_err-extend_from_slice-clause-err
returns-in_err-extend_from_slice-clause-err g c = search rules

pub returns-clause-bytes : goal.returns-clause-bytes
returns-clause-bytes g c = search rules

pub returns-clause-limit : goal.returns-clause-limit
returns-clause-limit g c = search rules

pub returns-clause-end : goal.returns-clause-end
returns-clause-end g c = search rules
