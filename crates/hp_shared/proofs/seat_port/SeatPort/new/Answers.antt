use Rattle.std.proofs.Common.{rules}
use Rattle.hp_shared.proofs.seat_port.SeatPort.new.Goals as goal

pub returns-clause-seat : goal.returns-clause-seat
returns-clause-seat g c = search rules
