use Rattle.std.proofs.Common.{◌≡◌, ◌&&◌, true, leb, length, get_or, arith, rules}
use Rattle.std.proofs.lemmas.Bool.{and_parts, leb-true}
use Rattle.hp_scenario.proofs.PlainNumbers.{has_room}
use Rattle.hp_scenario.proofs.numbers.digits_value.Goals as goal

pub overflow_mul-number : goal.overflow_mul-number
overflow_mul-number c =
    let room = has_room c.loop-byte.byte-index c.loop-byte.number (length c.args.digits.now)
    c.loop-byte.invariant.1 c.loop-byte-test.true c.requires in
    omega (arith, room)

pub overflow_add-number : goal.overflow_add-number
overflow_add-number c =
    let room = has_room c.loop-byte.byte-index c.loop-byte.number (length c.args.digits.now)
    c.loop-byte.invariant.1 c.loop-byte-test.true c.requires in
    let byte = get_or c.args.digits.now c.loop-byte.byte-index 0 in
    let digit : (leb 48 byte && leb byte 57) ≡ true = search rules in
    omega (arith, room, leb-true byte 57 (and_parts (leb 48 byte) (leb byte 57) digit).1)
