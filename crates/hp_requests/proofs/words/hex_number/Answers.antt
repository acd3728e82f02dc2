use Rattle.std.proofs.Common.{◌<◌, arith}
use Rattle.hp_requests.proofs.Hex.{next_fits}
use Rattle.hp_requests.proofs.words.hex_number.Goals as goal

pub overflow_mul-number : goal.overflow_mul-number
overflow_mul-number c =
    omega (
      arith,
      next_fits c.loop-digit.number c.loop-digit.digit-index 0 c.loop-digit.invariant.places
          (omega arith) (omega arith),
    )

pub overflow_add-number : goal.overflow_add-number
overflow_add-number c =
    let small : c.from.result < 16 = omega (arith, c.in_ok-hex_digit.ensures.bound) in
    omega (
      arith,
      next_fits c.loop-digit.number c.loop-digit.digit-index c.from.result
          c.loop-digit.invariant.places (omega arith) small,
    )
