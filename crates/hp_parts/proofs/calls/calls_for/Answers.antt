-- Fewer calls have fewer schedules than what is wanted.
use Rattle.std.proofs.Common.{◌≡◌, ℕ, ◌<◌, ◌≤◌, ◌*◌, ◌^◌, ap, ◌∙◌, arith}
use Rattle.std.proofs.Math.Nat.{pow-le-pow_right}
use Rattle.hp_parts.proofs.calls.calls_for.Goals as goal

pub returns-clause-fewest : goal.returns-clause-fewest
returns-clause-fewest c =
    λ d less. let some : 0 < c.args.processors = omega arith in
    let fewer : d ≤ c.ilog.result = omega arith in
    let base : c.from-3.result ≡ c.args.processors = omega arith in
    let each : c.from.result ≡ 64 = omega arith in
    let parts : c.from-2.result ≡ c.args.parts = omega arith in
    let wanted = ap (λ (n : ℕ). n * c.from-2.result) each ∙ ap (λ (n : ℕ). 64 * n) parts in
    let power = ap (λ (n : ℕ). n ^ c.ilog.result) base in
    omega (
      arith,
      c.ilog.ensures.power_le,
      wanted,
      power,
      pow-le-pow_right {n = c.args.processors} some {i = d} {j = c.ilog.result} fewer,
    )
