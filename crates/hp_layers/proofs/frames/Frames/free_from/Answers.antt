-- The rest of a free block, from a frame of it on.
use Rattle.std.proofs.Common.{◌≡◌, ◌-◌, ◌*◌, ◌^◌, ◌%◌, ◌<◌, ◌≤◌, ℕ, subst, arith}
use Rattle.std.proofs.Math.Pow.{pow_mono}
use Rattle.hp_layers.proofs.FreeRuns.{run-is_free, size-computed}
use Rattle.hp_layers.proofs.frames.Frames.free_from.Goals as goal

pub returns-in-Some-clause-free : goal.returns-in-Some-clause-free
returns-in-Some-clause-free c =
    let order : ℕ = c.in-Some.order in
    let size : 1 * 2 ^ c.order.inside.0 % 4294967296 ≡ 2 ^ order =
    size-computed c.args.layout.now order c.order.inside.0 c.in-Some.ensures.layout
    c.in-Some.ensures.is.within c.order.view_is in
    let count : 1 * 2 ^ c.order.inside.0 % 4294967296
    - c.frame.inside.0 % (1 * 2 ^ c.order.inside.0 % 4294967296) ≡ 2 ^ order - c.args.frame % 2 ^ order =
    rw (size, c.frame.view_is) in
    λ (k : ℕ) below. run-is_free c.args.layout.now c.args.self.now.buddy.areas c.args.frame order k
    c.in-Some.ensures.is (subst (λ (n : ℕ). k < n) count below)

pub returns-in-Some-clause-most : goal.returns-in-Some-clause-most
returns-in-Some-clause-most c =
    let order : ℕ = c.in-Some.order in
    let size : 1 * 2 ^ c.order.inside.0 % 4294967296 ≡ 2 ^ order =
    size-computed c.args.layout.now order c.order.inside.0 c.in-Some.ensures.layout
    c.in-Some.ensures.is.within c.order.view_is in
    let most : 2 ^ order ≤ 2 ^ c.args.layout.now.order =
    pow_mono {i = order} {j = c.args.layout.now.order} c.in-Some.ensures.is.within in
    omega (arith, size, most)
