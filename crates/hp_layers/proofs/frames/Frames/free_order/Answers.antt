-- One more order is looked at.
use Rattle.std.proofs.Common.{◌≡◌, ◌+◌, ◌^◌, ◌<◌, ℕ, Bool, false, sym, ◌∙◌, ap, arith}
use Rattle.hp_units.specs.Numbers.{ancestor}
use Rattle.hp_units.specs.Refusals.{is_free_start}
use Rattle.hp_plain.proofs.Ranges.{any-below_step}
use Rattle.std.proofs.Math.Nat.{div-mul-le_self}
use Rattle.hp_layers.proofs.frames.Frames.free_order.Goals as goal

pub loop-number-preserved : goal.loop-number-preserved
loop-number-preserved c =
    let l = c.args.layout.now in
    let a = c.args.self.now.buddy.areas in
    let n : ℕ = c.loop-number.number in
    let p : ℕ → Bool = λ (order : ℕ). is_free_start a order (ancestor c.args.frame order) in
    let below : n < l.order + 1 = omega (arith, c.order-number-end.ensures.is) in
    let seen : p n ≡ c.is_free_start.result =
    sym (c.is_free_start.ensures ∙ ap (λ (first : ℕ). is_free_start a n first) c.ancestor.ensures) in
    c.loop-number.invariant ∙ any-below_step p n (l.order + 1) false below (seen ∙ c.if-is_free_start.false)

pub is_free_start-requires : goal.is_free_start-requires
is_free_start-requires c =
    let le = div-mul-le_self c.args.frame (2 ^ c.loop-number.number) in
    rw c.requires.same (omega (arith, le, c.ancestor.ensures, c.requires.frame))
