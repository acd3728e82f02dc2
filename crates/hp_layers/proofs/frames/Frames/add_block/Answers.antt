use Rattle.std.proofs.Common.{◌≡◌, ℕ, suc, ◌+◌, ◌*◌, ◌^◌, ◌<◌, ◌≤◌, sym, ap, subst, ◌∙◌, arith}
use Rattle.std.proofs.Math.Nat.{mul-le-mul_right, suc-mul}
use Rattle.hp_units.specs.Isolation.{add_pageblock}
use Rattle.hp_layers.specs.Frames.{places_of}
use Rattle.hp_layers.proofs.Given.{given-further}
use Rattle.hp_layers.proofs.Pageblocks.{pageblock-is}
use Rattle.hp_layers.proofs.frames.Frames.add_block.Goals as goal

-- `number` pageblocks and one more
further : (first number size : ℕ) → (first + number) * size + size ≡ (first + (number + 1)) * size
further first number size =
    let next : suc (first + number) ≡ first + (number + 1) = omega arith in
    sym (suc-mul (first + number) size) ∙ ap (λ (n : ℕ). n * size) next

-- the last of them is among those of the block
among : (first number count size : ℕ) → number < count
    → (first + (number + 1)) * size ≤ (first + count) * size
among first number count size low = mul-le-mul_right size (omega arith)

from_first : (first number size : ℕ) → first * size ≤ (first + number) * size
from_first first number size = mul-le-mul_right size (omega arith)

-- no frame of the next pageblock has a place yet
not_yet : (at first number count size : ℕ) (p q : ℕ → ℕ) → at ≡ first + number → number < count
    → ((o : ℕ) → (first + number) * size ≤ o → p o ≡ q o)
    → ((o : ℕ) → first * size ≤ o → o < (first + count) * size → q o ≡ 0) → (o : ℕ) → at * size ≤ o
    → o < at * size + size → p o ≡ 0
not_yet at first number count size p q here low later none o above below =
    let a = subst (λ (n : ℕ). n * size ≤ o) here above in
    let b = subst (λ (n : ℕ). o < n * size + size) here below in
    let past = further first number size in
    let inside = among first number count size low in
    later o a ∙ none o (omega (arith, from_first first number size, a)) (omega (arith, b, past, inside))

-- the pageblocks after it have the places that they had
behind : (at first number size : ℕ) (new p q : ℕ → ℕ) → at ≡ first + number
    → ((o : ℕ) → (first + number) * size ≤ o → p o ≡ q o) → ((o : ℕ) → at * size + size ≤ o → new o ≡ p o)
    → (o : ℕ) → (first + (number + 1)) * size ≤ o → new o ≡ q o
behind at first number size new p q here later added o above =
    let past = further first number size in
    let added' = subst (λ (n : ℕ). n * size + size ≤ o → new o ≡ p o) here (added o) in
    added' (omega (arith, above, past)) ∙ later o (omega (arith, above, past))

pub add_pageblock-requires-clause-nowhere : goal.add_pageblock-requires-clause-nowhere
add_pageblock-requires-clause-nowhere c =
    let l = c.args.layout.now in
    not_yet _ (c.args.block * l.pageblocks) c.loop-number.number l.pageblocks (2 ^ l.order)
    (places_of c.loop-number.self) (places_of c.args.self.now)
    (pageblock-is c.loop-number.number c.block.view_is c.pageblocks-count.ensures.is)
    (omega (arith, c.loop-number-test.true, c.pageblocks-count.ensures.is)) c.loop-number.invariant.later
    c.requires.nowhere

pub loop-number-preserved : goal.loop-number-preserved
loop-number-preserved c =
    let l = c.args.layout.now in
    let here = pageblock-is c.loop-number.number c.block.view_is c.pageblocks-count.ensures.is in
    record {
      done =
          given-further l (λ k. add_pageblock k c.args.zone) (λ k. 1) c.args.self.now.buddy.areas
          (c.args.block * l.pageblocks) c.loop-number.number _ c.args.self.now c.loop-number.self
          c.add_pageblock.new.self c.args.tape.now c.loop-number.tape c.add_pageblock.new.tape c.requires.same
          here c.loop-number.invariant.done c.add_pageblock.ensures.given;
      later =
          behind _ (c.args.block * l.pageblocks) c.loop-number.number (2 ^ l.order) (places_of
          c.add_pageblock.new.self) (places_of c.loop-number.self) (places_of c.args.self.now) here
          c.loop-number.invariant.later c.add_pageblock.ensures.later;
    }
