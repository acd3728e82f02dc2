use Rattle.std.proofs.Common.{ℕ, arith, ◌≡◌, false, get_or, true}
use Rattle.std.proofs.lemmas.Bool.{both_ways}
use Rattle.hp_units.specs.Arithmetic.{buddy}
use Rattle.hp_units.specs.FreeAreas.{is_on}
use Rattle.hp_plain.proofs.Counting.{entry_on, on_each}
use Rattle.hp_plain.proofs.heads.Heads.is_joined.Goals as goal

pub returns-then-at-number : goal.returns-then-at-number
returns-then-at-number c joined =
    let frames = c.args.frames.now in
    let x : ℕ = c.first-item.result in
    let on : is_on x frames ≡ true =
    rw c.first-item.is (entry_on frames c.loop-first.first-index x c.loop-first-test.true) in
    let here : get_or c.args.self.now (buddy x c.args.order) 0 ≡ c.args.number =
    rw (← c.buddy.ensures, ← c.at.ensures) c.if-at-number.true in
    both_ways (is_on (buddy x c.args.order) frames) (joined x on)
    ((c.requires.heads (buddy x c.args.order)).0 here)

pub returns : goal.returns
returns c =
    on_each (λ (first : ℕ). is_on (buddy first c.args.order) c.args.frames.now ≡ false) c.args.frames.now
    (λ k low. c.loop-first.invariant k (omega arith))
