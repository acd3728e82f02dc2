-- A free block that left its list is in no free block.
use Rattle.std.proofs.Common.{◌≡◌, ◌*◌, Bool, cond, sym, ◌∙◌, ap, arith}
use Rattle.std.proofs.lemmas.Nat.{pow_pos}
use Rattle.hp_buddy.specs.Moves.{free_one}
use Rattle.hp_buddy.proofs.Moves.{IsOut, taken_out}
use Rattle.hp_buddy.proofs.Calls.{notes-then}
use Rattle.hp_buddy.proofs.buddy.Buddy.move_block.Goals as goal
use Rattle.hp_buddy.proofs.buddy.Buddy.move_block.Goals.{After-unlink_free}

is_out : (c : After-unlink_free)
    → IsOut c.args.self.now.layout c.unlink_free.new.self.areas c.args.order c.args.frame
is_out c =
    rw c.unlink_free.ensures.areas (taken_out c.args.self.now.layout c.args.self.now.areas c.args.from
    c.args.order c.args.frame c.requires.order (sym c.is_free.ensures ∙ c.if-is_free.true) c.requires.apart)

pub push_back-requires-clause-once : goal.push_back-requires-clause-once
push_back-requires-clause-once c =
    (is_out (goal.at.push_back-requires-clause-once c).After-unlink_free).apart.once

pub push_back-requires-clause-unfree : goal.push_back-requires-clause-unfree
push_back-requires-clause-unfree c =
    let some = pow_pos c.args.order in
    (is_out (goal.at.push_back-requires-clause-unfree c).After-unlink_free).block.unfree c.args.frame
    (omega arith) (omega arith)

pub returns-then-is_free-clause-notes : goal.returns-then-is_free-clause-notes
returns-then-is_free-clause-notes c =
    let one : free_one c.args.self.now.areas c.args.from c.args.order c.args.frame ≡ 1 =
    ap (λ (b : Bool). cond b 1 0) (sym c.is_free.ensures ∙ c.if-is_free.true) in
    notes-then c.args.self.now.layout c.unlink_free.new.self.layout 1 1 (2 * free_one c.args.self.now.areas
    c.args.from c.args.order c.args.frame) c.args.tape.now c.unlink_free.new.tape c.push_back.new.tape
    c.args.self.now.areas c.unlink_free.new.self.areas c.push_back.new.self.areas c.unlink_free.ensures.layout
    (omega arith) c.unlink_free.ensures.notes c.push_back.ensures.notes
