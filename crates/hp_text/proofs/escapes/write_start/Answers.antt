use Rattle.std.proofs.Common.{◌≡◌, ℕ, ◌<◌, ◌≤◌, length, string_bytes, sym, subst, ◌∙◌, map-id, arith}
use Rattle.std.specs.Str.{chars}
use Rattle.std.proofs.lemmas.Iterator.{YieldsList-from_chars}
use Rattle.std.proofs.lemmas.Iterator.Consumers.{YieldsList-end, YieldsList-so_far, YieldsList-turn}
use Rattle.hp_text.specs.Escapes.{escaped, escaped_start}
use Rattle.hp_text.proofs.Started.{all_started, cut_started}
use Rattle.hp_text.proofs.escapes.write_start.Goals as goal

pub returns : goal.returns
unfolding escaped_start
returns c =
    let i = c.loop-c.invariant in
    let few : length c.loop-c.yielded ≤ c.args.most = omega (arith, i.1, i.2) in
    let end =
    YieldsList-end (YieldsList-from_chars c.args.text.now c.utf8.text cc) c.loop-c.yielded _
    c.loop-c.yielded_by _ _ c.in-None.is c.next.ensures.steps in
    all_started (escaped c.args.brackets) c.args.most (string_bytes c.args.out.now) _ c.loop-c.yielded _ i.0
    (sym (map-id c.loop-c.yielded) ∙ end.0) few

pub returns-then-written-most : goal.returns-then-written-most
unfolding escaped_start
returns-then-written-most c =
    let i = c.loop-c.invariant in
    let run = YieldsList-from_chars c.args.text.now c.utf8.text cc in
    let turn =
    YieldsList-turn run c.loop-c.yielded _ c.loop-c.yielded_by _ _ _ c.in-Some.is c.next.ensures.steps in
    let seen = YieldsList-so_far run c.loop-c.yielded _ c.loop-c.yielded_by in
    let count : length c.loop-c.yielded ≡ c.args.most = omega (arith, i.1, c.if-written-most.true) in
    cut_started (escaped c.args.brackets) c.args.most (string_bytes c.args.out.now) _ _ c.loop-c.yielded _ i.0
    c.in_ok-push_str.ensures.bytes (sym (map-id c.loop-c.yielded) ∙ seen) count
    (subst (λ (n : ℕ). n < length (chars c.args.text.now)) count turn.0)
