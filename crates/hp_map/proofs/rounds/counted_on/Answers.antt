use Rattle.std.proofs.Common.{◌≡◌, ℕ, List, Some, IfOk, string_bytes, subst, sym, rules}
use Rattle.hp_map.specs.Rounds.{halves_of}
use Rattle.hp_map.proofs.RoundTexts.{counted_is}
use Rattle.hp_map.proofs.rounds.counted_on.Goals as goal

pub returns-in-Some-number64 : goal.returns-in-Some-number64
returns-in-Some-number64 c =
    let cut : halves_of c.args.answer.now ≡ Some (c.in-Some.front.now, c.in-Some.words.now) =
    search rules in
    subst (λ (bytes : List ℕ). IfOk c.answer_of.result (λ text. string_bytes text ≡ bytes))
    (sym (counted_is _ _ c.args.answer.now _ _ _ cut (search rules))) c.answer_of.ensures
