use Rattle.std.proofs.Common.{◌≡◌, [], ◌∷◌, refl, arith}
use Rattle.json.specs.Token.{Token}
use Rattle.hp_scenario.proofs.UsualForm.{string_passed, boots_end, boots_grow, no_boots}
use Rattle.hp_scenario.proofs.usual.takes_boot.Goals as goal

pub words-init : goal.words-init
words-init c = ([], refl, no_boots c.args.boot.now.items c.requires)

pub words-preserved : goal.words-preserved
words-preserved c =
    let l = c.words in
    let word = c.in-Some-String.word.now in
    let first : c.take_end_array.new.self ≡ Token.string word ∷ c.next.new.self = grind arith in (
      _,
      string_passed _ l.reader c.take_end_array.new.self c.next.new.self l.invariant.0 word l.invariant.1
          c.words-test.ensures first,
      boots_grow l.invariant.0 word l.boot.items c.push.new.self.items c.in-Some.block l.invariant.2
          c.in-Some.ensures c.in_ok-push.ensures.items,
    )

pub returns : goal.returns
returns c over =
    let l = c.words in
    boots_end _ _ l.reader c.take_end_array.new.self c.takes_end.new.reader l.invariant.0 l.boot.items
    (c.if-not-takes_array.ensures refl) l.invariant.1 c.words-test.ensures (c.takes_end.ensures over)
    l.invariant.2
