-- The key is that of where the walk stands.
use Rattle.std.proofs.lemmas.Result.{IfOk-weaker}
use Rattle.hp_states.proofs.Keeping.{memo_stands}
use Rattle.hp_states.proofs.memo.Memo.write_key.Goals as goal

pub key-requires-clause-standing : goal.key-requires-clause-standing
key-requires-clause-standing c =
    let at = c.requires.way in
    (at.0, at.1, at.2, memo_stands at.0 at.1 _ c.args.self.now c.self.view_is at.3 c.if-not-self.false)

pub returns-clause-ok : goal.returns-clause-ok
returns-clause-ok c =
    IfOk-weaker c.key.result _ _
    (λ has made whole g news at way. made whole g news at
    (memo_stands g news _ c.args.self.now c.self.view_is way c.if-not-self.false))
    c.key.ensures
