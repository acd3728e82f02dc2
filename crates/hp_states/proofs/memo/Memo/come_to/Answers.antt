-- The places mean what they did.
use Rattle.std.proofs.Common.{refl, subst, sym}
use Rattle.std.proofs.lemmas.Result.{IfOk-weaker}
use Rattle.hp_states.specs.Seen.{IsMemo}
use Rattle.hp_states.proofs.Keeping.{memo_extended, memo_stands}
use Rattle.hp_states.proofs.memo.Memo.come_to.Goals as goal

pub key-requires-clause-standing : goal.key-requires-clause-standing
key-requires-clause-standing c =
    let at = c.requires.way in (
      at.0,
      at.1,
      at.2.cursors_are,
      c.in_ok-number_state.ensures.here at.0 at.1 at.2.memory_is
          (memo_stands at.0 at.1 _ c.args.self.now c.self.view_is at.3 c.if-not-self.false),
    )

pub returns-in_err-number_state-clause-way : goal.returns-in_err-number_state-clause-way
returns-in_err-number_state-clause-way c =
    λ g news is way set. c.number_state.ensures.here g news is
    (memo_stands g news _ c.args.self.now c.self.view_is way set)

pub returns-clause-way : goal.returns-clause-way
returns-clause-way c =
    λ g news is way set. c.number_state.ensures.here g news is
    (memo_stands g news _ c.args.self.now c.self.view_is way set)

pub returns-clause-ok : goal.returns-clause-ok
returns-clause-ok c =
    IfOk-weaker c.key.result _ _
    (λ has made whole g news place way. made whole g news place.cursors_are
    (c.number_state.ensures.here g news place.memory_is
    (memo_stands g news _ c.args.self.now c.self.view_is way c.if-not-self.false)))
    c.key.ensures

pub returns-in_err-number_state-clause-memo : goal.returns-in_err-number_state-clause-memo
returns-in_err-number_state-clause-memo c =
    λ g ends kept. memo_extended g ends _ _ (refl, refl, refl) c.number_state.ensures.kept
    (subst (IsMemo g ends) (sym c.self.view_is) kept)

pub returns-clause-memo : goal.returns-clause-memo
returns-clause-memo c =
    λ g ends kept. memo_extended g ends _ _ (refl, refl, refl) c.number_state.ensures.kept
    (subst (IsMemo g ends) (sym c.self.view_is) kept)
