-- The bytes and the ends have the text at their ends.
use Rattle.std.proofs.Common.{[], ◌∷◌, ◌++◌, ℕ, List, length, ◌∙◌, ap, arith}
use Rattle.hp_states.proofs.Joined.{count, texts_are, texts_on}
use Rattle.hp_states.proofs.texts.Texts.append.Goals as goal

pub invariant_of-self-2 : goal.invariant_of-self-2
invariant_of-self-2 c =
    texts_on _ c.args.text.now _ _ _ _ c.self.invariant c.in_ok-extend_from_slice.ensures.items
    (rw c.reserve.ensures.items at c.push_reserved.ensures.items) (omega (arith, c.len.ensures))

pub returns-clause-ok : goal.returns-clause-ok
returns-clause-ok c =
    texts_are _ c.args.text.now _ _ _ _ c.self.invariant c.in_ok-extend_from_slice.ensures.items
    (rw c.reserve.ensures.items at c.push_reserved.ensures.items) (omega (arith, c.len.ensures))
    ∙ ap (λ (texts : List (List ℕ)). texts ++ c.args.text.now ∷ []) c.self.view_is

pub returns-clause-number : goal.returns-clause-number
returns-clause-number c =
    omega (
      arith,
      c.len-number.ensures,
      ap length c.reserve.ensures.items,
      count c.self.inside.bytes.items 0 c.self.inside.ends.items,
      ap length c.self.view_is,
    )
