use Rattle.std.proofs.Common.{◌≡◌, ℕ, Bool, List, ◌++◌, [], ◌∷◌, cond, filter, refl, sym, ◌∙◌, ap, arith}
use Rattle.std.specs.List.{range_with_len}
use Rattle.hp_units.specs.Memory.{row_of}
use Rattle.hp_units.specs.Rows.{is_claimed_by}
use Rattle.hp_plain.proofs.Claims.{blocks_of-below, filter-below_more}
use Rattle.hp_layers.proofs.Releases.{push-few}
use Rattle.hp_layers.proofs.layers.Layers.blocks_of.Goals as goal

pub loop-number-preserved : goal.loop-number-preserved
loop-number-preserved c =
    let p : ℕ → Bool = λ (block : ℕ). is_claimed_by c.args.op (row_of c.args.self.now.blocks.blocks block) in
    let n = c.loop-number.number in
    record {
      among =
          c.in_ok-push_claimed.ensures ∙ (ap (λ (xs : List ℕ). xs ++ cond (p n) (n ∷ []) [])
          c.loop-number.invariant.among ∙ sym (filter-below_more p n (p n) refl));
      few =
          push-few c.loop-number.blocks.items c.push_claimed.new.blocks.items (p n) n n
          c.in_ok-push_claimed.ensures c.loop-number.invariant.few;
    }

pub returns-clause-within : goal.returns-clause-within
returns-clause-within c =
    let p : ℕ → Bool = λ (block : ℕ). is_claimed_by c.args.op (row_of c.args.self.now.blocks.blocks block) in
    let all : c.loop-number.number ≡ c.args.self.now.layout.blocks =
    omega
    (arith, c.blocks-number-end.ensures.is, c.loop-number-test.false, c.loop-number.auto.number-end) in
    blocks_of-below c.args.self.now.layout c.args.self.now.blocks.blocks c.args.op c.loop-number.blocks.items
    (c.loop-number.invariant.among ∙ ap (λ (n : ℕ). filter p (range_with_len 0 n)) all)
