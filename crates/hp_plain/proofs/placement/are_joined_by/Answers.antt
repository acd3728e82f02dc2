use Rattle.std.proofs.Common.{ℕ, arith, ◌≡◌, ◌∙◌, ◌+◌, ◌^◌, ◌<◌, ◌≤◌, ◌/◌, List, [], below_more, get_or, subst, true}
use Rattle.std.proofs.lemmas.Nat.{pow_pos}
use Rattle.hp_units.specs.Arithmetic.{frame_count}
use Rattle.hp_units.specs.FreeAreas.{is_on}
use Rattle.hp_plain.proofs.PlacedHeads.{heads_below}
use Rattle.hp_plain.proofs.PlacedLists.{list_numbered}
use Rattle.hp_plain.proofs.placement.are_joined_by.Goals as goal

pub set-requires : goal.set-requires
set-requires c frame on =
    let order : ℕ = c.loop-number.number / 5 in
    let some : 0 < 2 ^ order = pow_pos order in
    let within : frame + 2 ^ order ≤ frame_count c.args.layout.now =
    c.requires.areas.free c.numbered.result order frame
    (subst (λ (xs : List ℕ). is_on frame xs ≡ true) c.free_list-frames.ensures on) in
    omega arith

pub loop-number-preserved : goal.loop-number-preserved
loop-number-preserved c =
    let number : ℕ = c.loop-number.number in
    let list : c.free_list-frames.result.now ≡ get_or c.args.areas.now.lists number [] =
    rw (c.free_list-frames.ensures, c.numbered.ensures, ← list_numbered c.args.areas.now number) in
    record {
      long = c.set.ensures.length ∙ c.loop-number.invariant.long;
      below =
          heads_below c.loop-number.heads c.set.new.self c.free_list-frames.result.now c.loop-number.number
          c.set.ensures.set c.loop-number.invariant.below;
      joined =
          below_more _ _ c.loop-number.invariant.joined (rw (← list) c.if-not-is_joined.ensures);
    }
