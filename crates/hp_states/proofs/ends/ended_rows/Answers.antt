-- The row of one block more.
use Rattle.std.proofs.Common.{◌≡◌, ap, arith, length, refl, slice_get, ◌∙◌}
use Rattle.std.proofs.lemmas.List.FromFn.{length-map-range_with_len}
use Rattle.hp_units.specs.LayoutParts.{LayoutParts}
use Rattle.hp_schedules.specs.Outcomes.{ended_row}
use Rattle.hp_states.proofs.Ended.{rows_more}
use Rattle.hp_states.proofs.ends.ended_rows.Goals as goal

pub push_reserved-requires : goal.push_reserved-requires
push_reserved-requires c =
    omega (
      arith,
      c.loop-block.rows.ok.0,
      ap length c.loop-block.invariant.ended,
      length-map-range_with_len
          (λ block. ended_row (slice_get c.args.memory.now.state.blocks.rows block)) 0 c.loop-block.block,
      c.loop-block.invariant.room,
      c.loop-block-test.true,
    )

pub loop-block-preserved : goal.loop-block-preserved
loop-block-preserved c = record {
  ended = c.push_reserved.ensures.items
      ∙ rows_more c.loop-block.rows.items c.args.memory.now.state c.claimed_row.result c.loop-block.block
      c.loop-block.invariant.ended (c.claimed_row.ensures refl ∙ ap ended_row c.row.ensures);
  room = c.push_reserved.ensures.capacity ∙ c.loop-block.invariant.room;
}

pub returns : goal.returns
returns c =
    let all : c.loop-block.block ≡ c.args.memory.now.layout.blocks =
    omega (
      arith,
      c.loop-block-test.false,
      c.loop-block.auto.block-end,
      c.blocks-blocks.ensures.is,
      ap (λ (l : LayoutParts). l.blocks) c.layout.ensures,
    ) in
    rw (← all) c.loop-block.invariant.ended
