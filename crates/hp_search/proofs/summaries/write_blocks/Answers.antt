-- Each piece is appended.
use Rattle.hp_search.proofs.SummaryLines.{goes_on}
use Rattle.hp_search.proofs.summaries.write_blocks.Goals as goal
use Rattle.hp_search.proofs.summaries.write_blocks.Goals.{then-not-is_like_next+in_ok-run+else-not-has_room+in_ok-push_str-2, else-not-is_like_next}

pub returns-then-not-has_room : goal.returns-then-not-has_room
returns-then-not-has_room c =
    goes_on _ _ _ _ c.loop-place.invariant c.in_ok-push_str.ensures.bytes

pub loop-place-preserved : goal.loop-place-preserved
loop-place-preserved c =
    elim c.if-not-is_like_next.branch [
      | then-not-is_like_next+in_ok-run+else-not-has_room+in_ok-push_str-2 w ↦
          rw w.out-is (goes_on _ _ _ _ c.loop-place.invariant w.in_ok-push_str-2.ensures.bytes)
      | else-not-is_like_next w ↦ rw w.out-is c.loop-place.invariant
    ]
