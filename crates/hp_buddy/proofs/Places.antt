-- What the writes to a table's places leave.
use Rattle.std.proofs.Common.{ℕ, ◌≡◌, ◌≢◌, ◌<◌, List, Some, length, get_or, set, map, ap, arith}
use Rattle.std.specs.List.{range_with_len}
use Rattle.std.proofs.lemmas.List.{get_or-set_same, get_or-set_other, get_or_default, length-set}
use Rattle.std.proofs.lemmas.List.FromFn.{get_or-map-range_with_len}
use Rattle.hp_buddy.specs.declared.rings.Node.{Node}
use Rattle.hp_buddy.specs.Rings.{Inserts, Removes, IsAlone, alone_at, list_of_code, table}

-- the three writes of an insertion
pub written_inserts : (nodes : List Node) (before frame after list code : ℕ) (first second : Node)
    → before < length nodes → after < length nodes → frame < length nodes → before ≢ frame → after ≢ frame
    → first ≡ get_or nodes before first
    → second
    ≡ get_or (set nodes before (record { next = frame; prev = first.prev; list = first.list })) after second
    → list_of_code code ≡ Some list
    → Inserts (table nodes) (table (set
    (set (set nodes before (record { next = frame; prev = first.prev; list = first.list })) after
    (record { next = second.next; prev = frame; list = second.list }))
    frame (record { next = after; prev = before; list = code }))) list before frame after
unfolding table
written_inserts nodes before frame after list code first second in_b in_a in_f bf af read_first
    read_second is =
    record {
      next_before = grind (arith, get_or-set_same, get_or-set_other, get_or_default, length-set);
      next_frame = grind (arith, get_or-set_same, get_or-set_other, get_or_default, length-set);
      next_same = λ x b f. grind (arith, get_or-set_same, get_or-set_other, get_or_default, length-set);
      prev_after = grind (arith, get_or-set_same, get_or-set_other, get_or_default, length-set);
      prev_frame = grind (arith, get_or-set_same, get_or-set_other, get_or_default, length-set);
      prev_same = λ x b f. grind (arith, get_or-set_same, get_or-set_other, get_or_default, length-set);
      list_frame = grind (arith, get_or-set_same, get_or-set_other, get_or_default, length-set);
      list_same = λ x f. grind (arith, get_or-set_same, get_or-set_other, get_or_default, length-set);
    }

-- the three writes of a removal
pub written_removes : (nodes : List Node) (before frame after : ℕ) (first second : Node)
    → before < length nodes → after < length nodes → frame < length nodes → before ≢ frame → after ≢ frame
    → first ≡ get_or nodes before first
    → second
    ≡ get_or (set nodes before (record { next = after; prev = first.prev; list = first.list })) after second
    → Removes (table nodes)
    (table (set (set (set nodes before (record { next = after; prev = first.prev; list = first.list }))
    after (record { next = second.next; prev = before; list = second.list })) frame (alone_at frame)))
    before frame after
unfolding table
written_removes nodes before frame after first second in_b in_a in_f bf af read_first read_second = record {
  next_before = grind (arith, get_or-set_same, get_or-set_other, get_or_default, length-set);
  next_same = λ x b f. grind (arith, get_or-set_same, get_or-set_other, get_or_default, length-set);
  prev_after = grind (arith, get_or-set_same, get_or-set_other, get_or_default, length-set);
  prev_same = λ x b f. grind (arith, get_or-set_same, get_or-set_other, get_or_default, length-set);
  list_frame = grind (arith, get_or-set_same, get_or-set_other, get_or_default, length-set);
  list_same = λ x f. grind (arith, get_or-set_same, get_or-set_other, get_or_default, length-set);
}

-- a new table
pub new_alone : (n : ℕ) → IsAlone (table (map alone_at (range_with_len 0 n))) n
unfolding table
new_alone n =
    let at = λ (i : ℕ) (lt : i < n). get_or-map-range_with_len alone_at 0 n i i
    (record { next = 0; prev = 0; list = 0 }) lt (omega arith) in
    record {
      next = λ i lt. ap (λ (x : Node). x.next) (at i lt);
      prev = λ i lt. ap (λ (x : Node). x.prev) (at i lt);
      list = λ i lt. ap (λ (x : Node). list_of_code x.list) (at i lt);
    }
