-- The part of an event for some memory blocks.
use Rattle.std.proofs.Common.{◌≡◌, ◌≢◌, ℕ, ◌^◌, Bool, true, false, ◌||◌, ◌==◌, cond, refl, sym, ◌∙◌, ap, subst, arith}
use Rattle.std.proofs.lemmas.Bool.{and_parts, and_from, and_left, and_right, both_ways, false_from_ne_true, cond_both, cases_eq, ltb-true, lt-ltb, le-ltb, le-leb, lt-leb, leb-true, eq-eqb, ne_eqb, cases_order}
use Rattle.hp_judge.specs.Events.{block_of, is_piece, is_move, lies_within, is_well_formed}
use Rattle.hp_judge.proofs.Pieces.{in_piece}
use Rattle.hp_verdicts.specs.Names.{LogEvent, Alloc, Free, OnlineBegins, OfflineBegins, Move, Other, MachineSize, Zone}
use Rattle.hp_verdicts.specs.Parts.{contains, DoesAlike, NamesAlike, IsPartOf}
use Rattle.hp_verdicts.specs.declared.selection.BlockRange.{BlockRange}

alike : (m : MachineSize) (f : ℕ) (e : LogEvent) → DoesAlike m f e e
alike m f e = record { allocates_is = refl; unmovable_is = refl; frees_is = refl }

named : (m : MachineSize) (b : ℕ) (e : LogEvent) → NamesAlike m b e e
named m b e = record { is_of_is = refl; concerns_is = refl }

turned : (m : MachineSize) (f : ℕ) (e part : LogEvent) → DoesAlike m f e part → DoesAlike m f part e
turned m f e part h = grind arith

turned_names : (m : MachineSize) (b : ℕ) (e part : LogEvent) → NamesAlike m b e part → NamesAlike m b part e
turned_names m b e part h = record { is_of_is = sym h.is_of_is; concerns_is = sym h.concerns_is }

-- an event has to do with one block alone
record LiesIn (m : MachineSize) (k : ℕ) (e : LogEvent) : Type 0 where
  well_formed : is_well_formed m e ≡ true
  frames : (f : ℕ) → block_of m f ≢ k → DoesAlike m f Other e
  blocks : (b : ℕ) → b ≢ k → NamesAlike m b Other e

-- a block of the range is none outside it
apart : (r : BlockRange) (b k : ℕ) → contains r b ≡ false → contains r k ≡ true → b ≢ k
apart r b k out is same = both_ways (contains r k) (subst (λ (n : ℕ). contains r n ≡ false) same out) is

stays : (m : MachineSize) (r : BlockRange) (k : ℕ) (e : LogEvent) → LiesIn m k e → contains r k ≡ true
    → IsPartOf m r e e
stays m r k e h is = grind (arith, alike, apart, named)

left_out : (m : MachineSize) (r : BlockRange) (k : ℕ) (e : LogEvent) → LiesIn m k e → contains r k ≡ false
    → IsPartOf m r e Other
left_out m r k e h out = grind (arith, turned, apart, alike, turned_names, named, both_ways)

part_in : (m : MachineSize) (r : BlockRange) (k : ℕ) (e : LogEvent) → LiesIn m k e
    → IsPartOf m r e (cond (contains r k) e Other)
part_in m r k e h = grind (arith, cond_both, stays, left_out)

-- a frame of another block is not of the piece
not_in_piece : (m : MachineSize) (start order f : ℕ) → is_piece m start order ≡ true
    → block_of m f ≢ block_of m start → lies_within start (2 ^ order) f ≡ false
not_in_piece m start order f is other =
    grind (arith, false_from_ne_true, and_parts, in_piece, leb-true, ltb-true)

other_block : (m : MachineSize) (start b : ℕ) → b ≢ block_of m start → (block_of m start == b) ≡ false
other_block m start b other = ne_eqb (block_of m start) b (λ same. other (sym same))

pub alloc_part : (m : MachineSize) (r : BlockRange) (start order : ℕ) (movable : Bool)
    → is_well_formed m (Alloc start order movable) ≡ true
    → IsPartOf m r (Alloc start order movable)
    (cond (contains r (block_of m start)) (Alloc start order movable) Other)
alloc_part m r start order movable is = grind (arith, part_in, and_right, not_in_piece, other_block)

pub free_part : (m : MachineSize) (r : BlockRange) (start order : ℕ)
    → is_well_formed m (Free start order) ≡ true
    → IsPartOf m r (Free start order) (cond (contains r (block_of m start)) (Free start order) Other)
free_part m r start order is = grind (arith, part_in, and_right, not_in_piece, other_block)

-- an online or an offline of a block, or the end of one
other_name : (b block : ℕ) → b ≢ block → (block == b) ≡ false
other_name b block other = ne_eqb block b (λ same. other (sym same))

pub other_part : (m : MachineSize) (r : BlockRange) → IsPartOf m r Other Other
other_part m r = grind (arith, alike, named)

-- ---- moves

one_frame : (start f : ℕ) → lies_within start (2 ^ 0) f ≡ (f == start)
one_frame start f =
    grind (
      arith,
      cases_eq,
      and_from,
      le-leb,
      lt-ltb,
      eq-eqb,
      cases_order,
      and_left,
      lt-leb,
      ne_eqb,
      and_right,
      le-ltb,
    )

or_none : (x y : Bool) → y ≡ false → x ≡ (x || y)
or_none x y h = grind arith

-- ---- what the arms of a match on an event show

pub alloc_event : (m : MachineSize) (r : BlockRange) (e part : LogEvent) (start order block : ℕ)
    (movable : Bool)
    → e ≡ Alloc start order movable → block ≡ block_of m start → part ≡ cond (contains r block) e Other
    → is_well_formed m e ≡ true → IsPartOf m r e part
alloc_event m r e part start order block movable e_is block_is part_is formed =
    subst (λ (x : LogEvent). IsPartOf m r e x)
    (sym (part_is ∙ ap (λ (b : ℕ). cond (contains r b) e Other) block_is))
    (rw e_is (alloc_part m r start order movable (sym (ap (is_well_formed m) e_is) ∙ formed)))

pub free_event : (m : MachineSize) (r : BlockRange) (e part : LogEvent) (start order block : ℕ)
    → e ≡ Free start order → block ≡ block_of m start → part ≡ cond (contains r block) e Other
    → is_well_formed m e ≡ true → IsPartOf m r e part
free_event m r e part start order block e_is block_is part_is formed =
    subst (λ (x : LogEvent). IsPartOf m r e x)
    (sym (part_is ∙ ap (λ (b : ℕ). cond (contains r b) e Other) block_is))
    (rw e_is (free_part m r start order (sym (ap (is_well_formed m) e_is) ∙ formed)))

pub online_event : (m : MachineSize) (r : BlockRange) (e part : LogEvent) (block : ℕ) (zone : Zone)
    → e ≡ OnlineBegins block zone → part ≡ cond (contains r block) e Other
    → is_well_formed m e ≡ true → IsPartOf m r e part
online_event m r e part block zone e_is part_is formed = grind (arith, part_in, other_name)

pub offline_event : (m : MachineSize) (r : BlockRange) (e part : LogEvent) (block : ℕ)
    → e ≡ OfflineBegins block → part ≡ cond (contains r block) e Other
    → is_well_formed m e ≡ true → IsPartOf m r e part
offline_event m r e part block e_is part_is formed = grind (arith, part_in, other_name)

pub move_event : (m : MachineSize) (r : BlockRange) (e part : LogEvent) (from to : ℕ)
    → e ≡ Move from to → (is_move m from to ≡ true → IsPartOf m r (Move from to) part)
    → is_well_formed m e ≡ true → IsPartOf m r e part
move_event m r e part from to e_is h formed = rw e_is (h (sym (ap (is_well_formed m) e_is) ∙ formed))

pub other_event : (m : MachineSize) (r : BlockRange) (e : LogEvent) → e ≡ Other → IsPartOf m r e Other
other_event m r e e_is = subst (λ (x : LogEvent). IsPartOf m r x Other) (sym e_is) (other_part m r)
