-- The kernel's blocks: the lowest frame where one starts, and what changing their table notes.
use Rattle.std.proofs.Common.{◌≡◌, ℕ, ◌+◌, ◌*◌, ◌/◌, ◌%◌, ◌<◌, ◌≤◌, ◌==◌, Bool, List, [], ◌∷◌, ◌++◌, length, Option, None, replicate, set, get_or, sym, subst, ap, ◌∙◌, arith}
use Rattle.std.specs.Prelude.{find, is_some}
use Rattle.std.specs.List.{range_with_len}
use Rattle.std.specs.Int.{bit_at}
use Rattle.std.proofs.lemmas.List.{length-replicate, set-set, set-get_or}
use Rattle.std.proofs.lemmas.Nat.Bits.{bit_at-zero}
use Rattle.hp_units.specs.LayoutParts.{LayoutParts}
use Rattle.hp_units.specs.Arithmetic.{IsFrame}
use Rattle.hp_units.proofs.Lists.{at_replicate}
use Rattle.hp_tape.specs.declared.deltas.Delta.{Delta}
use Rattle.hp_tape.specs.declared.deltas.Delta.TheVariants.{Kernel as KernelDelta}
use Rattle.hp_tape.specs.Tapes.{TapeValue}
use Rattle.hp_units.proofs.Tables.{get_set}
use Rattle.hp_pages.specs.FrameSets.{FindsLowest, has}
use Rattle.hp_pages.proofs.FrameSets.{finds_same, found_is}
use Rattle.hp_pages.specs.Kernel.{AreStartsOf, NotesKernel}

-- where no block starts the set is of zeros
pub no_starts : (frames words : ℕ) → frames ≤ 64 * words
    → AreStartsOf (replicate frames None) (replicate words 0)
no_starts frames words within = record {
  room =
      omega
      (arith, length-replicate {A = Option ℕ} frames None, length-replicate {A = ℕ} words 0, within);
  each =
      λ frame below.
      ap (λ (word : ℕ). bit_at word (frame % 64) == 1) (at_replicate words (frame / 64) 0)
      ∙ ap (λ (bit : ℕ). bit == 1) (bit_at-zero (frame % 64))
      ∙ sym (ap (λ (order : Option ℕ). is_some order) (at_replicate frames frame None));
}

-- the lowest frame of the set is the lowest where a block starts
pub lowest_start : (orders : List (Option ℕ)) (starts : List ℕ) (first count : ℕ) (found : Option ℕ)
    → AreStartsOf orders starts → first + count ≤ length orders
    → FindsLowest (has starts) first (first + count) found
    → found ≡ find (λ frame. is_some (get_or orders frame None)) (range_with_len first count)
lowest_start orders starts first count found are within finds =
    let p : ℕ → Bool = λ frame. is_some (get_or orders frame None) in
    found_is p first count found
    (finds_same (has starts) p first (first + count) found
    (λ n high. are.each n (omega (arith, high, within))) finds)

-- an order was set
pub notes-order : (l : LayoutParts) (kernel : List (Option ℕ)) (frame : ℕ) (order : Option ℕ)
    (was now : TapeValue)
    → frame < length kernel → IsFrame l frame
    → now.room ≡ was.room → now.deltas ≡ was.deltas ++ KernelDelta frame (get_or kernel frame None) order ∷ []
    → NotesKernel l 1 was now (set kernel frame order) kernel
notes-order l kernel frame order was now lt in_frames room noted = record {
  deltas = KernelDelta frame (get_or kernel frame None) order ∷ [];
  tape =
      ap (λ (r : ℕ). record now { room = r }) room
      ∙ ap (λ (ds : List Delta). record { room = was.room; deltas = ds }) noted;
  few = omega arith;
  own = (tt, tt);
  numbers = (in_frames, tt);
  lead = record {
    fit = (tt, get_set kernel frame order lt);
    back = set-set kernel frame order (get_or kernel frame None) ∙ set-get_or kernel frame None;
  };
}

-- the same of a table that it became
pub notes-set : (l : LayoutParts) (kernel later : List (Option ℕ)) (frame : ℕ) (old order : Option ℕ)
    (was now : TapeValue)
    → later ≡ set kernel frame order → old ≡ get_or kernel frame None
    → frame < length kernel → IsFrame l frame → now.room ≡ was.room
    → now.deltas ≡ was.deltas ++ KernelDelta frame old order ∷ []
    → NotesKernel l 1 was now later kernel
notes-set l kernel later frame old order was now same read lt in_frames room noted =
    subst (λ (ks : List (Option ℕ)). NotesKernel l 1 was now ks kernel) (sym same)
    (notes-order l kernel frame order was now lt in_frames room
    (noted ∙ ap (λ (o : Option ℕ). was.deltas ++ KernelDelta frame o order ∷ []) read))
