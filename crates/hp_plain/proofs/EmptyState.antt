-- The empty state is within its layout.
use Rattle.std.proofs.Common.{◌≡◌, ℕ, zero, suc, ◌≤◌, List, length, replicate, Option, None, refl, sym, subst, IfSome}
use Rattle.std.specs.List.{AllByRecursion}
use Rattle.std.proofs.lemmas.List.{length-replicate}
use Rattle.hp_units.specs.LayoutParts.{LayoutParts}
use Rattle.hp_units.specs.Arithmetic.{frame_count}
use Rattle.hp_units.specs.Memory.{Memory, entry_of, offline_row}
use Rattle.hp_units.specs.Boot.{empty_pages, empty_blocks}
use Rattle.hp_units.specs.InLayout.{AreFreeFramesOf, ArePagesOf, AreKernelBlocksOf, AreBlocksOf, IsMemoryOf}
use Rattle.hp_units.proofs.Lists.{at_replicate}

-- what holds of a value holds of all its copies
all_replicate : {A : Type 0} (P : A → Type 0) (n : ℕ) (x : A) → P x → AllByRecursion P (replicate n x)
all_replicate P zero x h = tt
all_replicate P (suc n) x h = (h, all_replicate P n x h)

-- no page of an empty table has an entry
no_entry : {A : Type 0} (owners pages owner page : ℕ)
    → entry_of {A = A} (replicate owners (replicate pages None)) owner page ≡ None
no_entry zero pages owner page = refl
no_entry (suc owners) pages zero page = at_replicate pages page None
no_entry (suc owners) pages (suc owner) page = no_entry owners pages owner page

-- the pages of the empty state
pages_of : (l : LayoutParts) → ArePagesOf l (empty_pages l)
pages_of l = record {
  owners = length-replicate l.owners (replicate l.pages None);
  pages =
      all_replicate (λ (row : List (Option ℕ)). length row ≡ l.pages) l.owners (replicate l.pages None)
      (length-replicate l.pages None);
  content_owners = length-replicate l.owners (replicate l.pages None);
  content_pages =
      all_replicate (λ (row : List (Option (List ℕ))). length row ≡ l.pages) l.owners (replicate l.pages None)
      (length-replicate l.pages None);
  mapped =
      λ owner page. rw (no_entry l.owners l.pages owner page) tt;
  words =
      λ owner page. rw (no_entry l.owners l.pages owner page) tt;
}

-- the kernel blocks of the empty state
kernel_of : (l : LayoutParts) → AreKernelBlocksOf l (replicate (frame_count l) None)
kernel_of l = record {
  frames = length-replicate (frame_count l) None;
  orders =
      λ first. subst (λ (o : Option ℕ). IfSome o (λ order. order ≤ l.order))
      (sym (at_replicate (frame_count l) first None)) tt;
}

-- the whole empty state
pub memory_of : (l : LayoutParts) (s : Memory) → AreFreeFramesOf l s.free → s.pages ≡ empty_pages l
    → s.kernel ≡ replicate (frame_count l) None
    → s.blocks ≡ empty_blocks l → IsMemoryOf l s
memory_of l s free pages kernel blocks = record {
  free = free;
  pages = subst (ArePagesOf l) (sym pages) (pages_of l);
  kernel = subst (AreKernelBlocksOf l) (sym kernel) (kernel_of l);
  blocks = subst (AreBlocksOf l) (sym blocks) (record { rows = length-replicate l.blocks offline_row });
}
