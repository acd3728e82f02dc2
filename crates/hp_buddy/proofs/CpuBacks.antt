-- Undoing one delta, on the processors' lists.
use Rattle.std.proofs.Common.{◌≡◌, ℕ, ◌+◌, ◌*◌, true, Option, sym, ◌∙◌, ap, subst, arith}
use Rattle.std.specs.Option.{ForSome}
use Rattle.std.proofs.lemmas.Bool.{and_parts}
use Rattle.hp_units.specs.declared.rows.Pool.{Pool}
use Rattle.hp_units.specs.LayoutParts.{LayoutParts}
use Rattle.hp_units.specs.Memory.{FreeAreas, pool_index}
use Rattle.hp_units.specs.FreeAreas.{is_on}
use Rattle.hp_tape.specs.declared.deltas.Delta.{Delta}
use Rattle.hp_tape.specs.declared.deltas.Delta.TheVariants.{Link, Unlink}
use Rattle.hp_tape.specs.declared.deltas.ListId.{ListId}
use Rattle.hp_tape.specs.declared.deltas.ListId.TheVariants.{Cpu as CpuList}
use Rattle.hp_tape.specs.Deltas.{FitsCached, IsDeltaOf, cached_undo}
use Rattle.hp_buddy.specs.LinkedLists.{LinkedLists, list_at, with_list, IsOn, with_behind}
use Rattle.hp_buddy.proofs.Linked.{on_contains, put_behind-same}
use Rattle.hp_buddy.proofs.Notes.{IsUnlinked}
use Rattle.hp_buddy.proofs.Backs.{behind-on, after-true}
use Rattle.hp_buddy.specs.Cpus.{CpusValue, frames_of, list_of}
use Rattle.hp_buddy.proofs.CpuEdits.{Seen, cpus_of, unlink-cached}

-- ---- a frame that was put on a list leaves it

-- the frame of a Link that fits is on the delta's list
pub linked-on : (v : CpusValue) (areas : FreeAreas) (delta : Delta) (list : ListId) (cpu : ℕ) (pool : Pool)
    (f : ℕ) (after : Option ℕ)
    → delta ≡ Link list f after → list ≡ CpuList pool cpu
    → FitsCached delta (frames_of areas v) → is_on f (list_of v cpu pool) ≡ true
linked-on v areas delta list cpu pool f after is list_is fits = grind (arith, behind-on)

-- the frame leaves the list
pub link-undone : (v : CpusValue) (l : LayoutParts) (links new : LinkedLists) (delta : Delta) (list : ListId)
    (cpu : ℕ) (pool : Pool) (f : ℕ) (after before : Option ℕ) (given : FreeAreas)
    → Seen v l links → delta ≡ Link list f after → list ≡ CpuList pool cpu
    → FitsCached delta (frames_of given v) → IsDeltaOf v.layout delta → IsUnlinked links new f before
    → (areas : FreeAreas) → frames_of areas (cpus_of l new) ≡ cached_undo delta (frames_of areas v)
link-undone v l links new delta list cpu pool f after before given s is list_is fits numbers u areas =
    subst (λ (w : CpusValue). FitsCached delta (frames_of given w) → IsDeltaOf w.layout delta
    → frames_of areas (cpus_of l new) ≡ cached_undo delta (frames_of areas w)) s.is
    (λ fits numbers.
    ap (λ (w : CpusValue). frames_of areas w)
    (unlink-cached _ _ _ _ _ _ _ s.kept ((subst (λ (d : Delta). IsDeltaOf l d) (is ∙ ap (λ (k : ListId). Link
    k f after) list_is) numbers).0) (linked-on (cpus_of l links) given delta list cpu pool f after is list_is
    fits) u) ∙ ap (λ (d : Delta). cached_undo d (frames_of areas (cpus_of l links))) (sym (is ∙ ap (λ (k :
    ListId). Link k f after) list_is))) fits numbers

-- ---- a frame that left its list comes back

-- the frame that it is put after is on the list
pub unlinked-after : (v : CpusValue) (l : LayoutParts) (links : LinkedLists) (delta : Delta) (list : ListId)
    (cpu : ℕ) (pool : Pool) (f n : ℕ) (after : Option ℕ) (given : FreeAreas)
    → Seen v l links → delta ≡ Unlink list f after → list ≡ CpuList pool cpu
    → FitsCached delta (frames_of given v) → n ≡ 3 * cpu + pool_index pool
    → ForSome after (λ a. IsOn links n a)
unlinked-after v l links delta list cpu pool f n after given s is list_is fits place a e =
    grind (arith, and_parts, on_contains, after-true)

-- the frame comes back
pub unlink-undone : (v : CpusValue) (l : LayoutParts) (links new : LinkedLists) (delta : Delta)
    (list : ListId) (cpu : ℕ) (pool : Pool) (f n : ℕ) (after : Option ℕ)
    → Seen v l links → delta ≡ Unlink list f after → list ≡ CpuList pool cpu → n ≡ 3 * cpu + pool_index pool
    → new ≡ with_list links n (with_behind after f (list_at links n)) → (areas : FreeAreas)
    → frames_of areas (cpus_of l new) ≡ cached_undo delta (frames_of areas v)
unlink-undone v l links new delta list cpu pool f n after s is list_is place relinked areas =
    grind (arith, put_behind-same)
