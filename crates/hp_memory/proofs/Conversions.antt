-- Images with one part changed.
use Rattle.std.proofs.Common.{ℕ, ◌≡◌, ◌+◌, ◌*◌, ◌<◌, ◌≤◌, List, Option, true, length, get_or, set, take, arith}
use Rattle.hp_units.specs.declared.rows.Class.{Class}
use Rattle.hp_units.specs.declared.rows.Kind.{Kind}
use Rattle.hp_units.specs.declared.rows.Pool.{Pool}
use Rattle.hp_units.specs.declared.rows.Row.{Row}
use Rattle.hp_units.specs.LayoutParts.{LayoutParts}
use Rattle.hp_units.specs.Arithmetic.{IsFrame}
use Rattle.hp_units.specs.InLayout.{AreFreeAreasOf}
use Rattle.hp_units.specs.Memory.{FreeAreas, Pages, class_index, free_list, pool_index}
use Rattle.hp_units.specs.FreeAreas.{is_on}
use Rattle.hp_units.specs.Rows.{with_areas}
use Rattle.hp_units.proofs.Places.{class_index-lt}
use Rattle.hp_units.proofs.Pools.{pool_index-lt}
use Rattle.hp_buddy.specs.Cpus.{CpusValue, list_of}
use Rattle.hp_plain.specs.Image.{IsPartOf, Pictured, with_part}
use Rattle.hp_plain.specs.declared.parts.Part.{Part}
use Rattle.hp_plain.specs.declared.parts.Part.TheVariants.{Free, Cached}
use Rattle.hp_memory.proofs.FilledLists.{appended-more, item-on}

-- ---- an Image with other parts

abbrev pub with_rows : Pictured → List Row → Pictured
with_rows i rows = record i { memory = record i.memory { blocks = record i.memory.blocks { rows = rows } } }

abbrev pub with_lists : Pictured → List (List ℕ) → Pictured
with_lists i lists = record i { memory = with_areas i.memory (record i.memory.free.areas { lists = lists }) }

abbrev pub with_kinds : Pictured → List Kind → Pictured
with_kinds i kinds = record i { memory = with_areas i.memory (record i.memory.free.areas { kinds = kinds }) }

abbrev pub with_cached : Pictured → List (List ℕ) → Pictured
with_cached i lists = record i { memory = record i.memory { free = record i.memory.free { cached = lists } } }

abbrev pub with_pages : Pictured → Pages → Pictured
with_pages i pages = record i { memory = record i.memory { pages = pages } }

abbrev pub with_kernel : Pictured → List (Option ℕ) → Pictured
with_kernel i kernel = record i { memory = record i.memory { kernel = kernel } }

abbrev pub with_one : Pictured → Part → Pictured
with_one i part = record i { memory = with_part i.memory part }

-- pages that change in an Image that is otherwise the same
pub pages-kept : {now new : Pictured} (i : Pictured) (pages : Pages) → now ≡ with_pages i now.memory.pages
    → new ≡ with_pages now pages → new ≡ with_pages i new.memory.pages
pages-kept i pages same e = grind arith

-- and kinds
pub kinds-kept : {now new : Pictured} (i : Pictured) (kinds : List Kind)
    → now ≡ with_kinds i now.memory.free.areas.kinds
    → new ≡ with_kinds now kinds → new ≡ with_kinds i new.memory.free.areas.kinds
kinds-kept i kinds same e = grind arith

-- ---- lists that get one frame more

-- a free block is a part of the layout
pub free-part : {l k : LayoutParts} {a : FreeAreas} {frame : ℕ} {xs : List ℕ} (class : Class)
    (order number : ℕ)
    → AreFreeAreasOf l a → k ≡ l → order ≤ l.order → xs ≡ free_list a class order → number < length xs
    → frame ≡ get_or xs number frame → IsPartOf k (Free class order frame)
free-part {a = a} {frame = frame} {xs = xs} class order number within same in_order is low e =
    rw same (in_order, within.free class order frame (item-on number is low e))

pub free-added : {now new : Pictured} {frame : ℕ} (i : Pictured) (class : Class) (order number : ℕ)
    (xs : List ℕ)
    → 5 * order + 5 ≤ length i.memory.free.areas.lists → number < length xs → frame ≡ get_or xs number frame
    → now ≡ with_lists i (set i.memory.free.areas.lists (5 * order + class_index class) (take number xs))
    → new ≡ with_one now (Free class order frame)
    → new
    ≡ with_lists i (set i.memory.free.areas.lists (5 * order + class_index class) (take (number + 1) xs))
free-added {frame = frame} i class order number xs has low is same e =
    grind (arith, appended-more, class_index-lt)

-- a single frame too
pub cached-part : {l k : LayoutParts} {frame : ℕ} {xs : List ℕ} (c : CpusValue) (cpu : ℕ) (pool : Pool)
    (number : ℕ)
    → ((other : ℕ) (among : Pool) (f : ℕ) → is_on f (list_of c other among) ≡ true → IsFrame l f) → k ≡ l
    → cpu < l.cpus → xs ≡ list_of c cpu pool → number < length xs
    → frame ≡ get_or xs number frame → IsPartOf k (Cached cpu pool frame)
cached-part {frame = frame} {xs = xs} c cpu pool number within same in_cpus is low e =
    rw same (in_cpus, within cpu pool frame (item-on number is low e))

pub cached-added : {now new : Pictured} {frame : ℕ} (i : Pictured) (cpu : ℕ) (pool : Pool) (number : ℕ)
    (xs : List ℕ)
    → 3 * cpu + 3 ≤ length i.memory.free.cached → number < length xs → frame ≡ get_or xs number frame
    → now ≡ with_cached i (set i.memory.free.cached (3 * cpu + pool_index pool) (take number xs))
    → new ≡ with_one now (Cached cpu pool frame)
    → new ≡ with_cached i (set i.memory.free.cached (3 * cpu + pool_index pool) (take (number + 1) xs))
cached-added {frame = frame} i cpu pool number xs has low is same e =
    grind (arith, appended-more, pool_index-lt)
