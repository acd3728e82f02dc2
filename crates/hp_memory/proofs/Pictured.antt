-- What the parts of placed layers are, and that none of them is copied into an empty Image yet.
use Rattle.std.proofs.Common.{◌≡◌, ℕ, ◌+◌, ◌*◌, ◌≤◌, List, [], Option, None, IfSome, true, length, get_or, replicate, ap}
use Rattle.hp_units.specs.declared.rows.Kind.{Kind}
use Rattle.hp_units.specs.declared.rows.Pool.{Pool}
use Rattle.hp_units.specs.declared.rows.Row.{Row}
use Rattle.hp_units.specs.LayoutParts.{LayoutParts}
use Rattle.hp_units.specs.Arithmetic.{IsFrame, frame_count, pageblock_count}
use Rattle.hp_units.specs.FreeAreas.{is_on}
use Rattle.hp_units.specs.InLayout.{AreBlocksOf, AreFreeAreasOf}
use Rattle.hp_units.specs.Memory.{offline_row, plain_kind}
use Rattle.hp_tape.specs.Deltas.{FrameView}
use Rattle.hp_laws.proofs.Fitting.{placed-fits}
use Rattle.hp_buddy.specs.Cpus.{list_of}
use Rattle.hp_pages.specs.Pages.{ArePageFramesOf, pages_of}
use Rattle.hp_pages.proofs.Views.{are_page_frames}
use Rattle.hp_memory.specs.Tables.{AreCopied}
use Rattle.hp_memory.proofs.Tables.{copied-none}
use Rattle.hp_layers.specs.declared.layers.Layers.{Layers}
use Rattle.hp_layers.specs.Layers.{ArePlaced, state_of}

pub areas-within : (m : Layers) → ArePlaced m → AreFreeAreasOf m.frames.buddy.layout m.frames.buddy.areas
areas-within m p = rw p.one.buddy (placed-fits m.layout (state_of m) p.one.layout p.placed).free.areas

pub lists-none : (m : Layers) (lists : List (List ℕ)) → ArePlaced m
    → lists ≡ replicate (5 * (m.layout.order + 1)) [] → AreCopied [] [] 0 m.frames.buddy.areas.lists lists
lists-none m lists p e = copied-none [] [] _ _ lists e p.placed.in_order.shape.lists

pub kinds-none : (m : Layers) (kinds : List Kind) → ArePlaced m
    → kinds ≡ replicate (pageblock_count m.layout) plain_kind
    → AreCopied plain_kind plain_kind 0 m.frames.buddy.areas.kinds kinds
kinds-none m kinds p e = copied-none plain_kind plain_kind _ _ kinds e p.placed.in_order.shape.kinds

pub cpus-within : (m : Layers) → ArePlaced m → (cpu : ℕ) (pool : Pool) (frame : ℕ)
    → is_on frame (list_of m.frames.cpus cpu pool) ≡ true → IsFrame m.frames.cpus.layout frame
cpus-within m p cpu pool frame on =
    rw p.one.cpus ((placed-fits m.layout (state_of m) p.one.layout p.placed).free.cached cpu pool frame on)

pub cpus-size : (m : Layers) → ArePlaced m → length m.frames.cpus.cached ≡ 3 * m.frames.cpus.layout.cpus
cpus-size m p = rw p.one.cpus p.placed.in_order.shape.cached

pub cached-none : (m : Layers) (lists : List (List ℕ)) → ArePlaced m
    → lists ≡ replicate (3 * m.layout.cpus) [] → AreCopied [] [] 0 m.frames.cpus.cached lists
cached-none m lists p e = copied-none [] [] _ _ lists e p.placed.in_order.shape.cached

pub pages-within : (m : Layers) → ArePlaced m → ArePageFramesOf m.pages.layout m.pages.pages
pages-within m p =
    let fits = (placed-fits m.layout (state_of m) p.one.layout p.placed).pages in
    rw (p.one.pages, ap (λ (v : FrameView). v.pages) p.view)
    (are_page_frames m.layout (state_of m).pages fits)

pub table-none : (m : Layers) (table : List (List (Option ℕ))) → ArePlaced m
    → table ≡ replicate m.layout.owners (replicate m.layout.pages None)
    → AreCopied [] (replicate m.pages.layout.pages None) 0 m.pages.pages.table table
table-none m table p e =
    rw p.one.pages
    (copied-none [] (replicate m.layout.pages None) _ _ table e p.placed.in_order.shape.owners)

pub contents-none : (m : Layers) (contents : List (List (Option (List ℕ)))) → ArePlaced m
    → contents ≡ replicate m.layout.owners (replicate m.layout.pages None)
    → AreCopied [] (replicate m.pages.layout.pages None) 0 (pages_of m.pages.layout m.pages.pages).contents
    contents
contents-none m contents p e =
    rw p.one.pages
    (copied-none [] (replicate m.layout.pages None) _ _ contents e p.placed.in_order.shape.content_owners)

pub kernel-size : (m : Layers) (k : LayoutParts) → ArePlaced m → k ≡ m.layout
    → length m.kernel ≡ frame_count k
kernel-size m k p same = rw same p.one.kernel

pub kernel-orders : (m : Layers) (k : LayoutParts) → ArePlaced m → k ≡ m.layout → (first : ℕ)
    → IfSome (get_or m.kernel first None) (λ order. order ≤ k.order)
kernel-orders m k p same first =
    rw same ((placed-fits m.layout (state_of m) p.one.layout p.placed).kernel.orders first)

pub kernel-none : (m : Layers) (kernel : List (Option ℕ)) → ArePlaced m
    → kernel ≡ replicate (frame_count m.layout) None → AreCopied None None 0 m.kernel kernel
kernel-none m kernel p e = copied-none None None _ _ kernel e p.placed.in_order.shape.kernel

pub blocks-within : (m : Layers) → ArePlaced m → AreBlocksOf m.blocks.layout m.blocks.blocks
blocks-within m p = record { rows = rw p.one.blocks p.placed.in_order.shape.rows }

pub rows-none : (m : Layers) (rows : List Row) → ArePlaced m → rows ≡ replicate m.layout.blocks offline_row
    → AreCopied offline_row offline_row 0 m.blocks.blocks.rows rows
rows-none m rows p e = copied-none offline_row offline_row _ _ rows e p.placed.in_order.shape.rows
