-- Each part of the state in its turn.
use Rattle.std.proofs.Common.{sym, ◌∙◌, ap}
use Rattle.hp_memory.proofs.Pictured.{areas-within, blocks-within, cached-none, contents-none, cpus-size, cpus-within, kernel-none, kernel-orders, kernel-size, kinds-none, lists-none, pages-within, rows-none, table-none}
use Rattle.hp_memory.proofs.images.image_of.Goals as goal
use Rattle.hp_layers.proofs.PageEvents.{settled}

pub put_areas-requires-clause-layout : goal.put_areas-requires-clause-layout
put_areas-requires-clause-layout c = c.in_ok-image.ensures.layout ∙ sym c.requires.placed.one.buddy

pub put_areas-requires-clause-within : goal.put_areas-requires-clause-within
put_areas-requires-clause-within c = areas-within c.args.layers.now c.requires.placed

pub put_areas-requires-clause-lists : goal.put_areas-requires-clause-lists
put_areas-requires-clause-lists c =
    lists-none c.args.layers.now _ c.requires.placed
    (ap (λ s. s.free.areas.lists) c.in_ok-image.ensures.memory)

pub put_areas-requires-clause-kinds : goal.put_areas-requires-clause-kinds
put_areas-requires-clause-kinds c =
    kinds-none c.args.layers.now _ c.requires.placed
    (ap (λ s. s.free.areas.kinds) c.in_ok-image.ensures.memory)

pub put_cpus-requires-clause-layout : goal.put_cpus-requires-clause-layout
put_cpus-requires-clause-layout c =
    rw (c.in_ok-put_areas.ensures, c.in_ok-image.ensures.layout) (sym c.requires.placed.one.cpus)

pub put_cpus-requires-clause-within : goal.put_cpus-requires-clause-within
put_cpus-requires-clause-within c = cpus-within c.args.layers.now c.requires.placed

pub put_cpus-requires-clause-size : goal.put_cpus-requires-clause-size
put_cpus-requires-clause-size c = cpus-size c.args.layers.now c.requires.placed

pub put_cpus-requires-clause-lists : goal.put_cpus-requires-clause-lists
put_cpus-requires-clause-lists c =
    cached-none c.args.layers.now _ c.requires.placed
    (rw (c.in_ok-put_areas.ensures, c.in_ok-image.ensures.memory))

pub put_pages-requires-clause-layout : goal.put_pages-requires-clause-layout
put_pages-requires-clause-layout c =
    rw (c.in_ok-put_cpus.ensures, c.in_ok-put_areas.ensures, c.in_ok-image.ensures.layout)
    (sym c.requires.placed.one.pages)

pub put_pages-requires-clause-pages : goal.put_pages-requires-clause-pages
put_pages-requires-clause-pages c = pages-within c.args.layers.now c.requires.placed

pub put_pages-requires-clause-settled : goal.put_pages-requires-clause-settled
put_pages-requires-clause-settled c = settled c.args.layers.now c.requires.placed

pub put_pages-requires-clause-table : goal.put_pages-requires-clause-table
put_pages-requires-clause-table c =
    table-none c.args.layers.now _ c.requires.placed
    (rw (c.in_ok-put_cpus.ensures, c.in_ok-put_areas.ensures, c.in_ok-image.ensures.memory))

pub put_pages-requires-clause-contents : goal.put_pages-requires-clause-contents
put_pages-requires-clause-contents c =
    contents-none c.args.layers.now _ c.requires.placed
    (rw (c.in_ok-put_cpus.ensures, c.in_ok-put_areas.ensures, c.in_ok-image.ensures.memory))

pub put_kernel-requires-clause-size : goal.put_kernel-requires-clause-size
put_kernel-requires-clause-size c =
    kernel-size c.args.layers.now c.put_pages.new.image.layout c.requires.placed
    (rw (c.in_ok-put_pages.ensures, c.in_ok-put_cpus.ensures)
    (rw (c.in_ok-put_areas.ensures, c.in_ok-image.ensures.layout)))

pub put_kernel-requires-clause-orders : goal.put_kernel-requires-clause-orders
put_kernel-requires-clause-orders c =
    kernel-orders c.args.layers.now c.put_pages.new.image.layout c.requires.placed
    (rw (c.in_ok-put_pages.ensures, c.in_ok-put_cpus.ensures)
    (rw (c.in_ok-put_areas.ensures, c.in_ok-image.ensures.layout)))

pub put_kernel-requires-clause-none : goal.put_kernel-requires-clause-none
put_kernel-requires-clause-none c =
    kernel-none c.args.layers.now _ c.requires.placed
    (rw (c.in_ok-put_pages.ensures, c.in_ok-put_cpus.ensures)
    (rw (c.in_ok-put_areas.ensures, c.in_ok-image.ensures.memory)))

pub put_blocks-requires-clause-layout : goal.put_blocks-requires-clause-layout
put_blocks-requires-clause-layout c =
    rw (c.in_ok-put_kernel.ensures, c.in_ok-put_pages.ensures, c.in_ok-put_cpus.ensures)
    (rw (c.in_ok-put_areas.ensures, c.in_ok-image.ensures.layout) (sym c.requires.placed.one.blocks))

pub put_blocks-requires-clause-rows : goal.put_blocks-requires-clause-rows
put_blocks-requires-clause-rows c = blocks-within c.args.layers.now c.requires.placed

pub put_blocks-requires-clause-none : goal.put_blocks-requires-clause-none
put_blocks-requires-clause-none c =
    rows-none c.args.layers.now _ c.requires.placed
    (rw (c.in_ok-put_kernel.ensures, c.in_ok-put_pages.ensures, c.in_ok-put_cpus.ensures)
    (rw (c.in_ok-put_areas.ensures, c.in_ok-image.ensures.memory)))

pub returns : goal.returns
returns c =
    rw (c.in_ok-put_blocks.ensures, c.in_ok-put_kernel.ensures, c.in_ok-put_pages.ensures)
    (rw (c.in_ok-put_cpus.ensures, c.in_ok-put_areas.ensures, c.in_ok-image.ensures.layout)
    (rw c.requires.placed.one.pages))
