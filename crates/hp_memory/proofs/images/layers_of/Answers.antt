use Rattle.std.proofs.Common.{◌∙◌}
use Rattle.hp_memory.proofs.Loaded.{loaded-led, short-orders}
use Rattle.hp_memory.proofs.images.layers_of.Goals as goal

pub kernel_of-requires-clause-small : goal.kernel_of-requires-clause-small
kernel_of-requires-clause-small c =
    short-orders c.args.image.now.layout c.args.image.now.memory c.keeps_limits.ensures c.requires.placed

pub returns-clause-placed : goal.returns-clause-placed
returns-clause-placed c =
    (loaded-led c.args.image.now.layout c.in_ok-copy.field-0 c.args.image.now.memory c.in_ok-buddy.buddy
    c.in_ok-cpus.cpus c.in_ok-pages.pages c.in_ok-kernel.kernel c.in_ok-blocks.blocks
    c.keeps_limits.ensures c.requires.placed (c.in_ok-copy.ensures ∙ c.layout.ensures) c.in_ok-buddy.ensures
    c.in_ok-cpus.ensures c.in_ok-pages.ensures c.in_ok-kernel.ensures c.in_ok-blocks.ensures).0

pub returns-clause-state : goal.returns-clause-state
returns-clause-state c =
    (loaded-led c.args.image.now.layout c.in_ok-copy.field-0 c.args.image.now.memory c.in_ok-buddy.buddy
    c.in_ok-cpus.cpus c.in_ok-pages.pages c.in_ok-kernel.kernel c.in_ok-blocks.blocks
    c.keeps_limits.ensures c.requires.placed (c.in_ok-copy.ensures ∙ c.layout.ensures) c.in_ok-buddy.ensures
    c.in_ok-cpus.ensures c.in_ok-pages.ensures c.in_ok-kernel.ensures c.in_ok-blocks.ensures).1
