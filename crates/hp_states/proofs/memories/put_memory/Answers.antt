use Rattle.std.proofs.Common.{◌∙◌, ap}
use Rattle.hp_laws.specs.Numberings.{number_of}
use Rattle.hp_laws.specs.Renumbered.{renumbered}
use Rattle.hp_states.specs.Parts.{auto_number}
use Rattle.hp_states.proofs.Parts.{written}
use Rattle.hp_states.proofs.memories.put_memory.Goals as goal

pub returns : goal.returns
returns c =
    written c.args.memory.now.layout
    (renumbered (number_of c.args.fixed c.args.latest.now) c.args.memory.now.state) _ _ _ _ _ _ _ _ _
    (rw (c.links.ensures, c.buddy.ensures) at c.in_ok-put_lists.ensures)
    (rw (c.kinds.ensures, c.buddy-2.ensures, c.is_placed.ensures.placed.in_order.shape.kinds) at
    c.in_ok-put_kinds.ensures)
    (rw (c.links-2.ensures, c.cpus.ensures) at c.in_ok-put_lists-2.ensures)
    c.in_ok-put_pages.ensures (rw (← c.kernel.ensures) c.in_ok-put_kernel.ensures) c.in_ok-put_rows.ensures
    c.in_ok-byte.ensures (c.auto_number.ensures ∙ ap auto_number c.auto.ensures)
