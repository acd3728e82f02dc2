use Rattle.hp_plain.proofs.blocks.Blocks.empty.Goals as goal

pub returns : goal.returns
returns c = rw ((c.in_ok-rows.ensures.items_if_clones_equal (λ y e. e)), c.blocks-2.ensures.is)
