use Rattle.hp_text.specs.State.{class_lists_text}
use Rattle.std.proofs.Common.{ap, rules}
use Rattle.hp_units.specs.Memory.{free_list}
use Rattle.hp_text.specs.State.{free_line}
use Rattle.hp_text.proofs.Texts.{texts_none, texts_more}
use Rattle.hp_text.proofs.state.write_class.Goals as goal

pub loop-number-init : goal.loop-number-init
loop-number-init c =
    texts_none (λ order.
    free_line c.args.class order (free_list c.args.image.now.memory.free.areas c.args.class order)) _

pub loop-number-preserved : goal.loop-number-preserved
loop-number-preserved c =
    texts_more (λ order. free_line c.args.class order (free_list c.args.image.now.memory.free.areas
    c.args.class
    order)) c.loop-number.number _ _ _ _ c.loop-number.invariant c.in_ok-write_free_list.ensures (ap
    (free_line c.args.class c.loop-number.number) c.list.ensures)

pub returns : goal.returns
unfolding class_lists_text
returns c = search rules
