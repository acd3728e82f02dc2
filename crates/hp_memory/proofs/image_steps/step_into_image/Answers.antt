use Rattle.std.proofs.Common.{◌∙◌, ap}
use Rattle.hp_units.specs.LayoutParts.{LayoutParts}
use Rattle.hp_units.specs.Memory.{Memory}
use Rattle.hp_plain.specs.Image.{Pictured}
use Rattle.hp_memory.proofs.image_steps.step_into_image.Goals as goal

abbrev image_with : LayoutParts → Memory → Pictured
image_with l state = record { layout = l; memory = state }

pub returns-clause-image : goal.returns-clause-image
returns-clause-image c =
    c.in_ok-image.ensures
    ∙ (ap (λ (l : LayoutParts). image_with l c.step.new.self.state) c.step.ensures.layout
    ∙ ap (image_with c.args.memory.now.layout) c.in_ok-reply.ensures.state)

pub returns-clause-reply : goal.returns-clause-reply
returns-clause-reply c = c.in_ok-reply.ensures.reply
