use Rattle.std.proofs.Common.{Some, ap}
use Rattle.hp_units.specs.Memory.{with_kernel_order}
use Rattle.hp_plain.specs.Image.{Pictured}
use Rattle.hp_plain.proofs.Values.{image_value}
use Rattle.hp_plain.proofs.image.Image.add_kernel.Goals as goal

pub returns : goal.returns
returns c =
    let old = c.self.inside in
    rw c.frame.view_is (ap (λ (i : Pictured). image_value i.layout
    (with_kernel_order i.memory c.args.frame (Some c.args.order))) c.self.view_is)
