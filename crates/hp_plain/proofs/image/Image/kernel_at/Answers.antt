use Rattle.std.proofs.Common.{Bor, ℕ, Option, ap}
use Rattle.hp_units.specs.Memory.{kernel_order}
use Rattle.hp_plain.specs.Image.{Pictured}
use Rattle.hp_units.proofs.Lists.{item_read}
use Rattle.hp_plain.proofs.Values.{entry_read}
use Rattle.hp_plain.proofs.image.Image.kernel_at.Goals as goal

pub returns : goal.returns
returns c =
    let kernel = c.deref.result.now in
    rw (c.flatten.ensures, c.copied.ensures)
    (rw (item_read (λ (x : Bor (Option ℕ)). x.now) kernel c.frame.inside.0 c.get.result c.get.ensures.lookup.0
    c.get.ensures.lookup.1) (rw (entry_read kernel c.frame.inside.0, c.frame.view_is, c.deref.ensures.value)
    (ap (λ (i : Pictured). kernel_order i.memory c.args.frame) c.self.view_is)))
