use Rattle.std.proofs.Common.{◌≡◌, ◌∙◌, ap, length, sym}
use Rattle.hp_units.specs.Arithmetic.{frame_count}
use Rattle.hp_units.specs.LayoutParts.{LayoutParts}
use Rattle.hp_map.proofs.PlacesTogether.{places_are}
use Rattle.hp_map.proofs.map.places_of.Goals as goal

pub returns : goal.returns
returns c =
    let size : length c.in_ok-places.places.items ≡ frame_count c.args.machine.now.layout =
    sym c.in_ok-places.places.ok.0 ∙ (c.in_ok-places.ensures.len
    ∙ (c.frames.ensures.is ∙ ap (λ (l : LayoutParts). frame_count l) c.layout.ensures)) in
    places_are c.args.machine.now.layout c.args.machine.now.state _ _ _ _ _ c.stays_sound.ensures.placed size
    c.mark_unused.ensures c.in_ok-mark_cpus.ensures c.mark_owners.ensures c.mark_kernel.ensures
