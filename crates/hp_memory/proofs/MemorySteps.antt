-- What a step noted leads back, and the layers after an undo.
use Rattle.std.proofs.Common.{◌≡◌, ℕ, List, drop, length, ◌∙◌, ap}
use Rattle.std.proofs.Math.Seq.{drop-append_seam}
use Rattle.hp_units.specs.LayoutParts.{LayoutParts}
use Rattle.hp_units.specs.Memory.{Memory}
use Rattle.hp_units.specs.Placement.{IsWellPlaced}
use Rattle.hp_tape.specs.declared.deltas.Delta.{Delta}
use Rattle.hp_tape.specs.Deltas.{frame_view_of, undo, undo_all}
use Rattle.hp_layers.specs.declared.layers.Layers.{Layers}
use Rattle.hp_layers.specs.Layers.{AreNoted, AreOfOneLayout, ArePlaced, state_of, view_of}
use Rattle.hp_layers.proofs.States.{are-placed}
use Rattle.hp_memory.specs.Memory.{LeadsBack}

-- what a step noted leads back
pub noted-back : (l : LayoutParts) (most : ℕ) (was now : List Delta) (later earlier : Memory)
    → IsWellPlaced l earlier → AreNoted l most was now (frame_view_of l later) (frame_view_of l earlier)
    → LeadsBack l (drop (length was) now) later earlier
noted-back l most was now later earlier placed n =
    let behind : drop (length was) now ≡ n.deltas =
    ap (λ (ds : List Delta). drop (length was) ds) n.after ∙ drop-append_seam was n.deltas in
    record {
      placed = placed;
      numbers = rw behind n.numbers;
      lead = rw behind n.lead;
    }

-- of a caller that kept how many deltas there were, on what has the same layout
pub step-leads : (l k : LayoutParts) (most mark : ℕ) (was now : List Delta) (later earlier : Memory)
    → IsWellPlaced l earlier → AreNoted l most was now (frame_view_of l later) (frame_view_of l earlier)
    → mark ≡ length was → k ≡ l → LeadsBack k (drop mark now) later earlier
step-leads l k most mark was now later earlier placed n at same =
    rw (same, at) (noted-back l most was now later earlier placed n)

-- the layers after an undo
pub led_back : (m new : Layers) (deltas : List Delta) (s : Memory) → ArePlaced m → AreOfOneLayout new
    → new.layout ≡ m.layout → view_of new ≡ undo_all undo deltas (view_of m)
    → LeadsBack m.layout deltas (state_of m) s → (ArePlaced new) × (state_of new ≡ s)
led_back m new deltas s p one layout undone back =
    are-placed m new s
    (record {
      one = one;
      layout = layout;
      view = undone ∙ (ap (undo_all undo deltas) p.view ∙ back.lead.back);
    })
    back.placed
