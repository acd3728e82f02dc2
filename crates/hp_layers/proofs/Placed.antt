-- What the layers' calls need of the state, in a well placed one.
use Rattle.std.proofs.Common.{◌≡◌, ℕ, ◌+◌, ◌^◌, ◌<◌, ◌≤◌, Some, sym, subst, arith}
use Rattle.hp_units.specs.LayoutParts.{LayoutParts}
use Rattle.hp_units.specs.Arithmetic.{frame_count}
use Rattle.hp_units.specs.Memory.{kernel_order}
use Rattle.hp_units.specs.Pages.{frame_at}
use Rattle.hp_units.proofs.Placed.{IsInUse, kernel-in_use, page-in_use}
use Rattle.hp_buddy.proofs.CpuPlaced.{placed-together}
use Rattle.hp_layers.specs.declared.layers.Layers.{Layers}
use Rattle.hp_layers.specs.Frames.{IsTidy, MayReturn}
use Rattle.hp_layers.specs.Layers.{ArePlaced, state_of}

-- the free areas and the processors' lists are of one layout, and no frame is in two of their
-- places
pub tidy-placed : (m : Layers) → ArePlaced m → IsTidy m.frames
tidy-placed m p = rw (p.one.cpus, p.one.buddy) (placed-together m.layout (state_of m) p.one.layout p.placed)

-- ---- blocks that come back

-- a block in use
used-returns : (m : Layers) (order first : ℕ) → ArePlaced m → IsInUse m.layout (state_of m) order first
    → MayReturn m.frames order first
used-returns m order first p used = record {
  in_order = subst (λ (k : LayoutParts). order ≤ k.order) (sym p.one.cpus) used.in_order;
  aligned = used.aligned;
  within = subst (λ (k : LayoutParts). first + 2 ^ order ≤ frame_count k) (sym p.one.cpus) used.within;
  nowhere = used.nowhere;
}

-- a kernel's block
pub kernel-returns : (m : Layers) (first order : ℕ) → ArePlaced m
    → kernel_order (state_of m) first ≡ Some order → MayReturn m.frames order first
kernel-returns m first order p is =
    used-returns m order first p (kernel-in_use m.layout (state_of m) first order p.one.layout p.placed is)

-- a page's frame
pub page-returns : (m : Layers) (owner page frame : ℕ) → ArePlaced m
    → frame_at (state_of m).pages owner page ≡ Some frame → MayReturn m.frames 0 frame
page-returns m owner page frame p is =
    used-returns m 0 frame p (page-in_use m.layout (state_of m) owner page frame p.one.layout p.placed is)

-- a page's frame lies in the layout
pub page-inside : (m : Layers) (owner page frame : ℕ) → ArePlaced m
    → frame_at (state_of m).pages owner page ≡ Some frame → frame < frame_count m.layout
page-inside m owner page frame p is =
    rw (← p.one.cpus) (let within = (page-returns m owner page frame p is).within in omega (arith, within))
