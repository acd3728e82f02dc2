-- The layers of an Image.
use Rattle.std.proofs.Common.{◌≡◌, ℕ, ◌<◌, ◌≤◌, List, Option, Some, None, IfSome, get_or, refl, arith}
use Rattle.hp_units.specs.LayoutParts.{LayoutParts, IsLayout}
use Rattle.hp_units.specs.Memory.{Memory}
use Rattle.hp_units.specs.Placement.{IsWellPlaced}
use Rattle.hp_tape.specs.Deltas.{page_frames_of}
use Rattle.hp_buddy.specs.Buddy.{BuddyValue}
use Rattle.hp_buddy.specs.Cpus.{CpusValue}
use Rattle.hp_pages.specs.Pages.{PagesValue}
use Rattle.hp_pages.specs.Blocks.{BlocksValue}
use Rattle.hp_laws.proofs.Fitting.{placed-fits}
use Rattle.hp_layers.specs.declared.layers.Layers.{Layers}
use Rattle.hp_layers.specs.Layers.{ArePlaced, state_of}
use Rattle.hp_layers.proofs.States.{are-placed}

-- ---- the kernel's blocks

-- the orders of a well placed state fit into a byte
short_order : (most : ℕ) (order : Option ℕ) → most ≤ 10 → IfSome order (λ n. n ≤ most)
    → IfSome order (λ n. n < 256)
short_order most None small h = tt
short_order most (Some n) small h = omega (arith, small, h)

pub short-orders : (l : LayoutParts) (s : Memory) → IsLayout l → IsWellPlaced l s → (frame : ℕ)
    → IfSome (get_or s.kernel frame None) (λ order. order < 256)
short-orders l s limits placed frame =
    short_order l.order (get_or s.kernel frame None) limits.order
    ((placed-fits l s limits placed).kernel.orders frame)

-- ---- the layers of a state

-- the layers of these parts
abbrev layers : LayoutParts → BuddyValue → CpusValue → PagesValue → List (Option ℕ) → BlocksValue → Layers
layers k b c ps kernel bs =
    record { layout = k; frames = record { buddy = b; cpus = c }; pages = ps; kernel = kernel; blocks = bs }

-- they keep a state
abbrev AreOf : Memory → LayoutParts → BuddyValue → CpusValue → PagesValue → List (Option ℕ) → BlocksValue
    → Type 0
AreOf s k b c ps kernel bs =
    ArePlaced (layers k b c ps kernel bs) × (state_of (layers k b c ps kernel bs) ≡ s)

pub loaded-led : (l k : LayoutParts) (s : Memory) (b : BuddyValue) (c : CpusValue) (ps : PagesValue)
    (kernel : List (Option ℕ)) (bs : BlocksValue)
    → IsLayout l → IsWellPlaced l s → k ≡ l
    → b ≡ record { layout = l; areas = s.free.areas } → c ≡ record { layout = l; cached = s.free.cached }
    → ps ≡ record { layout = l; pages = page_frames_of l s.pages } → kernel ≡ s.kernel
    → bs ≡ record { layout = l; blocks = s.blocks } → AreOf s k b c ps kernel bs
loaded-led l k s b c ps kernel bs layout p k_is b_is c_is ps_is kernel_is bs_is =
    let m =
    layers l (record { layout = l; areas = s.free.areas }) (record { layout = l; cached = s.free.cached })
    (record { layout = l; pages = page_frames_of l s.pages }) s.kernel
    (record { layout = l; blocks = s.blocks }) in
    rw (k_is, b_is, c_is, ps_is, kernel_is, bs_is) (are-placed m m s (record {
      one =
          record {
            layout = layout;
            buddy = refl;
            cpus = refl;
            pages = refl;
            kernel = p.in_order.shape.kernel;
            blocks = refl;
          };
      layout = refl;
      view = refl;
    }) p)
