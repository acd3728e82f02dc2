-- The numbers in a well placed state are those of its layout.
use Rattle.std.proofs.Common.{◌≡◌, ℕ, ◌≤◌, true, Option, Some, None, IfSome}
use Rattle.hp_units.specs.declared.rows.Pool.{Pool}
use Rattle.hp_units.specs.LayoutParts.{LayoutParts, IsLayout}
use Rattle.hp_units.specs.Arithmetic.{IsFrame}
use Rattle.hp_units.specs.InLayout.{IsMemoryOf}
use Rattle.hp_units.specs.Memory.{Memory, cached_list}
use Rattle.hp_units.specs.FreeAreas.{is_on}
use Rattle.hp_units.specs.Placement.{IsKernelAt, IsWellPlaced}
use Rattle.hp_units.proofs.Placed.{free-within, pages_fit}
use Rattle.hp_laws.proofs.States.{in_layout}
use Rattle.hp_laws.proofs.Drains.{pool_zone}

-- a frame on a processor's list is one of the layout's
cached_fits : (l : LayoutParts) (s : Memory) (cpu : ℕ) (pool : Pool) (frame : ℕ) → IsLayout l
    → IsWellPlaced l s → is_on frame (cached_list s.free cpu pool) ≡ true → IsFrame l frame
cached_fits l s cpu pool frame layout p on =
    let zone = pool_zone _ _ pool (p.in_order.cached cpu pool frame on) in
    in_layout l s frame _ layout p.in_order.shape.rows zone

-- the order of a kernel's block
order_fits : (l : LayoutParts) (s : Memory) (first : ℕ) (order : Option ℕ)
    → IfSome order (IsKernelAt l s.blocks.rows first) → IfSome order (λ order. order ≤ l.order)
order_fits l s first None h = tt
order_fits l s first (Some order) h = h.in_order

-- a well placed state is one that each operation can work on
pub placed-fits : (l : LayoutParts) (s : Memory) → IsLayout l → IsWellPlaced l s → IsMemoryOf l s
placed-fits l s layout p = record {
  free = record {
    areas =
        record {
          lists = p.in_order.shape.lists;
          kinds = p.in_order.shape.kinds;
          free = λ class order first on. free-within l s class order first layout p on;
        };
    lists = p.in_order.shape.cached;
    cached = λ cpu pool frame on. cached_fits l s cpu pool frame layout p on;
  };
  pages = pages_fit l s layout p;
  kernel =
      record {
        frames = p.in_order.shape.kernel;
        orders = λ first. order_fits l s first _ (p.in_order.kernel first);
      };
  blocks = record { rows = p.in_order.shape.rows };
}
