-- Steps that leave the rows of the blocks.
use Rattle.std.proofs.Common.{◌≡◌, ℕ, zero, suc, Option, Some, None, refl}
use Rattle.std.specs.Option.{option_map_or}
use Rattle.hp_units.specs.LayoutParts.{LayoutParts}
use Rattle.hp_units.specs.Memory.{Memory}
use Rattle.hp_units.specs.Pages.{frame_at, unmap_page}
use Rattle.hp_units.specs.Step.{Answered, done, give_back, kernel_gives, kernel_takes, map_step, unmap_step, with_pages}

-- whether there is what the event asks for or not
pub answered-blocks : {X : Type 0} (f : X → Answered) (s : Memory) (o : Option X)
    → ((x : X) → (f x).memory.blocks ≡ s.blocks) → (option_map_or f o (done s)).memory.blocks ≡ s.blocks
answered-blocks f s None h = refl
answered-blocks f s (Some x) h = h x

-- a block of frames comes back
pub give_back-blocks : (l : LayoutParts) (s : Memory) (cpu frame order : ℕ)
    → (give_back l s cpu frame order).blocks ≡ s.blocks
give_back-blocks l s cpu frame zero = refl
give_back-blocks l s cpu frame (suc below) = refl

-- the kernel takes a block
pub kernel_takes-blocks : (l : LayoutParts) (s : Memory) (cpu order : ℕ)
    → (kernel_takes l s cpu order).memory.blocks ≡ s.blocks
unfolding kernel_takes
kernel_takes-blocks l s cpu order = answered-blocks _ s _ (λ handed. refl)

-- the kernel gives one back
pub kernel_gives-blocks : (l : LayoutParts) (s : Memory) (cpu frame : ℕ)
    → (kernel_gives l s cpu frame).memory.blocks ≡ s.blocks
unfolding kernel_gives
kernel_gives-blocks l s cpu frame = answered-blocks _ s _ (give_back-blocks l _ cpu frame)

-- a page is mapped
pub map_step-blocks : (l : LayoutParts) (s : Memory) (cpu owner page : ℕ)
    → (map_step l s cpu owner page).memory.blocks ≡ s.blocks
unfolding map_step
map_step-blocks l s cpu owner page = answered-blocks _ s _ (λ handed. refl)

-- a page is unmapped
pub unmap_step-blocks : (l : LayoutParts) (s : Memory) (cpu owner page : ℕ)
    → (unmap_step l s cpu owner page).memory.blocks ≡ s.blocks
unfolding unmap_step
unmap_step-blocks l s cpu owner page =
    answered-blocks _ s (frame_at s.pages owner page)
    (λ frame. give_back-blocks l (with_pages s (unmap_page s.pages owner page)) cpu frame 0)
