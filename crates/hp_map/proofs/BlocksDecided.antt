-- The `==` of lists of blocks is true exactly for equal lists.
use Rattle.std.proofs.Common.{◌≡◌, List, rules}
use Rattle.std.specs.Prelude.{IsTrue, ◌↔◌}
use Rattle.std.specs.Bool.{Decides}
use Rattle.std.specs.Cmp.Lexicographic.{pointwise, pointwise_decides}
use Rattle.hp_map.specs.declared.block_picture.FreeBlock.{FreeBlock}
use Rattle.hp_map.specs.declared.block_picture.KernelBlock.{KernelBlock}
use Rattle.hp_map.specs.contracts.block_picture.FreeBlockPartialEq.TheImpl as free
use Rattle.hp_map.specs.contracts.block_picture.KernelBlockPartialEq.TheImpl as kernel

free_decided : (x y : FreeBlock) → Decides (free.ghosts.eq x y) (x ≡ y)
free_decided x y = search rules

pub free_equal : (x y : List FreeBlock) → IsTrue (pointwise free.ghosts.eq x y) ↔ (x ≡ y)
free_equal x y = pointwise_decides free_decided x y

kernel_decided : (x y : KernelBlock) → Decides (kernel.ghosts.eq x y) (x ≡ y)
kernel_decided x y = search rules

pub kernel_equal : (x y : List KernelBlock) → IsTrue (pointwise kernel.ghosts.eq x y) ↔ (x ≡ y)
kernel_equal x y = pointwise_decides kernel_decided x y
