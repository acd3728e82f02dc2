-- The numbers of lists.
use Rattle.std.proofs.Common.{◌≡◌, ℕ, ◌+◌, ◌*◌, ◌/◌, ◌%◌, arith}
use Rattle.hp_units.specs.Memory.{class_index, class_numbered, pool_index}
use Rattle.hp_units.specs.declared.rows.Class.{Class}
use Rattle.hp_units.specs.declared.rows.Pool.{Pool}
use Rattle.hp_plain.specs.Placing.{pool_numbered}

-- the number that a class and an order say
pub free_key : (class : Class) (n : ℕ) → class ≡ class_numbered (n % 5) → 5 * (n / 5) + class_index class ≡ n
free_key class n is = rw is (grind arith)

pub free_same : (class : Class) (order : ℕ) (other : Class) (number : ℕ) → class ≡ other → order ≡ number
    → 5 * order + class_index class ≡ 5 * number + class_index other
free_same class order other number first last = rw (first, last)

pub cpu_key : (pool : Pool) (n : ℕ) → pool ≡ pool_numbered (n % 3) → 3 * (n / 3) + pool_index pool ≡ n
cpu_key pool n is = rw is (grind arith)

pub cpu_same : (cpu : ℕ) (pool : Pool) (number : ℕ) (other : Pool) → cpu ≡ number → pool ≡ other
    → 3 * cpu + pool_index pool ≡ 3 * number + pool_index other
cpu_same cpu pool number other first last = rw (first, last)
