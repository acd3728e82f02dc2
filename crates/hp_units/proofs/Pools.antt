-- The pools by number.
use Rattle.std.proofs.Common.{◌<◌, arith}
use Rattle.hp_units.specs.declared.rows.Pool.{Pool}
use Rattle.hp_units.specs.declared.rows.Pool.TheVariants.{Nu}
use Rattle.hp_units.specs.Memory.{pool_index}

-- a pool has one of three indices
pub pool_index-lt : (pool : Pool) → pool_index pool < 3
pool_index-lt Nu = omega arith
pool_index-lt _ = omega arith
