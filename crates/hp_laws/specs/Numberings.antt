-- Numbers of operations that do not depend on when they began: each processor's latest operation is
-- numbered by its processor.
use Rattle.std.specs.Prelude.{ℕ, suc, ◌+◌, ◌*◌, ◌==◌, if◌then◌else◌, List, [], ◌∷◌, Option, None, Some, nat_le}
use Rattle.std.specs.Option.{option_map, option_map_or}

-- the index of the first entry that is `op`
abbrev pub index_of : (op : ℕ) → List ℕ → Option ℕ
index_of op [] = None
index_of op (x ∷ xs) = if x == op then Some 0 else option_map suc (index_of op xs)

-- the processor whose latest operation is `op`, if there is one. There is none for an operation up to
-- `fixed`, because scripts may name it by its number
abbrev pub place_of : (fixed : ℕ) → (latest : List ℕ) → (op : ℕ) → Option ℕ
place_of fixed latest op = if nat_le op fixed then None else index_of op latest

-- 2k + 1 for the latest operation of processor k if it is above `fixed`, and twice the operation's
-- own number for any other
abbrev pub number_of : (fixed : ℕ) → (latest : List ℕ) → (op : ℕ) → ℕ
number_of fixed latest op = option_map_or (λ place. 2 * place + 1) (place_of fixed latest op) (2 * op)
