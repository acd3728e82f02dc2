-- When a machine is full, by how many records it is told to hold and to have.
use Rattle.std.proofs.Common.{◌≡◌, ℕ, ◌<◌, ◌≤◌, length}
use Rattle.std.specs.Prelude.{Bool, nat_le}
use Rattle.std.proofs.lemmas.Bool.{le-leb, lt-leb}
use Rattle.hp_history.specs.Course.{is_spent}
use Rattle.hp_machine.specs.Machine.{MachineValue, is_full}

module _ (m : MachineValue) (limit count : ℕ) (held : limit ≡ m.layout.history)
    (counted : count ≡ length m.history) where
  -- it has as many as it may
  pub full_at_limit : limit ≤ count → nat_le limit count ≡ is_full m
  full_at_limit reached = rw (← held, ← counted, le-leb limit count reached)

  -- it may have more: then it is full where there is no further serial
  pub full_at_end : (spent : Bool) → count < limit → spent ≡ is_spent m → spent ≡ is_full m
  full_at_end spent below ends = rw (ends, ← held, ← counted, lt-leb limit count below)
