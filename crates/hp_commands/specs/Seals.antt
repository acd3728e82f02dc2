-- The text of a seal, and what it makes of the machine.
use Rattle.std.specs.Prelude.{◌≡◌, ℕ, List, length}
use Rattle.hp_machine.specs.Machine.{MachineValue, sealed}
use Rattle.hp_text.specs.Answers.{sealed_line}

-- how many records there were since the last seal
abbrev pub seal_text : MachineValue → List ℕ
seal_text m = sealed_line (length m.history)

-- a seal writes how many records there were, and the machine goes on without them
abbrev pub WritesSeal : MachineValue → (text : List ℕ) → (new : MachineValue) → Type 0
WritesSeal m text new = (text ≡ seal_text m) × (new ≡ sealed m)
