-- Events, replies and states in which operations have other numbers.
use Rattle.std.specs.Prelude.{ℕ, ◌≡◌, map}
use Rattle.std.specs.Option.{option_map}
use Rattle.hp_units.specs.Memory.{Blocks, Memory}
use Rattle.hp_units.specs.Step.{Answered}
use Rattle.hp_units.specs.declared.events.Event.{Event}
use Rattle.hp_units.specs.declared.events.Event.TheVariants.{DrainFor, Migrate, Commit, Cancel}
use Rattle.hp_units.specs.declared.replies.Reply.{Reply}
use Rattle.hp_units.specs.declared.replies.Reply.TheVariants.{Opened}
use Rattle.hp_units.specs.declared.rows.Claim.{Claim}
use Rattle.hp_units.specs.declared.rows.Row.{Row}

-- the function gives no two operations the same number
abbrev pub IsOneToOne : (ℕ → ℕ) → Type 0
IsOneToOne f = (a b : ℕ) → f a ≡ f b → a ≡ b

-- the event with another number for the operation that it works on
abbrev pub renumbered_event : (ℕ → ℕ) → Event → Event
renumbered_event f (DrainFor op cpu) = DrainFor (f op) cpu
renumbered_event f (Migrate op) = Migrate (f op)
renumbered_event f (Commit op) = Commit (f op)
renumbered_event f (Cancel op) = Cancel (f op)
renumbered_event f event = event

-- the reply with another number for the operation that was opened
abbrev pub renumbered_reply : (ℕ → ℕ) → Reply → Reply
renumbered_reply f (Opened op) = Opened (f op)
renumbered_reply f reply = reply

-- the claim (an operation's hold on a memory block) with another number for its operation
abbrev pub renumbered_claim : (ℕ → ℕ) → Claim → Claim
renumbered_claim f claim = record { op = f claim.op; wish = claim.wish }

-- the row with another number for its claim's operation
abbrev pub renumbered_row : (ℕ → ℕ) → Row → Row
renumbered_row f row =
    record { state = row.state; zone = row.zone; claim = option_map (renumbered_claim f) row.claim }

-- the rows of all blocks with other numbers for their claims' operations
abbrev pub renumbered_blocks : (ℕ → ℕ) → Blocks → Blocks
renumbered_blocks f bs = record { rows = map (renumbered_row f) bs.rows; auto = bs.auto }

-- the state with other numbers for the operations of all claims
abbrev pub renumbered : (ℕ → ℕ) → Memory → Memory
renumbered f s = record {
  free = s.free;
  pages = s.pages;
  kernel = s.kernel;
  blocks = renumbered_blocks f s.blocks;
}

-- the state and the reply with other numbers for operations
abbrev pub renumbered_answer : (ℕ → ℕ) → Answered → Answered
renumbered_answer f answered =
    record { memory = renumbered f answered.memory; reply = renumbered_reply f answered.reply }
