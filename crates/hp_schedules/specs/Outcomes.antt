-- How a schedule ends: the replies to each processor, and the final rows of the memory blocks.
use Rattle.std.specs.Prelude.{ℕ, ◌==◌, List, Option, Some, None, map, filter, slice_get}
use Rattle.std.specs.List.{range_with_len}
use Rattle.hp_units.specs.LayoutParts.{LayoutParts}
use Rattle.hp_units.specs.Memory.{Memory, offline_row}
use Rattle.hp_units.specs.declared.replies.Record.{Record}
use Rattle.hp_units.specs.declared.replies.Reply.{Reply}
use Rattle.hp_units.specs.declared.replies.Reply.TheVariants.{Opened}
use Rattle.hp_units.specs.declared.rows.Row.{Row}

-- each processor's replies, from processor 0 on, and each memory block's row (its state and zone),
-- from block 0 on
pub record OutcomeValue : Type 0 where
  pub replies : List (List Reply)
  pub blocks : List Row

-- a reply with 0 for the number of an opened operation, because this number only counts the calls
-- before it
abbrev pub told : Reply → Reply
told (Opened op) = Opened 0
told reply = reply

-- the replies to a processor, in the order of its calls, with 0 for the number of an opened operation
abbrev pub replies_to : (cpu : ℕ) → List Record → List Reply
replies_to cpu news = map (λ r. told r.reply) (filter (λ r. r.cpu == cpu) news)

-- the replies to each processor below `processors`, with 0 for the numbers of opened operations
abbrev pub replies_below : (processors : ℕ) → List Record → List (List Reply)
replies_below processors news = map (λ cpu. replies_to cpu news) (range_with_len 0 processors)

-- a block's row without its claim; a block without a row is offline
abbrev pub ended_row : Option Row → Row
ended_row (Some row) = record row { claim = None }
ended_row None = offline_row

-- the rows of the blocks below `blocks`, without their claims
abbrev pub ended_rows_below : (blocks : ℕ) → Memory → List Row
ended_rows_below blocks s = map (λ block. ended_row (slice_get s.blocks.rows block)) (range_with_len 0 blocks)

-- the outcome with the replies of these records, for this many processors, and these rows
abbrev pub outcome_with : (processors : ℕ) → List Record → List Row → OutcomeValue
outcome_with processors news rows = record { replies = replies_below processors news; blocks = rows }

-- the outcome of these records in a state, for this many processors
abbrev pub outcome : (processors : ℕ) → List Record → LayoutParts → Memory → OutcomeValue
outcome processors news l s = outcome_with processors news (ended_rows_below l.blocks s)
