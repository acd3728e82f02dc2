-- Hashes of how schedules end. Equal ends hash alike; nothing more is needed.
use Rattle.std.specs.Prelude.{ℕ, ◌+◌, ◌*◌, ◌%◌, ◌^◌, List, bit_xor, fold}
use Rattle.std.specs.Int.{w64, rotate_left}
use Rattle.hp_units.specs.declared.replies.Refusal.{Refusal}
use Rattle.hp_units.specs.declared.replies.Refusal.TheVariants.{NoOwner, NoPage, NoWord, AlreadyMapped, NotMapped, BadOrder, NoFrame, NoSuchFrame, NotKernel, NoCpu, NoBlock, EmptyPlan, Twice, Busy, NotOnline, NotOffline, Unmovable, NoOp, NothingToMove, NotFree, Gone, BadAddress, NotAbsent}
use Rattle.hp_units.specs.declared.replies.Reply.{Reply}
use Rattle.hp_units.specs.declared.replies.Reply.TheVariants.{Done, Frame, Word, Moved, Opened, Restored, Released, Undone, Refused}
use Rattle.hp_units.specs.declared.rows.Row.{Row}
use Rattle.hp_units.specs.Rows.{state_number, zone_number}
use Rattle.hp_schedules.specs.Outcomes.{OutcomeValue}

-- the hash after mixing in one number
unfoldable pub mixed : (digest number : ℕ) → ℕ
mixed digest number = rotate_left w64 (bit_xor digest number * 11400714819323198485 % 2 ^ 64) 29

-- a hash input for a refusal
abbrev pub refusal_number : Refusal → ℕ
refusal_number NoOwner = 1
refusal_number NoPage = 2
refusal_number NoWord = 3
refusal_number AlreadyMapped = 4
refusal_number NotMapped = 5
refusal_number BadOrder = 6
refusal_number NoFrame = 7
refusal_number NoSuchFrame = 8
refusal_number NotKernel = 9
refusal_number NoCpu = 10
refusal_number NoBlock = 11
refusal_number EmptyPlan = 12
refusal_number NoOp = 13
refusal_number NothingToMove = 14
refusal_number Gone = 15
refusal_number BadAddress = 16
refusal_number (Twice block) = mixed 17 block
refusal_number (Busy block) = mixed 18 block
refusal_number (NotOnline block) = mixed 19 block
refusal_number (NotOffline block) = mixed 20 block
refusal_number (Unmovable frame) = mixed 21 frame
refusal_number (NotFree frame) = mixed 22 frame
refusal_number (NotAbsent block) = mixed 23 block

-- a hash input for a reply
abbrev pub reply_number : Reply → ℕ
reply_number Done = 1
reply_number Restored = 2
reply_number Released = 3
reply_number (Frame frame) = mixed 4 frame
reply_number (Word word) = mixed 5 word
reply_number (Moved from to) = mixed (mixed 6 from) to
reply_number (Opened op) = mixed 7 op
reply_number (Undone count) = mixed 8 count
reply_number (Refused refusal) = mixed 9 (refusal_number refusal)

-- a hash input for a block's row
abbrev pub row_number : Row → ℕ
row_number row = 4 * zone_number row.zone + state_number row.state

-- the hash after mixing in a reply
abbrev pub mixed_reply : (digest : ℕ) → Reply → ℕ
mixed_reply digest reply = mixed digest (reply_number reply)

-- the hash after mixing in a block's row
abbrev pub mixed_row : (digest : ℕ) → Row → ℕ
mixed_row digest row = mixed digest (row_number row)

-- the hash after mixing in one processor's replies
abbrev pub mixed_replies : (digest : ℕ) → List Reply → ℕ
mixed_replies digest replies = mixed digest (fold mixed_reply 0 replies)

-- the hash of all processors' replies
abbrev pub replies_digest : List (List Reply) → ℕ
replies_digest replies = fold mixed_replies 0 replies

-- the hash of an outcome
unfoldable pub digest_of : OutcomeValue → ℕ
digest_of x = fold mixed_row (replies_digest x.replies) x.blocks
