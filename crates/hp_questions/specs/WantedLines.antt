-- The text of a wanted line.
use Rattle.std.specs.Prelude.{ℕ, ◌-◌, ◌==◌, true, false, List, [], ◌∷◌, codes, drop, nat_eq, Option, Some, None, if◌then◌else◌, option_map}
use Rattle.std.specs.List.{slice_split, starts_with}
use Rattle.std.specs.Str.{bytes_eq}
use Rattle.hp_units.specs.NumberWords.{number_of}
use Rattle.hp_units.specs.declared.replies.Refusal.{Refusal}
use Rattle.hp_units.specs.declared.replies.Refusal.TheVariants.{NoOwner, NoPage, NoWord, AlreadyMapped, NotMapped, BadOrder, NoFrame, NoSuchFrame, NotKernel, NoCpu, NoBlock, EmptyPlan, Twice, Busy, NotOnline, NotOffline, Unmovable, NoOp, NothingToMove, NotFree, Gone, BadAddress, NotAbsent}
use Rattle.hp_units.specs.declared.replies.Reply.{Reply}
use Rattle.hp_units.specs.declared.replies.Reply.TheVariants.{Done, Frame, Word, Moved, Opened, Restored, Released, Undone, Refused}
use Rattle.hp_units.specs.declared.rows.Row.{Row}
use Rattle.hp_units.specs.declared.rows.State.{State}
use Rattle.hp_units.specs.declared.rows.State.TheVariants.{Offline, Online, Going, Absent}
use Rattle.hp_units.specs.declared.rows.Zone.{Zone}
use Rattle.hp_scenario.specs.Lines.{◌>>=◌, only_number, zone_of}
use Rattle.hp_scenario.specs.Words.{words_of}
use Rattle.hp_questions.specs.declared.plan_lines.EndPattern.{EndPattern}
use Rattle.hp_questions.specs.declared.plan_lines.EndPattern.TheVariants.{Done as DoneSo, Undone as UndoneSo, Refused as RefusedAs, Cancelled, CancelledAs}
use Rattle.hp_questions.specs.declared.wanted.EndLine.{EndLine}
use Rattle.hp_questions.specs.declared.wanted.EndLine.TheVariants.{Answer, AnswerAt, Plan, Block}
use Rattle.hp_questions.specs.declared.wanted.Pattern.{Pattern}
use Rattle.hp_questions.specs.declared.wanted.Pattern.TheVariants.{Exactly, AnyOf}
use Rattle.hp_questions.specs.declared.wanted.Wanted.{Wanted}
use Rattle.hp_questions.specs.declared.wanted.Wanted.TheVariants.{Has, Lacks}

-- the parts of a text between its colons
abbrev pub parts_of : List ℕ → List (List ℕ)
parts_of text = slice_split (λ b. b == 58) text

-- ---- refusals

-- the refusal with this name, for the frame or block with this number
unfoldable pub numbered_refusal : (name : List ℕ) → (number : ℕ) → Option Refusal
numbered_refusal name number =
    if bytes_eq name (codes "Twice") then Some (Twice number)
    else (if bytes_eq name (codes "Busy") then Some (Busy number)
    else (if bytes_eq name (codes "NotOnline") then Some (NotOnline number)
    else (if bytes_eq name (codes "NotOffline") then Some (NotOffline number)
    else (if bytes_eq name (codes "Unmovable") then Some (Unmovable number)
    else (if bytes_eq name (codes "NotFree") then Some (NotFree number)
    else (if bytes_eq name (codes "NotAbsent") then Some (NotAbsent number)
    else None))))))

-- the refusal with this name; 0 is the number of its frame or block, if it has one
unfoldable pub named_refusal : (name : List ℕ) → Option Refusal
named_refusal name =
    if bytes_eq name (codes "NoOwner") then Some NoOwner
    else (if bytes_eq name (codes "NoPage") then Some NoPage
    else (if bytes_eq name (codes "NoWord") then Some NoWord
    else (if bytes_eq name (codes "AlreadyMapped") then Some AlreadyMapped
    else (if bytes_eq name (codes "NotMapped") then Some NotMapped
    else (if bytes_eq name (codes "BadOrder") then Some BadOrder
    else (if bytes_eq name (codes "NoFrame") then Some NoFrame
    else (if bytes_eq name (codes "NoSuchFrame") then Some NoSuchFrame
    else (if bytes_eq name (codes "NotKernel") then Some NotKernel
    else (if bytes_eq name (codes "NoCpu") then Some NoCpu
    else (if bytes_eq name (codes "NoBlock") then Some NoBlock
    else (if bytes_eq name (codes "EmptyPlan") then Some EmptyPlan
    else (if bytes_eq name (codes "NoOp") then Some NoOp
    else (if bytes_eq name (codes "NothingToMove") then Some NothingToMove
    else (if bytes_eq name (codes "Gone") then Some Gone
    else (if bytes_eq name (codes "BadAddress") then Some BadAddress
    else numbered_refusal name 0)))))))))))))))

-- the pattern for a refusal. A name alone matches every refusal of its kind
unfoldable pub refusal_of : List (List ℕ) → Option Pattern
refusal_of (name ∷ []) = option_map (λ r. AnyOf r) (named_refusal name)
refusal_of (name ∷ number ∷ []) = do
  n ← number_of 32 number
  r ← numbered_refusal name n
  Some (Exactly (Refused r))
refusal_of _ = None

-- ---- replies

-- the pattern for a reply without arguments
unfoldable pub bare_reply : Reply → List (List ℕ) → Option Pattern
bare_reply reply [] = Some (Exactly reply)
bare_reply reply _ = None

-- the pattern for `moved` and its two frames
unfoldable pub moved_reply : List (List ℕ) → Option Pattern
moved_reply (from ∷ to ∷ []) = do
  f ← number_of 32 from
  t ← number_of 32 to
  Some (Exactly (Moved f t))
moved_reply _ = None

-- the pattern for `opened`. Its argument must be 0, because an end does not show the operation's number
unfoldable pub opened_reply : List (List ℕ) → Option Pattern
opened_reply args = do
  op ← only_number 64 args
  if op == 0 then Some (Exactly (Opened 0)) else None

-- the pattern for a reply, from its first word and the other words
unfoldable pub reply_of : List ℕ → List (List ℕ) → Option Pattern
reply_of word args =
    if bytes_eq word (codes "done") then bare_reply Done args
    else (if bytes_eq word (codes "restored") then bare_reply Restored args
    else (if bytes_eq word (codes "released") then bare_reply Released args
    else (if bytes_eq word (codes "frame") then option_map (λ n. Exactly (Frame n)) (only_number 32 args)
    else (if bytes_eq word (codes "word") then option_map (λ n. Exactly (Word n)) (only_number 64 args)
    else (if bytes_eq word (codes "undone") then option_map (λ n. Exactly (Undone n)) (only_number 64 args)
    else (if bytes_eq word (codes "moved") then moved_reply args
    else (if bytes_eq word (codes "opened") then opened_reply args
    else (if bytes_eq word (codes "refused") then refusal_of args
    else None))))))))

-- ---- ends of plans

-- the pattern for an end without arguments
unfoldable pub bare_end : EndPattern → List (List ℕ) → Option EndPattern
bare_end end [] = Some end
bare_end end _ = None

-- the pattern for a last refusal, given by its name alone; a dash if there is none
unfoldable pub cause_of : (why : List ℕ) → Option (Option Pattern)
cause_of why =
    if bytes_eq why (codes "-") then Some None else option_map (λ r. Some r) (refusal_of (why ∷ []))

-- the pattern for a cancelled plan, with the effect of its Cancel: `restored` or `released`
unfoldable pub cancelled_as : Option Pattern → (what : List ℕ) → Option EndPattern
cancelled_as why what =
    if bytes_eq what (codes "restored") then Some (CancelledAs why true)
    else (if bytes_eq what (codes "released") then Some (CancelledAs why false) else None)

-- the pattern for a cancelled plan: either without arguments, or with the last refusal and the effect
-- of the Cancel
unfoldable pub cancelled_end : List (List ℕ) → Option EndPattern
cancelled_end [] = Some Cancelled
cancelled_end (why ∷ what ∷ []) = do
  cause ← cause_of why
  cancelled_as cause what
cancelled_end (name ∷ number ∷ what ∷ []) = do
  refusal ← refusal_of (name ∷ number ∷ [])
  cancelled_as (Some refusal) what
cancelled_end _ = None

-- the pattern for the end of a plan, from its first word and the other words. There is none for a
-- plan that its driver gave up because the history was full: this ends the search
unfoldable pub end_of : List ℕ → List (List ℕ) → Option EndPattern
end_of word args =
    if bytes_eq word (codes "done") then bare_end DoneSo args
    else (if bytes_eq word (codes "undone") then bare_end UndoneSo args
    else (if bytes_eq word (codes "refused") then option_map (λ r. RefusedAs r) (refusal_of args)
    else (if bytes_eq word (codes "cancelled") then cancelled_end args
    else None)))

-- the pattern for an end, from the words after a colon and a space
unfoldable pub end_after_space : List (List ℕ) → Option EndPattern
end_after_space ([] ∷ word ∷ args) = end_of word args
end_after_space _ = None

-- ---- memory blocks

-- a block's row, without a claim
abbrev pub row_with : State → Option Zone → Row
row_with state zone = record { state = state; zone = zone; claim = None }

-- the row of a block that is offline or absent
unfoldable pub bare_row : State → List (List ℕ) → Option Row
bare_row state [] = Some (row_with state None)
bare_row state _ = None

-- the row of a block that is online or going, in a zone
unfoldable pub zone_row : State → List (List ℕ) → Option Row
zone_row state (word ∷ []) = option_map (λ z. row_with state (Some z)) (zone_of word)
zone_row state _ = None

-- a block's row, from its state and the other words
unfoldable pub row_of : List ℕ → List (List ℕ) → Option Row
row_of word args =
    if bytes_eq word (codes "offline") then bare_row Offline args
    else (if bytes_eq word (codes "absent") then bare_row Absent args
    else (if bytes_eq word (codes "online") then zone_row Online args
    else (if bytes_eq word (codes "going") then zone_row Going args
    else None)))

-- the wanted line for a memory block, from the words after `block`
unfoldable pub block_of : List (List ℕ) → Option EndLine
block_of (number ∷ word ∷ args) = do
  b ← number_of 32 number
  row ← row_of word args
  Some (Block b row)
block_of _ = None

-- ---- lines

-- the wanted line for a reply to any processor
unfoldable pub any_of : List ℕ → List (List ℕ) → Option EndLine
any_of word args = option_map (λ reply. Answer None reply) (reply_of word args)

-- the wanted line for either a reply to any processor or a memory block
unfoldable pub line_by : List ℕ → List (List ℕ) → Option EndLine
line_by word args = if bytes_eq word (codes "block") then block_of args else any_of word args

-- the wanted line in words without a colon
unfoldable pub line_of : List (List ℕ) → Option EndLine
line_of [] = None
line_of (word ∷ args) = line_by word args

-- the pattern for a reply, from the words after a colon and a space
unfoldable pub reply_after_space : List (List ℕ) → Option Pattern
reply_after_space ([] ∷ word ∷ args) = reply_of word args
reply_after_space _ = None

-- the wanted line for a processor's reply with this number, counted from 1
unfoldable pub numbered_answer : (cpu number : List ℕ) → Pattern → Option EndLine
numbered_answer cpu number reply = do
  c ← number_of 32 cpu
  n ← number_of 64 number
  if n == 0 then None else Some (AnswerAt c (n - 1) reply)

-- the wanted line for a reply, after the words `cpu CPU answer NUMBER`
unfoldable pub named_answer : (first cpu second number : List ℕ) → Pattern → Option EndLine
named_answer first cpu second number reply =
    if bytes_eq first (codes "cpu")
    then (if bytes_eq second (codes "answer") then numbered_answer cpu number reply else None)
    else None

-- the wanted line for a reply. The words before its colon give either a processor or one of its replies
unfoldable pub answer_by : List (List ℕ) → Pattern → Option EndLine
answer_by (cpu ∷ []) reply = option_map (λ c. Answer (Some c) reply) (number_of 32 cpu)
answer_by (first ∷ cpu ∷ second ∷ number ∷ []) reply = named_answer first cpu second number reply
answer_by _ reply = None

-- the wanted line for a reply, from the words before its colon and after it
unfoldable pub answer_of : (who words : List (List ℕ)) → Option EndLine
answer_of who words = do
  reply ← reply_after_space words
  answer_by who reply

-- the wanted line for the end of a plan of processor `cpu`, or of any processor if `cpu` is None
unfoldable pub plan_line : (cpu : Option ℕ) → (words : List (List ℕ)) → Option EndLine
plan_line cpu words = option_map (λ end. Plan cpu end) (end_after_space words)

-- the wanted line in three parts between colons: a processor, `plan`, and the plan's end
unfoldable pub own_plan : (who mark end : List ℕ) → Option EndLine
own_plan who mark end =
    if bytes_eq mark (codes " plan") then (do
      cpu ← number_of 32 who
      plan_line (Some cpu) (words_of end))
    else None

-- the wanted line with one colon: either `plan` and a plan's end, or a processor and a reply to it
unfoldable pub colon_line : (who rest : List ℕ) → Option EndLine
colon_line who rest =
    if bytes_eq who (codes "plan") then plan_line None (words_of rest)
    else answer_of (words_of who) (words_of rest)

-- the wanted line in the parts between its colons
unfoldable pub line_in : List (List ℕ) → Option EndLine
line_in (line ∷ []) = line_of (words_of line)
line_in (who ∷ rest ∷ []) = colon_line who rest
line_in (who ∷ mark ∷ end ∷ []) = own_plan who mark end
line_in _ = None

-- the wanted line in a text
unfoldable pub end_line : List ℕ → Option EndLine
end_line text = line_in (parts_of text)

-- the line that an end is to have or, after `not `, to lack
unfoldable pub wanted_line : List ℕ → Option Wanted
wanted_line text =
    if starts_with nat_eq text (codes "not ") then option_map (λ l. Lacks l) (end_line (drop 4 text))
    else option_map (λ l. Has l) (end_line text)
