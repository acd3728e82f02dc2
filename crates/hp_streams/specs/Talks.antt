-- A talk: lines that are read, and what is written for them.
use Rattle.std.specs.Prelude.{◌≡◌, ◌≢◌, ◌<◌, ℕ, Bool, true, false, List, [], ◌∷◌, ◌++◌, codes, length, Option}
use Rattle.std.specs.List.{All}
use Rattle.std.specs.Io.KnownBytes.{Appends}
use Rattle.hp_streams.specs.declared.hearing.Pause.{Pause}
use Rattle.hp_streams.specs.declared.hearing.Pause.TheVariants.{Broken, More, Quit}

-- ---- lines

-- the greatest length of a line, in bytes, without its newline
abbrev pub line_limit : ℕ
line_limit = 65536

abbrev pub newline : ℕ
newline = 10

-- lines, each with its newline
abbrev pub ended : List (List ℕ) → List ℕ
ended [] = []
ended (line ∷ lines) = line ++ newline ∷ ended lines

-- bytes without a newline
abbrev pub IsWhole : List ℕ → Type 0
IsWhole line = All (λ b. b ≢ newline) line

-- the line that ends a talk
abbrev pub quit : List ℕ
quit = codes "quit"

-- a line that is replied to: it has no newline in it, and is not `quit`
pub record IsTurn (line : List ℕ) : Type 0 where
  pub whole : IsWhole line
  pub other : line ≢ quit

-- ---- the beginning of a line

-- the bytes of a line so far; or, if `is_long`, the line is too long to be kept
pub record HeldValue : Type 0 where
  pub bytes : List ℕ
  pub is_long : Bool

abbrev pub nothing_held : HeldValue
nothing_held = record { bytes = []; is_long = false }

abbrev pub HoldsIf : (is_long : Bool) → (bytes line : List ℕ) → Type 0
HoldsIf true bytes line = line_limit < length line
HoldsIf false bytes line = line ≡ bytes

-- `line` is the line so far; if it was too long to be kept, it may be any line that is too long
abbrev pub Holds : HeldValue → (line : List ℕ) → Type 0
Holds held line = HoldsIf held.is_long held.bytes line

-- ---- replies

-- lines were replied to one after another, and `text` is the replies, joined
abbrev pub AreReplies : {S : Type 0} → (replies : S → List ℕ → List ℕ → S → Type 0) → S
    → (lines : List (List ℕ)) → (text : List ℕ) → (new : S) → Type 0
AreReplies replies s [] text new = (text ≡ []) × (new ≡ s)
AreReplies {S} replies s (line ∷ lines) text new =
    (reply : List ℕ) × (next : S) × (rest : List ℕ) × replies s line reply next
    × (text ≡ reply ++ rest) × AreReplies replies next lines rest new

-- a line was replied to, and the reply appended
abbrev pub RepliesTo : {S : Type 0} → (replies : S → List ℕ → List ℕ → S → Type 0) → S → (line : List ℕ)
    → (before : List ℕ) → (new : S) → (after : List ℕ) → Type 0
RepliesTo replies s line before new after =
    (reply : List ℕ) × replies s line reply new × (after ≡ before ++ reply)

-- ---- what is sent

-- `text` was added to `was`, which waited to be sent: a beginning of both was sent, and the rest
-- waits
pub record Sends (before : Option (List ℕ)) (was text : List ℕ) (after : Option (List ℕ)) (waits : List ℕ)
    : Type 0 where
  pub now : List ℕ
  pub appended : Appends before after now
  pub is : now ++ waits ≡ was ++ text

-- `text` was added to `was`, which waited to be sent: a beginning of both was sent, before a write
-- failed
pub record Breaks (before : Option (List ℕ)) (was text : List ℕ) (after : Option (List ℕ)) : Type 0 where
  pub now : List ℕ
  pub beyond : List ℕ
  pub appended : Appends before after now
  pub is : now ++ beyond ≡ was ++ text

-- the talk (whoever replies to lines), what a sink has, and what waits to be sent to it
pub record Desk (S : Type 0) : Type 0 where
  pub talk : S
  pub sent : Option (List ℕ)
  pub waiting : List ℕ

abbrev pub desk : {S : Type 0} → S → Option (List ℕ) → List ℕ → Desk S
desk s sent waiting = record { talk = s; sent = sent; waiting = waiting }

-- a line was replied to, and the reply was sent or waits
pub record Says {S : Type 0} (replies : S → List ℕ → List ℕ → S → Type 0) (old : Desk S) (line : List ℕ)
    (new : Desk S) : Type 0 where
  pub text : List ℕ
  pub replied : replies old.talk line text new.talk
  pub sends : Sends old.sent old.waiting text new.sent new.waiting

-- a line was replied to. A beginning of the waiting bytes and the reply was sent, before a write failed
pub record Misses {S : Type 0} (replies : S → List ℕ → List ℕ → S → Type 0) (old : Desk S) (line : List ℕ)
    (new : Desk S) : Type 0 where
  pub text : List ℕ
  pub replied : replies old.talk line text new.talk
  pub breaks : Breaks old.sent old.waiting text new.sent

-- lines were replied to, and the replies were sent or wait
pub record Answers {S : Type 0} (replies : S → List ℕ → List ℕ → S → Type 0) (old : Desk S)
    (lines : List (List ℕ)) (new : Desk S) : Type 0 where
  pub turns : All IsTurn lines
  pub text : List ℕ
  pub replied : AreReplies replies old.talk lines text new.talk
  pub sends : Sends old.sent old.waiting text new.sent new.waiting

-- lines were replied to. A beginning of the waiting bytes and the replies was sent,
-- before a write failed
pub record Fails {S : Type 0} (replies : S → List ℕ → List ℕ → S → Type 0) (old : Desk S)
    (lines : List (List ℕ)) (new : Desk S) : Type 0 where
  pub turns : All IsTurn lines
  pub text : List ℕ
  pub replied : AreReplies replies old.talk lines text new.talk
  pub breaks : Breaks old.sent old.waiting text new.sent

-- ---- hearing

-- a whole line was read: either it was replied to, or it is `quit`, or a write failed after the
-- reply to it
abbrev pub HearsLine : {S : Type 0} → (replies : S → List ℕ → List ℕ → S → Type 0) → Pause → (old : Desk S)
    → (line : List ℕ) → (new : Desk S) → HeldValue → Type 0
HearsLine replies More old line new held =
    (line ≢ quit) × Says replies old line new × (held ≡ nothing_held)
HearsLine replies Quit old line new held = (line ≡ quit) × (new ≡ old)
HearsLine replies Broken old line new held = (line ≢ quit) × Misses replies old line new

-- the lines of `bytes` were replied to: all that end there, and `held` has the beginning of the next;
-- or those before a line `quit`; or some, before a write failed
abbrev pub Hears : {S : Type 0} → (replies : S → List ℕ → List ℕ → S → Type 0) → Pause → (old : Desk S)
    → (bytes : List ℕ) → (new : Desk S) → HeldValue → Type 0
Hears replies More old bytes new held =
    (lines : List (List ℕ)) × (last : List ℕ) × (bytes ≡ ended lines ++ last) × IsWhole last
    × Holds held last × Answers replies old lines new
Hears replies Quit old bytes new held =
    (lines : List (List ℕ)) × (beyond : List ℕ) × (bytes ≡ ended lines ++ (quit ++ newline ∷ beyond))
    × Answers replies old lines new
Hears replies Broken old bytes new held =
    (lines : List (List ℕ)) × (beyond : List ℕ) × (bytes ≡ ended lines ++ beyond)
    × Fails replies old lines new

-- the lines of `bytes` that end before `rest` were replied to, and `held` has the beginning of the
-- next
pub record HearsTo {S : Type 0} (replies : S → List ℕ → List ℕ → S → Type 0) (old : Desk S)
    (bytes rest : List ℕ) (new : Desk S) (held : HeldValue) : Type 0 where
  pub lines : List (List ℕ)
  pub last : List ℕ
  pub is : bytes ≡ ended lines ++ (last ++ rest)
  pub whole : IsWhole last
  pub holds : Holds held last
  pub answers : Answers replies old lines new
