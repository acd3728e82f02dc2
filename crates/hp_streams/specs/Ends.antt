-- How a talk ends.
use Rattle.std.specs.Prelude.{◌≡◌, ◌<◌, ℕ, List, [], ◌∷◌, ◌++◌, Option, Some, None, ⊤}
use Rattle.std.specs.Io.KnownBytes.{Consumes, IsAtEnd}
use Rattle.hp_streams.specs.Talks.{Answers, Desk, Fails, Hears, HeldValue, IsWhole, desk, ended, newline, quit}
use Rattle.hp_streams.specs.declared.hearing.Pause.TheVariants.{More}
use Rattle.hp_streams.specs.declared.talking.TalkEnd.{TalkEnd}
use Rattle.hp_streams.specs.declared.talking.TalkEnd.TheVariants as ends

-- the lines, and after them `last`, unless it is empty
abbrev pub with_last : List (List ℕ) → (last : List ℕ) → List (List ℕ)
with_last lines [] = lines
with_last lines (b ∷ bs) = lines ++ (b ∷ bs) ∷ []

-- `bytes` were read, and `lines` are the lines in them that were replied to before the talk ended. At
-- the end of the input these are all lines, and at a line `quit` those before it. After a read that
-- failed, or after too many reads, they are all lines that end with a newline. After a write that
-- failed, they are some of the lines, from the first on
abbrev pub IsEndOf : TalkEnd → (bytes : List ℕ) → (lines : List (List ℕ)) → (left : Option (List ℕ)) → Type 0
IsEndOf ends.Input bytes lines left =
    IsAtEnd left × (front : List (List ℕ)) × (last : List ℕ) × (bytes ≡ ended front ++ last)
    × IsWhole last × (lines ≡ with_last front last)
IsEndOf ends.Quit bytes lines left =
    (beyond : List ℕ) × (bytes ++ newline ∷ [] ≡ ended lines ++ (quit ++ newline ∷ beyond))
IsEndOf ends.ReadFailed bytes lines left = (last : List ℕ) × (bytes ≡ ended lines ++ last) × IsWhole last
IsEndOf ends.WriteFailed bytes lines left =
    (beyond : List ℕ) × (bytes ++ newline ∷ [] ≡ ended lines ++ beyond)
IsEndOf ends.Worn bytes lines left = (last : List ℕ) × (bytes ≡ ended lines ++ last) × IsWhole last

-- lines were replied to, and all replies were sent, or a beginning of them if a write failed
abbrev pub IsSaid : {S : Type 0} → (replies : S → List ℕ → List ℕ → S → Type 0) → TalkEnd → (old : Desk S)
    → (lines : List (List ℕ)) → (new : Desk S) → Type 0
IsSaid replies ends.WriteFailed old lines new = Fails replies old lines new
IsSaid replies ends.Input old lines new = Answers replies old lines new × (new.waiting ≡ [])
IsSaid replies ends.Quit old lines new = Answers replies old lines new × (new.waiting ≡ [])
IsSaid replies ends.ReadFailed old lines new = Answers replies old lines new × (new.waiting ≡ [])
IsSaid replies ends.Worn old lines new = Answers replies old lines new × (new.waiting ≡ [])

-- a talk ended; `line` is the beginning of a line that was read earlier, and the bytes that were
-- read since continue it
pub record Ends {S : Type 0} (replies : S → List ℕ → List ℕ → S → Type 0) (how : TalkEnd) (old : Desk S)
    (line : List ℕ) (input left : Option (List ℕ)) (new : Desk S) : Type 0 where
  pub bytes : List ℕ
  pub read : Consumes input left bytes
  pub lines : List (List ℕ)
  pub end : IsEndOf how (line ++ bytes) lines left
  pub said : IsSaid replies how old lines new

-- a whole talk, from its first read to its end
abbrev pub IsTalk : {S : Type 0} → (replies : S → List ℕ → List ℕ → S → Type 0) → TalkEnd → (old new : S)
    → (input left before after : Option (List ℕ)) → Type 0
IsTalk replies end old new input left before after =
    Ends replies end (desk old before []) [] input left (desk new after [])

-- ---- on the way

-- a block was read, its lines were replied to, and the replies were sent, or wait to be sent; or
-- the talk ended
abbrev pub HearsMore : {S : Type 0} → (replies : S → List ℕ → List ℕ → S → Type 0) → Option TalkEnd
    → (old : Desk S) → (line : List ℕ) → (input left : Option (List ℕ)) → (new : Desk S) → HeldValue → Type 0
HearsMore replies None old line input left new held =
    (bytes : List ℕ) × Consumes input left bytes × Hears replies More old (line ++ bytes) new held
HearsMore replies (Some end) old line input left new held = Ends replies end old line input left new

-- the lines of a block were replied to, and the replies were sent, or wait to be sent; or the talk
-- ended
abbrev pub BlockHeard : {S : Type 0} → (replies : S → List ℕ → List ℕ → S → Type 0) → Option TalkEnd
    → (old : Desk S) → (line block : List ℕ) → (new : Desk S) → HeldValue → Type 0
BlockHeard replies None old line block new held = Hears replies More old (line ++ block) new held
BlockHeard replies (Some end) old line block new held =
    (input left : Option (List ℕ)) → Consumes input left block → Ends replies end old line input left new

-- the input is at its end, and the talk ended. `line` is what comes after the last newline
abbrev pub LastHeard : {S : Type 0} → (replies : S → List ℕ → List ℕ → S → Type 0) → TalkEnd → (old : Desk S)
    → (line : List ℕ) → (new : Desk S) → Type 0
LastHeard replies end old line new =
    (input left : Option (List ℕ)) → Consumes input left [] → IsAtEnd left
    → Ends replies end old line input left new

-- if the talk goes on, no read failed; if it ended because a read failed, one did. The second
-- definition is for writes
abbrev pub IsReadCalm : Option TalkEnd → (failures now : ℕ) → Type 0
IsReadCalm None failures now = now ≡ failures
IsReadCalm (Some ends.ReadFailed) failures now = failures < now
IsReadCalm (Some end) failures now = ⊤

abbrev pub IsWriteCalm : Option TalkEnd → (failures now : ℕ) → Type 0
IsWriteCalm None failures now = now ≡ failures
IsWriteCalm (Some ends.WriteFailed) failures now = failures < now
IsWriteCalm (Some end) failures now = ⊤

-- bytes were read so far, their lines were replied to, and the replies were sent, or wait to be sent
pub record GoesOn {S : Type 0} (replies : S → List ℕ → List ℕ → S → Type 0) (old : Desk S)
    (input left : Option (List ℕ)) (new : Desk S) (held : HeldValue) : Type 0 where
  pub bytes : List ℕ
  pub read : Consumes input left bytes
  pub heard : Hears replies More old bytes new held
