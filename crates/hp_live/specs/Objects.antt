-- An answer as a JSON object.
use Rattle.std.specs.Prelude.{◌≡◌, ℕ, List, [], ◌∷◌, ◌++◌, codes}
use Rattle.std.specs.Fmt.{decimal}
use Rattle.json.specs.Lex.{tokens}
use Rattle.json.specs.Print.{print}
use Rattle.json.specs.Token.{Token, begin_array, begin_object, end_array, end_object, key, number, string}
use Rattle.json.specs.Written.{Written}
use Rattle.hp_units.specs.declared.replies.Receipt.{Receipt}
use Rattle.hp_units.specs.declared.replies.Reply.{Reply}
use Rattle.hp_units.specs.Texts.{reply_text}
use Rattle.hp_live.specs.Answers.{AnswerValue}
use Rattle.hp_live.specs.declared.answers.Did.{Did}
use Rattle.hp_live.specs.declared.answers.Did.TheVariants as did

-- the tokens `ts` were appended
pub record Adds (old new : Written) (ts : List Token) : Type 0 where
  pub before : new.before ≡ old.before
  pub tokens : new.tokens ≡ old.tokens ++ ts

-- ---- the effect of a line

-- a key with a text
abbrev pub pair : (name text : List ℕ) → List Token
pair name text = key name ∷ string text ∷ []

-- the key `serial` with the serial of a call
abbrev pub serial_keys : (serial : ℕ) → List Token
serial_keys serial = key (codes "serial") ∷ number (decimal serial) ∷ []

-- the key `answer` with a reply
abbrev pub reply_keys : Reply → List Token
reply_keys reply = pair (codes "answer") (reply_text reply)

-- the keys for a text that cannot be read as a line
abbrev pub fault_keys : (hint : List ℕ) → List Token
fault_keys hint = pair (codes "fault") (codes "no line") ++ pair (codes "hint") hint

-- the object of a plan's call: its serial, its words and its reply
abbrev pub call_object : Receipt → (call : List ℕ) → List Token
call_object r call =
    begin_object ∷ (serial_keys r.serial ++ (pair (codes "call") call ++ (reply_keys r.reply
    ++ end_object ∷ [])))

-- the objects of receipts, one after another
abbrev pub TellsCalls : List Receipt → List Token → Type 0
TellsCalls [] ts = ts ≡ []
TellsCalls (r ∷ rs) ts =
    (call : List ℕ) × (rest : List Token)
    × (ts ≡ call_object r call ++ rest)
    × TellsCalls rs rest

-- the keys for a line's effect: the serial and the reply of an event, the calls and the end of a
-- plan, or the number of records of a seal. A text that cannot be read as a line has a fault and a
-- hint, and a file has no keys. Any other effect has an answer in words
abbrev pub TellsDid : Did → List Receipt → List Token → Type 0
TellsDid did.NoLine calls ts = (hint : List ℕ) × (ts ≡ fault_keys hint)
TellsDid (did.Event serial reply) calls ts = ts ≡ serial_keys serial ++ reply_keys reply
TellsDid (did.Unrecorded fault) calls ts = (words : List ℕ) × (ts ≡ pair (codes "answer") words)
TellsDid (did.Plan end) calls ts =
    (told : List Token) × (words : List ℕ) × TellsCalls calls told
    × (ts ≡ key (codes "calls") ∷ begin_array ∷ (told ++ end_array ∷ pair (codes "end") words))
TellsDid (did.NotTaken fault) calls ts = (words : List ℕ) × (ts ≡ pair (codes "answer") words)
TellsDid did.File calls ts = ts ≡ []
TellsDid (did.Sealed count) calls ts = ts ≡ key (codes "sealed") ∷ number (decimal count) ∷ []

-- ---- an object

-- the beginning of each object: the line's number and the answer's text
abbrev pub head_of : ℕ → (text : List ℕ) → List Token
head_of line text =
    begin_object ∷ key (codes "line") ∷ number (decimal line) ∷ key (codes "text") ∷ string text ∷ []

-- an object: the line's number and the answer's text, and then the further keys `more`
abbrev pub object_of : ℕ → (text : List ℕ) → List Token → List Token
object_of line text more = head_of line text ++ (more ++ end_object ∷ [])

-- the keys for a line's effect were appended
abbrev pub AddsDid : Written → AnswerValue → Written → Type 0
AddsDid old a new = (ts : List Token) × TellsDid a.did a.calls ts × Adds old new ts

-- the object of an answer was appended
abbrev pub AddsObject : Written → ℕ → AnswerValue → Written → Type 0
AddsObject old line a new =
    (more : List Token) × TellsDid a.did a.calls more × Adds old new (object_of line a.text more)

-- the object of an answer and a newline were appended; a reader finds the same tokens in it
abbrev pub WritesObject : (old : List ℕ) → ℕ → AnswerValue → (new : List ℕ) → Type 0
WritesObject old line a new =
    (more : List Token) × TellsDid a.did a.calls more
    × (tokens (print (object_of line a.text more)) ≡ object_of line a.text more)
    × (new ≡ (old ++ print (object_of line a.text more)) ++ 10 ∷ [])
