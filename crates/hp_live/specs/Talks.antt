-- The reply to a line of a talk, in JSON objects.
use Rattle.std.specs.Prelude.{◌≡◌, ◌<◌, ◌+◌, ◌⊎◌, ℕ, Bool, true, false, List, [], ◌∷◌, ◌++◌, codes, cond, flat_map, length, Option, Some, None}
use Rattle.std.specs.List.{AllByRecursion}
use Rattle.std.specs.Str.{bytes_eq, IsUtf8}
use Rattle.json.specs.Print.{print}
use Rattle.json.specs.Token.{Token, begin_object, end_object, key, string}
use Rattle.hp_plain.specs.Image.{Pictured}
use Rattle.hp_machine.specs.Machine.{MachineValue, booted}
use Rattle.hp_scenario.specs.Scenario.{ScenarioValue}
use Rattle.hp_scenario.specs.declared.lines.Line.{Line}
use Rattle.hp_text.specs.Scenarios.{scenario_text}
use Rattle.hp_text.specs.State.{state_text}
use Rattle.hp_commands.specs.Serial.{WritesLines}
use Rattle.hp_streams.specs.Talks.{line_limit}
use Rattle.hp_trace_json.specs.ChangeObjects.{IsChangeObject, no_change}
use Rattle.hp_trace_json.specs.Changes.{ChangeValue, IsChange}
use Rattle.hp_live.specs.Answers.{AnswerValue}
use Rattle.hp_live.specs.Objects.{WritesObject, fault_keys, object_of}
use Rattle.hp_live.specs.Results.{Typed, typed_in}
use Rattle.hp_live.specs.Sessions.{AnswersText, RunsLine, SessionValue}
use Rattle.hp_live.specs.declared.answers.Did.{Did}
use Rattle.hp_live.specs.declared.answers.Did.TheVariants as did
use Rattle.hp_live.specs.declared.live_words.LiveWord.{LiveWord}
use Rattle.hp_live.specs.declared.live_words.LiveWord.TheVariants as word

-- the kind of a text: either empty, or a command word, or a text that may be a line
abbrev pub word_of : (text : List ℕ) → LiveWord
word_of text =
    cond (bytes_eq text (codes "")) word.Nothing
    (cond (bytes_eq text (codes "help")) word.Help
    (cond (bytes_eq text (codes "state")) word.State
    (cond (bytes_eq text (codes "scenario")) word.Scenario word.Line)))

-- the line is not UTF-8, or it is too long
abbrev pub IsUnread : (line : List ℕ) → Type 0
IsUnread line = (line_limit < length line) ⊎ (¬ IsUtf8 line)

-- ---- objects

-- the tokens printed as a line
abbrev pub line_of : List Token → List ℕ
line_of tokens = print tokens ++ 10 ∷ []

-- the object of a command word, with its text
abbrev pub word_object : (name text : List ℕ) → List ℕ
word_object name text = line_of (begin_object ∷ key name ∷ string text ∷ end_object ∷ [])

-- the tokens of the object for a text that cannot be read as a line
abbrev pub fault_tokens : (line : ℕ) → (hint : List ℕ) → List Token
fault_tokens line hint = object_of line [] (fault_keys hint)

-- the object for a text that cannot be read as a line
abbrev pub fault_object : (line : ℕ) → (hint : List ℕ) → List ℕ
fault_object line hint = line_of (fault_tokens line hint)

-- the object if memory ran out
abbrev pub lost_object : List ℕ
lost_object = codes "{\"fault\":\"OutOfMemory\",\"hint\":\"out of memory: see state\"}\n"

-- the number of the line that was answered. For a text that cannot be read as a line, it is the number
-- of the next line
abbrev pub number_of : Did → (lines : List Line) → ℕ
number_of did.NoLine lines = length lines + 1
number_of (did.Event serial reply) lines = length lines
number_of (did.Unrecorded fault) lines = length lines
number_of (did.Plan end) lines = length lines
number_of (did.NotTaken fault) lines = length lines
number_of did.File lines = length lines
number_of (did.Sealed count) lines = length lines

-- an object's last bracket, and a newline
abbrev pub object_end : List ℕ
object_end = codes "}\n"

-- the reply is `front`, a comma, `keys` and a newline. `keys` has the further keys of the object that
-- begins with `front`, and its last bracket
abbrev pub HasKeys : (front keys reply : List ℕ) → Type 0
HasKeys front keys reply = reply ≡ front ++ (codes "," ++ (keys ++ codes "\n"))

-- the reply reports a change: it has either the keys of the change's own object, or no further keys if
-- nothing changed
abbrev pub TellsIn : (front : List ℕ) → ChangeValue → (reply : List ℕ) → Type 0
TellsIn front change reply =
    ((change ≡ no_change) × (reply ≡ front ++ object_end))
    ⊎ ((keys : List ℕ) × IsChangeObject change (codes "{" ++ keys) × HasKeys front keys reply)

-- ---- the states that objects show

-- whether objects show the state, and the last state that was shown
pub record StatesValue : Type 0 where
  pub is_shown : Bool
  pub last : Option Pictured

-- the machine's state, as a picture for an object
abbrev pub picture : MachineValue → Pictured
picture m = record { layout = m.layout; memory = m.state }

-- if states are shown, `shown` is the state now, and the reply reports how it differs from `last`. If
-- not, `shown` is None, and the reply has no further keys
abbrev pub ShowsIf : (is_shown : Bool) → (last : Option Pictured) → (now : Pictured)
    → (shown : Option Pictured) → (front reply : List ℕ) → Type 0
ShowsIf false last now shown front reply = (shown ≡ None) × (reply ≡ front ++ object_end)
ShowsIf true last now shown front reply =
    (shown ≡ Some now) × (change : ChangeValue) × IsChange last now change × TellsIn front change reply

-- the states after an object: a state that it shows is now the last one shown
abbrev pub kept_states : StatesValue → (shown : Option Pictured) → StatesValue
kept_states states None = states
kept_states states (Some image) = record { is_shown = states.is_shown; last = Some image }

-- the object of an answer. If states are shown, it has the change of the machine's state since the last
-- one shown
pub record ShowsObject (number : ℕ) (a : AnswerValue) (states : StatesValue) (machine : MachineValue)
    (reply : List ℕ) (new : StatesValue) : Type 0 where
  pub front : List ℕ
  pub object : WritesObject [] number a (front ++ object_end)
  pub shown : Option Pictured
  pub shows : ShowsIf states.is_shown states.last (picture machine) shown front reply
  pub kept : new ≡ kept_states states shown

-- ---- replies in objects

-- a session, and the states that its objects show
pub record ObjectsValue : Type 0 where
  pub session : SessionValue
  pub states : StatesValue

-- the line is not UTF-8 or too long, and nothing changes
pub record IsRefused (s : ObjectsValue) (line reply : List ℕ) (new : ObjectsValue) : Type 0 where
  pub cause : IsUnread line
  pub hint : List ℕ
  pub is : reply ≡ fault_object (length s.session.lines + 1) hint
  pub same : new ≡ s

-- the reply to a text of this kind. An empty text gets an empty reply. Neither it nor a command
-- word changes anything; any other text is answered
abbrev pub RepliesWord : LiveWord → ObjectsValue → (text reply : List ℕ) → (new : ObjectsValue) → Type 0
RepliesWord word.Nothing s text reply new = (reply ≡ []) × (new ≡ s)
RepliesWord word.Help s text reply new =
    (help : List ℕ) × (reply ≡ word_object (codes "help") help) × (new ≡ s)
RepliesWord word.State s text reply new =
    (reply ≡ word_object (codes "state") (state_text s.session.machine.layout s.session.names
    s.session.machine.state)) × (new ≡ s)
RepliesWord word.Scenario s text reply new =
    (reply ≡ word_object (codes "scenario") (scenario_text s.session.machine.layout s.session.names
    s.session.lines [])) × (new ≡ s)
RepliesWord word.Line s text reply new =
    (a : AnswerValue) × AnswersText s.session text a new.session
    × ShowsObject (number_of a.did new.session.lines) a s.states new.session.machine reply new.states

-- the reply to a text, by its kind
abbrev pub RepliesText : ObjectsValue → (text reply : List ℕ) → (new : ObjectsValue) → Type 0
RepliesText s text reply new = RepliesWord (word_of text) s text reply new

-- the text is a line, which was run and is kept
abbrev pub IsRun : SessionValue → (text : List ℕ) → (new : SessionValue) → Type 0
IsRun s text new =
    (t : Typed) × (written : List ℕ) × (typed_in s.names s.bound text ≡ Some t) × RunsLine s t written new

-- memory ran out: either nothing was run, or the line was run and is kept
abbrev pub IsLostLine : SessionValue → (text : List ℕ) → (new : SessionValue) → Type 0
IsLostLine s text new = (new ≡ s) ⊎ IsRun s text new

-- memory ran out in the reply to a text, as IsLostLine states, and no state was shown
abbrev pub IsLostText : ObjectsValue → (text : List ℕ) → (new : ObjectsValue) → Type 0
IsLostText s text new = IsLostLine s.session text new.session × (new.states ≡ s.states)

-- the reply to a line: either the line was refused, or its text got a reply, or memory ran out
abbrev pub RepliesObject : ObjectsValue → (line reply : List ℕ) → (new : ObjectsValue) → Type 0
RepliesObject s line reply new =
    IsRefused s line reply new
    ⊎ (RepliesText s line reply new ⊎ ((reply ≡ lost_object) × IsLostText s line new))

-- ---- the texts in replies

-- the object of an answer, either with its own keys only or with more keys after these
abbrev pub IsObjectOf : ℕ → AnswerValue → (reply : List ℕ) → Type 0
IsObjectOf number a reply =
    (front : List ℕ) × WritesObject [] number a (front ++ object_end)
    × ((reply ≡ front ++ object_end) ⊎ ((keys : List ℕ) × HasKeys front keys reply))

-- a reply, and the part of the output of `hotplug serial` that it stands for: either the text of the
-- answer that the reply shows, or nothing. If the reply only reports that memory ran out, this part may
-- be any text
abbrev pub HasText : List ℕ × List ℕ → Type 0
HasText pair =
    ((number : ℕ) × (a : AnswerValue) × (pair.1 ≡ a.text) × IsObjectOf number a pair.0)
    ⊎ ((pair.1 ≡ []) ⊎ (pair.0 ≡ lost_object))

-- each reply of a talk after a scenario stands for a part of the output of `hotplug serial`. Joined
-- after the text `before`, these parts make the text that it writes for the lines so far
pub record TellsLines (s : ScenarioValue) (before text : List ℕ) (new : SessionValue) : Type 0 where
  pub told : List (List ℕ × List ℕ)
  pub replies : text ≡ flat_map (λ pair. pair.0) told
  pub texts : AllByRecursion HasText told
  pub run :
      WritesLines (booted s.layout) new.lines (before ++ flat_map (λ pair. pair.1) told) new.machine
