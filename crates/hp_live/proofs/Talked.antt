-- Texts in the replies of a talk in objects.
use Rattle.std.proofs.Common.{arith, ◌≡◌, ℕ, Bool, List, [], ◌∷◌, ◌++◌, Option, refl, ap, ◌∙◌, append-nil, append_assoc, inl, inr}
use Rattle.std.specs.Prelude.{◌⊎◌, flat_map}
use Rattle.std.specs.List.{AllByRecursion}
use Rattle.hp_plain.specs.Image.{Pictured}
use Rattle.hp_machine.specs.Machine.{MachineValue}
use Rattle.hp_scripts.specs.Named.{NamedValue}
use Rattle.hp_commands.specs.Serial.{WritesLines}
use Rattle.hp_commands.proofs.Lines.{one_more}
use Rattle.hp_streams.specs.Talks.{AreReplies}
use Rattle.hp_trace_json.specs.Changes.{ChangeValue}
use Rattle.hp_live.specs.Answers.{AnswerValue}
use Rattle.hp_live.specs.Results.{typed_in}
use Rattle.hp_live.specs.Sessions.{IsResumed, SessionValue}
use Rattle.hp_live.specs.Talks.{HasKeys, HasText, IsLostLine, IsObjectOf, ObjectsValue, RepliesObject, RepliesWord, ShowsIf, ShowsObject, StatesValue, TellsIn, TellsLines, lost_object, number_of, object_end}
use Rattle.hp_live.specs.declared.live_words.LiveWord.{LiveWord}
use Rattle.hp_live.specs.declared.live_words.LiveWord.TheVariants as word
use Rattle.hp_live.proofs.Together.{one_answer, resumed_run}

-- ---- an object that may show a state

told_in : (front : List ℕ) (change : ChangeValue) (reply : List ℕ) → TellsIn front change reply
    → (reply ≡ front ++ object_end) ⊎ ((keys : List ℕ) × HasKeys front keys reply)
told_in front change reply x = grind arith

shown_in : (is_shown : Bool) (last : Option Pictured) (now : Pictured) (shown : Option Pictured)
    (front reply : List ℕ) → ShowsIf is_shown last now shown front reply
    → (reply ≡ front ++ object_end) ⊎ ((keys : List ℕ) × HasKeys front keys reply)
shown_in is_shown last now shown front reply shows = grind (arith, told_in)

object_shown : (number : ℕ) (a : AnswerValue) (states new : StatesValue) (machine : MachineValue)
    (reply : List ℕ) → ShowsObject number a states machine reply new → IsObjectOf number a reply
object_shown number a states new machine reply object = grind (arith, shown_in)

-- ---- the texts in replies

-- lines were run, and a reply has the text of those that are new
abbrev IsToldAfter : MachineValue → (before reply : List ℕ) → SessionValue → Type 0
IsToldAfter m before reply s =
    (text : List ℕ) × HasText (reply, text) × WritesLines m s.lines (before ++ text) s.machine

nothing_told : (m : MachineValue) (s new : SessionValue) (before reply : List ℕ) → new ≡ s
    → WritesLines m s.lines before s.machine → IsToldAfter m before reply new
nothing_told m s new before reply same ran = grind (arith, append-nil)

same_told : (m : MachineValue) (s new : ObjectsValue) (before reply : List ℕ) → new ≡ s
    → WritesLines m s.session.lines before s.session.machine → IsToldAfter m before reply new.session
same_told m s new before reply same ran =
    nothing_told m s.session new.session before reply (ap (λ (x : ObjectsValue). x.session) same) ran

one_word : (w : LiveWord) (m : MachineValue) (s new : ObjectsValue) (before line reply : List ℕ)
    → RepliesWord w s line reply new → WritesLines m s.session.lines before s.session.machine
    → IsToldAfter m before reply new.session
one_word word.Nothing m s new before line reply replied ran = same_told m s new before reply replied.1 ran
one_word word.Help m s new before line reply replied ran = same_told m s new before reply replied.2 ran
one_word word.State m s new before line reply replied ran = same_told m s new before reply replied.1 ran
one_word word.Scenario m s new before line reply replied ran = same_told m s new before reply replied.1 ran
one_word word.Line m s new before line reply replied ran =
    let number = number_of replied.0.did new.session.lines in (
      replied.0.text,
      inl (
        number,
        replied.0,
        refl,
        object_shown number replied.0 s.states new.states new.session.machine reply replied.2,
      ),
      one_answer (typed_in s.session.names s.session.bound line) m s.session new.session replied.0 before ran
          replied.1,
    )

one_lost : (m : MachineValue) (s new : SessionValue) (before line reply : List ℕ) → reply ≡ lost_object
    → IsLostLine s line new → WritesLines m s.lines before s.machine → IsToldAfter m before reply new
one_lost m s new before line reply is (inl same) ran = nothing_told m s new before reply same ran
one_lost m s new before line reply is (inr line_ran) ran = grind (arith, one_more)

one_reply : (m : MachineValue) (s new : ObjectsValue) (before line reply : List ℕ)
    → RepliesObject s line reply new → WritesLines m s.session.lines before s.session.machine
    → IsToldAfter m before reply new.session
one_reply m s new before line reply (inl refused) ran = same_told m s new before reply refused.same ran
one_reply m s new before line reply (inr (inl replied)) ran = grind (arith, one_word)
one_reply m s new before line reply (inr (inr lost)) ran =
    one_lost m s.session new.session before line reply lost.0 lost.1.0 ran

-- replies that have these texts
abbrev AreTold : MachineValue → (before text : List ℕ) → SessionValue → Type 0
AreTold m before text s =
    (told : List (List ℕ × List ℕ)) × (text ≡ flat_map (λ (p : List ℕ × List ℕ). p.0) told)
    × AllByRecursion HasText told
    × WritesLines m s.lines (before ++ flat_map (λ (p : List ℕ × List ℕ). p.1) told) s.machine

all_replies : (lines : List (List ℕ)) (m : MachineValue) (s new : ObjectsValue) (before text : List ℕ)
    → AreReplies RepliesObject s lines text new → WritesLines m s.session.lines before s.session.machine
    → AreTold m before text new.session
all_replies [] m s new before text replied ran = grind (arith, append-nil)
all_replies (line ∷ lines) m s new before text replied ran =
    let reply = replied.0 in
    let one = one_reply m s replied.1 before line reply replied.3 ran in
    let more = all_replies lines m replied.1 new (before ++ one.0) replied.2 replied.5 one.2 in (
      (reply, one.0) ∷ more.0,
      replied.4 ∙ ap (λ (l : List ℕ). reply ++ l) more.1,
      (one.1, more.2),
      rw append_assoc at more.3,
    )

pub talks_tell : (scenario : NamedValue) (s new : ObjectsValue) (lines : List (List ℕ)) (text : List ℕ)
    → (begun : IsResumed scenario s.session) → AreReplies RepliesObject s lines text new
    → TellsLines scenario.scenario begun.text text new.session
talks_tell scenario s new lines text begun replied = grind (arith, resumed_run, all_replies)
