-- Events that are refused before anything is taken, each for one reason.
use Rattle.std.proofs.Common.{◌≡◌, ℕ, ◌<◌, ◌≤◌, Bool, true, false, List, [], ◌∷◌, Option, Some, None, refl, sym, ◌∙◌, ap, arith}
use Rattle.std.specs.Prelude.{is_some, nat_le}
use Rattle.std.specs.Bool.{then_some}
use Rattle.std.proofs.lemmas.Bool.{le-leb, lt-leb}
use Rattle.hp_units.specs.Choices.{first_some, unless_some}
use Rattle.hp_units.specs.LayoutParts.{LayoutParts}
use Rattle.hp_units.specs.Pages.{frame_at}
use Rattle.hp_units.specs.ProcessorLists.{page_frame}
use Rattle.hp_units.specs.Memory.{entry_of}
use Rattle.hp_units.specs.Refusals.{event_refusals, page_refusals, word_refusals}
use Rattle.hp_units.specs.Step.{answer}
use Rattle.hp_units.specs.declared.events.Event.{Event}
use Rattle.hp_units.specs.declared.replies.Refusal.{Refusal}
use Rattle.hp_units.specs.declared.replies.Refusal.TheVariants.{AlreadyMapped, NoFrame, NoOwner, NoPage, NotMapped}
use Rattle.hp_units.specs.declared.replies.Reply.TheVariants.{Refused}
use Rattle.hp_tape.specs.declared.deltas.Delta.{Delta}
use Rattle.hp_laws.proofs.EventSteps.{below}
use Rattle.hp_laws.proofs.OwnedContents.{all_none}
use Rattle.hp_plain.specs.Asked.{asked}
use Rattle.hp_layers.specs.declared.layers.Layers.{Layers}
use Rattle.hp_layers.specs.Layers.{AreOfOneLayout, ArePlaced, IsAnswered, state_of}
use Rattle.hp_layers.proofs.Answers.{refused}

-- an event whose first refusal is known
pub refused_for : (m : Layers) (cpu : ℕ) (event : Event) (deltas : List Delta) (reason : Refusal)
    → ArePlaced m
    → first_some (event_refusals m.layout (state_of m) cpu event) ≡ Some reason
    → IsAnswered m event (asked m.layout (state_of m) cpu event) m deltas deltas (Refused reason)
refused_for m cpu event deltas reason p first =
    refused m event (asked m.layout (state_of m) cpu event) deltas deltas reason p
    (ap (λ (o : Option Refusal). answer m.layout (state_of m) 0 cpu event o) first) refl

-- the first of several, if its test holds
pub holds-first : {A : Type 0} (test : Bool) (reason : A) (others : List (Option A)) → test ≡ true
    → first_some (then_some test reason ∷ others) ≡ Some reason
holds-first test reason others e = ap (λ (b : Bool). first_some (then_some b reason ∷ others)) e

-- the first of several, if its test fails
pub fails-first : {A : Type 0} (test : Bool) (reason : A) (others : List (Option A)) → test ≡ false
    → first_some (then_some test reason ∷ others) ≡ first_some others
fails-first test reason others e = ap (λ (b : Bool). first_some (then_some b reason ∷ others)) e

-- the first of several, if something is missing
pub lacks-first : {A B : Type 0} (o : Option A) (reason : B) (others : List (Option B)) → o ≡ None
    → first_some (unless_some o reason ∷ others) ≡ Some reason
lacks-first {A} o reason others e = ap (λ (p : Option A). first_some (unless_some p reason ∷ others)) e

-- an owner that isn't there
pub no-owner : (l : LayoutParts) (owner page : ℕ) (others : List (Option Refusal)) → l.owners ≤ owner
    → first_some (page_refusals l owner page others) ≡ Some NoOwner
no-owner l owner page others past =
    holds-first (nat_le l.owners owner) NoOwner (then_some (nat_le l.pages page) NoPage ∷ others)
    (le-leb l.owners owner past)

-- an owner that is there
pub some-owner : (l : LayoutParts) (owner page : ℕ) (others : List (Option Refusal)) → owner < l.owners
    → first_some (page_refusals l owner page others)
    ≡ first_some (then_some (nat_le l.pages page) NoPage ∷ others)
some-owner l owner page others low =
    fails-first (nat_le l.owners owner) NoOwner (then_some (nat_le l.pages page) NoPage ∷ others)
    (lt-leb l.owners owner low)

-- a page that isn't there
pub no-page : (l : LayoutParts) (owner page : ℕ) (others : List (Option Refusal)) → owner < l.owners
    → l.pages ≤ page → first_some (page_refusals l owner page others) ≡ Some NoPage
no-page l owner page others low past =
    some-owner l owner page others low
    ∙ holds-first (nat_le l.pages page) NoPage others (le-leb l.pages page past)

-- an owner and a page that are there
pub some-page : (l : LayoutParts) (owner page : ℕ) (others : List (Option Refusal)) → owner < l.owners
    → page < l.pages → first_some (page_refusals l owner page others) ≡ first_some others
some-page l owner page others low small =
    some-owner l owner page others low
    ∙ fails-first (nat_le l.pages page) NoPage others (lt-leb l.pages page small)

-- the refusals of a page that is to be mapped, after those of its owner and its number
abbrev pub map_others : Layers → (cpu owner page : ℕ) → List (Option Refusal)
map_others m cpu owner page =
    then_some (is_some (frame_at (state_of m).pages owner page)) AlreadyMapped
    ∷ unless_some (page_frame m.layout (state_of m).free cpu) NoFrame ∷ []

-- the refusals of a page that is to be unmapped, after the same
abbrev pub unmap_others : Layers → (owner page : ℕ) → List (Option Refusal)
unmap_others m owner page = unless_some (frame_at (state_of m).pages owner page) NotMapped ∷ []

-- a page that is mapped already
pub is-mapped : (m : Layers) (cpu owner page : ℕ) → is_some (frame_at (state_of m).pages owner page) ≡ true
    → first_some (map_others m cpu owner page) ≡ Some AlreadyMapped
is-mapped m cpu owner page e =
    holds-first (is_some (frame_at (state_of m).pages owner page)) AlreadyMapped
    (unless_some (page_frame m.layout (state_of m).free cpu) NoFrame ∷ []) e

-- a page that isn't mapped
pub not-mapped : (m : Layers) (owner page : ℕ) → frame_at (state_of m).pages owner page ≡ None
    → first_some (unmap_others m owner page) ≡ Some NotMapped
not-mapped m owner page e = lacks-first (frame_at (state_of m).pages owner page) NotMapped [] e

-- numbers that the code read
pub read-lt : {a b c d : ℕ} → a < b → a ≡ c → b ≡ d → c < d
read-lt h e f = omega arith

pub read-le : {a b c d : ℕ} → a ≤ b → a ≡ c → b ≡ d → c ≤ d
read-le h e f = omega arith

-- an owner, and a page, of the layout is one of the pages' own layout
pub owner-there : {owner : ℕ} {m : Layers} {read most : ℕ} → ArePlaced m → read < most → read ≡ owner
    → most ≡ m.layout.owners → owner < m.pages.layout.owners
owner-there {owner} p low is all = rw p.one.pages (read-lt low is all)

pub page-there : {page : ℕ} {m : Layers} {read most : ℕ} → ArePlaced m → read < most → read ≡ page
    → most ≡ m.layout.pages → page < m.pages.layout.pages
page-there {page} p low is all = rw p.one.pages (read-lt low is all)

-- ---- words

-- an event of a word, whose refusal is known
pub word-refused : (m : Layers) (event : Event) (owner page index : ℕ) (deltas : List Delta)
    (reason : Refusal) (found : Option Refusal)
    → ArePlaced m → event_refusals m.layout (state_of m) 0 event
    ≡ word_refusals m.layout (state_of m) owner page index
    → found ≡ Some reason
    → found ≡ first_some (word_refusals m.layout (state_of m) owner page index)
    → IsAnswered m event (asked m.layout (state_of m) 0 event) m deltas deltas (Refused reason)
word-refused m event owner page index deltas reason found p of e first =
    refused_for m 0 event deltas reason p (ap first_some of ∙ (sym first ∙ e))

-- a word that is in the layout and in the table of pages
pub record IsWord (l : LayoutParts) (table : List (List (Option ℕ))) (owner page index : ℕ) : Type 0 where
  pub owner_low : owner < l.owners
  pub page_low : page < l.pages
  pub index_low : index < l.words
  pub frame : ℕ
  pub mapped : entry_of table owner page ≡ Some frame

-- the word of an event that isn't refused is there
pub word-there : (m : Layers) (owner page index : ℕ) (found : Option Refusal) → found ≡ None
    → found ≡ first_some (word_refusals m.layout (state_of m) owner page index)
    → IsWord m.layout m.pages.pages.table owner page index
word-there m owner page index found e first =
    let none = all_none (word_refusals m.layout (state_of m) owner page index) (sym first ∙ e) in
    let held = there (entry_of m.pages.pages.table owner page) none.1.1.1.0 in
    record {
      owner_low = below m.layout.owners owner _ none.0;
      page_low = below m.layout.pages page _ none.1.0;
      index_low = below m.layout.words index _ none.1.1.0;
      frame = held.0;
      mapped = held.1;
    }
  where
    there : (o : Option ℕ) → unless_some o NotMapped ≡ None → (frame : ℕ) × (o ≡ Some frame)
    there None h = absurd (let e = h in cc)
    there (Some frame) h = (frame, refl)

-- and it is a word of the pages' own layout
pub word-there_in_pages : (m : Layers) (owner page index : ℕ) (found : Option Refusal) → AreOfOneLayout m
    → found ≡ None → found ≡ first_some (word_refusals m.layout (state_of m) owner page index)
    → IsWord m.pages.layout m.pages.pages.table owner page index
word-there_in_pages m owner page index found one e first =
    rw one.pages (word-there m owner page index found e first)
