-- The words of a page of a memory, and its code.
use Rattle.std.proofs.Common.{ℕ, ◌≡◌, ◌+◌, ◌==◌, List, ◌++◌, Option, Some, None, length, sym, ◌∙◌, ap, refl, append_assoc, eq-eqb}
use Rattle.std.proofs.lemmas.Bool.{cond-true}
use Rattle.std.proofs.lemmas.Option.{same_Some}
use Rattle.std.specs.List.{flat_map}
use Rattle.std.specs.Option.{IsSome, option_map}
use Rattle.hp_units.specs.LayoutParts.{LayoutParts, IsLayout}
use Rattle.hp_units.specs.Memory.{Memory, Pages}
use Rattle.hp_units.specs.Pages.{frame_at, words_at}
use Rattle.hp_units.specs.Placement.{IsPage, IsWellPlaced}
use Rattle.hp_tape.specs.Deltas.{page_frames_of}
use Rattle.hp_laws.proofs.Fitting.{placed-fits}
use Rattle.hp_pages.specs.Pages.{PagesValue, words_in, words_of}
use Rattle.hp_pages.proofs.Views.{AreOnce, once_placed, view-words_at}
use Rattle.hp_states.specs.Numbers.{number_code}
use Rattle.hp_states.specs.Parts.{odd_page_code, page_code}

unmapped : (l : LayoutParts) (words : Option (List ℕ)) → IsPage l None words → words ≡ None
unmapped l None is = refl
unmapped l (Some words) is = absurd is

by_entry : (l : LayoutParts) (ps : Pages) (owner page : ℕ) (entry : Option ℕ) → AreOnce l ps
    → IsPage l entry (words_at ps owner page) → frame_at ps owner page ≡ entry
    → words_of l (page_frames_of l ps) owner page ≡ words_at ps owner page
by_entry l ps owner page None once is at =
    ap (option_map (words_in l (page_frames_of l ps))) at ∙ sym (unmapped l (words_at ps owner page) is)
by_entry l ps owner page (Some frame) once is at = view-words_at l ps owner page frame once at

-- the words that the layer of pages has are those of the state
pub words_are : (l : LayoutParts) (s : Memory) (v : PagesValue) (owner page : ℕ)
    (answer : Option (List ℕ)) → IsLayout l → IsWellPlaced l s
    → v ≡ record { layout = l; pages = page_frames_of l s.pages }
    → answer ≡ words_of v.layout v.pages owner page → answer ≡ words_at s.pages owner page
words_are l s v owner page answer layout placed is e =
    rw (e, is)
    (by_entry l s.pages owner page (frame_at s.pages owner page)
    (once_placed l s placed (placed-fits l s layout placed).pages) (placed.in_order.words owner page) refl)

-- ---- the code of a page

pub unmapped_code : (l : LayoutParts) (frame : Option ℕ) (words : Option (List ℕ)) → IsPage l frame words
    → frame ≡ None → number_code 0 ≡ page_code l.words frame words
unmapped_code l None None is e = refl
unmapped_code l None (Some ws) is e = absurd is
unmapped_code l (Some f) words is e = absurd cc

-- a frame has words
pub has_words : {A : Type 0} (now : A → List ℕ) (l : LayoutParts) (frame : Option ℕ)
    (words : Option (List ℕ)) (f : ℕ) (answer : Option A) → IsPage l frame words → frame ≡ Some f
    → option_map now answer ≡ words → IsSome answer
has_words now l None words f answer is e a = absurd cc
has_words now l (Some g) None f answer is e a = absurd is
has_words now l (Some g) (Some ws) f None is e a = absurd cc
has_words now l (Some g) (Some ws) f (Some x) is e a = refl

pub mapped_code : (l : LayoutParts) (frame : Option ℕ) (words : Option (List ℕ)) (f : ℕ) (ws : List ℕ)
    → IsPage l frame words → frame ≡ Some f → words ≡ Some ws
    → number_code (f + 2) ++ flat_map number_code ws ≡ page_code l.words frame words
mapped_code l None words f ws is e s = absurd cc
mapped_code l (Some g) None f ws is e s = absurd is
mapped_code l (Some g) (Some us) f ws is e s =
    rw (← same_Some g f e, ← same_Some us ws s)
    (sym (cond-true (length us == l.words) (number_code (g + 2) ++ flat_map number_code us)
    (odd_page_code (Some g) (Some us)) (eq-eqb (length us) l.words is)))

-- after other codes
pub mapped_behind : (l : LayoutParts) (frame : Option ℕ) (words : Option (List ℕ)) (f n : ℕ)
    (ws old between : List ℕ) → IsPage l frame words → frame ≡ Some f → words ≡ Some ws → n ≡ f
    → between ≡ old ++ number_code (n + 2)
    → between ++ flat_map number_code ws ≡ old ++ page_code l.words frame words
mapped_behind l frame words f n ws old between is e s same so_far =
    rw (← mapped_code l frame words f ws is e s, so_far, same)
    (append_assoc old (number_code (f + 2)) (flat_map number_code ws))
