use Rattle.std.proofs.Common.{◌≡◌, ◌<◌, ℕ, List, Option, None, Some, length, set, refl, ap, subst, sym, ◌∙◌, Bor, false, arith}
use Rattle.std.specs.Prelude.{IfSome, IsSome, option_map}
use Rattle.hp_tape.specs.Deltas.{buffer_of, is_blank}
use Rattle.hp_pages.specs.Pages.{PagesValue}
use Rattle.hp_pages.proofs.Blanks.{set-some}
use Rattle.hp_pages.proofs.WordCalls.{left-some, written-none, written-word}
use Rattle.hp_pages.proofs.PageParts.{AreSized, sized_of}
use Rattle.hp_pages.proofs.pages.Pages.overwrite.Goals.{else-value-eq0-via-then-value-eq0+else-is_blank_beside, else-value-eq0-via-else-value-eq0}
use Rattle.hp_pages.proofs.pages.Pages.overwrite.Goals as goal

pub returns-in_default-clause-written : goal.returns-in_default-clause-written
returns-in_default-clause-written c =
    let none = subst (λ (p : PagesValue). buffer_of p.pages c.args.frame ≡ None) c.self.view_is
    (sym c.words.ensures ∙ ap (λ (o : Option (Bor (List ℕ))). option_map (λ w. w.now) o) c.in_default.is) in
    written-none c.args.self.now.layout c.args.self.now.pages c.args.frame c.args.index c.args.value none
    (c.requires.none none)

pub set_word-requires-clause-some : goal.set_word-requires-clause-some
set_word-requires-clause-some c =
    let there = subst (λ (p : PagesValue). buffer_of p.pages c.args.frame ≡ Some c.in-Some.words.now)
    c.self.view_is
    (sym c.words.ensures ∙ ap (λ (o : Option (Bor (List ℕ))). option_map (λ w. w.now) o) c.in-Some.is) in
    subst IsSome (sym there) refl

pub returns-else-value-eq0-clause-written : goal.returns-else-value-eq0-clause-written
returns-else-value-eq0-clause-written c =
    let l = c.args.self.now.layout in
    let v = c.args.self.now.pages in
    let words = c.in-Some.words.now in
    let there = subst (λ (p : PagesValue). buffer_of p.pages c.args.frame ≡ Some words) c.self.view_is
    (sym c.words.ensures ∙ ap (λ (o : Option (Bor (List ℕ))). option_map (λ w. w.now) o) c.in-Some.is) in
    let sized =
    subst (λ (p : PagesValue). AreSized p.layout p.pages) c.self.view_is (sized_of c.self.inside.layout
    c.self.inside.table c.self.inside.buffers c.self.inside.zeros c.self.invariant) in
    let len : length words ≡ l.words =
    subst (λ (b : Option (List ℕ)). IfSome b (λ ws. length ws ≡ l.words)) there
    (sized.words c.args.frame) in
    let inside : c.args.index < length words = let low = c.requires.index in omega (arith, len, low) in
    let some : is_blank (set words c.args.index c.args.value) ≡ false = elim c.else-value-eq0.branch [
      | else-value-eq0-via-then-value-eq0+else-is_blank_beside w ↦
          left-some words c.args.index c.args.value w.is_blank_beside.result inside w.is_blank_beside.ensures
          (λ zero. w.if-is_blank_beside.false)
      | else-value-eq0-via-else-value-eq0 w ↦
          set-some words c.args.index c.args.value inside (λ zero. w.if-value-eq0.false zero)
    ] in
    c.set_word.ensures.set ∙ written-word l v c.args.frame c.args.index c.args.value words there some
