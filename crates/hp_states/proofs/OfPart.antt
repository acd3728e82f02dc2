-- Which part schedules belong to, by what they begin with; and the only part of one.
use Rattle.std.proofs.Common.{◌≡◌, ℕ, ◌≤◌, List, [], ◌∷◌, ◌++◌, Some, length, take, refl, ◌∙◌, arith}
use Rattle.std.proofs.lemmas.List.{length-append, length_push, take-append-le}
use Rattle.hp_units.specs.declared.replies.Record.{Record}
use Rattle.hp_schedules.specs.Alike.{AreAlike, AreMergeable}
use Rattle.hp_schedules.specs.Ends.{AreCounted}
use Rattle.hp_schedules.specs.Orders.{Extends}
use Rattle.hp_schedules.specs.Parts.{AllOfPart, ComesTo, IsOfPart, IsOn, PartValue, part_number}
use Rattle.hp_schedules.specs.Schedules.{Setting, plays}
use Rattle.hp_schedules.specs.Shares.{AddsCounts}
use Rattle.hp_schedules.specs.declared.tally.Ending.{Ending}
use Rattle.hp_states.specs.Seen.{IsSeen, SeenValue}
use Rattle.hp_states.specs.Walks.{Before, BeforeInPart, Through, ThroughInPart}
use Rattle.hp_schedules.proofs.Counts.{same_counted}
use Rattle.hp_states.proofs.Merges.{merged}

-- a schedule begins with the same calls as a place that it goes on from
same_number : (n : ℕ) (part : PartValue) (p s : List ℕ) → part.calls ≤ length p → Extends s p
    → part_number n part.of (take part.calls s) ≡ part_number n part.of (take part.calls p)
same_number n part p s long on = grind (arith, take-append-le)

-- so it belongs to the place's part
pub all_of : (n : ℕ) (part : PartValue) (p : List ℕ) → part.calls ≤ length p → IsOfPart n part p
    → AllOfPart n part p
all_of n part p long of s on = same_number n part p s long on ∙ of

-- a search of a part goes on from none of the schedules that go on from a place
abbrev pub NoneOfPart : (processors : ℕ) → PartValue → List ℕ → Type 0
NoneOfPart processors part place = (s : List ℕ) → Extends s place → ComesTo processors part s → ⊥

pub none_of : (n : ℕ) (part : PartValue) (p : List ℕ) → part.calls ≤ length p → (IsOfPart n part p → ⊥)
    → NoneOfPart n part p
none_of n part p long apart s on comes = grind (arith, length-append, same_number)

-- the places that the search of a part comes to
pub comes_all : (n : ℕ) (part : PartValue) (p : List ℕ) → ComesTo n part p → part.calls ≤ length p
    → AllOfPart n part p
comes_all n part p comes long = grind (arith, all_of)

pub comes_on : (n : ℕ) (part : PartValue) (p : List ℕ) (cpu : ℕ) → ComesTo n part p
    → IsOn n part (p ++ cpu ∷ [])
comes_on n part p cpu comes more = grind (arith, length_push, all_of)

-- ---- the only part of one

abbrev pub whole : PartValue
whole = record { index = 0; of = 1; calls = 0 }

pub merged_all : (g : Setting) (q : List ℕ) (k : List Record) (seen : SeenValue) (old new : List Ending)
    → AreMergeable g.scripts → plays g q ≡ Some k → AreAlike g seen.news k → IsSeen g old seen
    → AreCounted (Before g q) old → AddsCounts old seen.counts new → AreCounted (Through g q) new
merged_all g q k seen old new all second alike is ok adds =
    same_counted (ThroughInPart g whole q) (Through g q) new (λ s x h. (h.0, h.1.0))
    (λ s x h. (h.0, (h.1, refl)))
    (merged g whole q k seen old new (λ s on. refl) all second alike is
    (same_counted (Before g q) (BeforeInPart g whole q) old (λ s x h. (h.0, (h.1, refl)))
    (λ s x h. (h.0, h.1.0)) ok) adds)
