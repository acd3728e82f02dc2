-- Findings that are added by one step after another.
use Rattle.std.proofs.Common.{◌≡◌, ℕ, ◌+◌, ◌<◌, Bool, true, false, ◌&&◌, List, [], ◌∷◌, ◌++◌, length, get_or, take, Option, None, refl, sym, ap, append_assoc, append-nil, arith}
use Rattle.std.specs.List.{list_all}
use Rattle.std.specs.Option.{option_or}
use Rattle.std.proofs.lemmas.List.{length-take, take_more}
use Rattle.std.proofs.lemmas.List.Elements.{All-append, All-cons, All-nil, All-weaker}
use Rattle.std.proofs.lemmas.List.Folds.{list_all_more}
use Rattle.hp_scenario.specs.declared.fault.ScenarioFault.{ScenarioFault}
use Rattle.hp_check.specs.Adds.{Adds, IsFirst, first_at, lacks}
use Rattle.hp_check.specs.declared.finding.Finding.{Finding}

-- ---- one step

pub none_added : (P : Finding → Type 0) (old : List Finding) → Adds P None old old
none_added P old = record { added = []; is = sym (append-nil old); each = All-nil P; first = refl }

pub one_added : (P : Finding → Type 0) (fault : Option ScenarioFault) (f : Finding) (old new : List Finding)
    → new ≡ old ++ f ∷ [] → P f → IsFirst fault (f ∷ []) → Adds P fault old new
one_added P fault f old new is cause first = grind (arith, All-cons, All-nil)

pub of_fault : {P : Finding → Type 0} {a b : Option ScenarioFault} {old new : List Finding} → a ≡ b
    → Adds P a old new → Adds P b old new
of_fault e h = rw e at h

pub by_cause : {P Q : Finding → Type 0} {fault : Option ScenarioFault} {old new : List Finding}
    → ((f : Finding) → P f → Q f) → Adds P fault old new → Adds Q fault old new
by_cause {P} {Q} weaker h = grind (arith, All-weaker)

-- what is added to no findings
pub from_none : {P : Finding → Type 0} {fault : Option ScenarioFault} {old new : List Finding} → old ≡ []
    → Adds P fault old new → Adds P fault [] new
from_none e h = rw e at h

-- ---- two steps

pub both_added : {P : Finding → Type 0} {a b : Option ScenarioFault} {old mid new : List Finding}
    → Adds P a old mid → Adds P b mid new → Adds P (option_or a b) old new
both_added {P} {a} {b} one two = record {
  added = one.added ++ two.added;
  is = rw (two.is, one.is, append_assoc);
  each = All-append P one.added two.added one.each two.each;
  first = grind (arith, one.first, two.first);
}

pub both_lack : (a b : Bool) {P : Finding → Type 0} {old mid new : List Finding}
    → Adds P (lacks a) old mid → Adds P (lacks b) mid new → Adds P (lacks (a && b)) old new
both_lack true b one two = both_added one two
both_lack false b one two = both_added one two

pub of_test : {P : Finding → Type 0} {a b : Bool} {old new : List Finding} → a ≡ b
    → Adds P (lacks a) old new → Adds P (lacks b) old new
of_test e h = of_fault (ap lacks e) h

-- ---- a loop

pub or_assoc : (a b c : Option ScenarioFault) → option_or (option_or a b) c ≡ option_or a (option_or b c)
or_assoc a b c = grind arith

pub or_none : (a : Option ScenarioFault) → option_or a None ≡ a
or_none a = grind arith

last_at : {X : Type 0} (f : ℕ → X → Option ScenarioFault) (number : ℕ) (xs : List X) (x : X)
    → first_at f number (xs ++ x ∷ []) ≡ option_or (first_at f number xs) (f (number + length xs) x)
last_at f number [] x = grind (arith, or_none)
last_at f number (y ∷ ys) x = grind (arith, or_assoc, (last_at f (number + 1) ys x))

-- one item more
pub item_added : {X : Type 0} {P : Finding → Type 0} (f : ℕ → X → Option ScenarioFault) (xs : List X) (i : ℕ)
    (d : X) {old now next : List Finding}
    → i < length xs → Adds P (first_at f 1 (take i xs)) old now → Adds P (f (i + 1) (get_or xs i d)) now next
    → Adds P (first_at f 1 (take (i + 1) xs)) old next
item_added f xs i d lt so_far more =
    let counted : 1 + length (take i xs) ≡ i + 1 = omega (arith, length-take i xs) in
    rw (take_more xs i d lt, last_at f 1 (take i xs) (get_or xs i d), counted) (both_added so_far more)

-- the same for a test of each item
pub test_added : {X : Type 0} {P : Finding → Type 0} (p : X → Bool) (xs : List X) (i : ℕ) (d : X)
    {old now next : List Finding}
    → i < length xs → Adds P (lacks (list_all p (take i xs))) old now
    → Adds P (lacks (p (get_or xs i d))) now next
    → Adds P (lacks (list_all p (take (i + 1) xs))) old next
test_added p xs i d lt so_far more = rw (list_all_more p xs i d lt) (both_lack _ _ so_far more)
