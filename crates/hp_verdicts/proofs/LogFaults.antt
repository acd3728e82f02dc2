-- All faults of a log, one event on; and that a log without any is lawful.
use Rattle.std.proofs.Common.{◌≡◌, ℕ, zero, suc, ◌+◌, ◌<◌, ◌≤◌, ◌⊎◌, List, [], ◌∷◌, ◌++◌, length, take, Some, refl, sym, ◌∙◌, ap, subst, add-one, inl, inr, arith}
use Rattle.std.specs.Prelude.{slice_get}
use Rattle.std.proofs.Math.Seq.{take-length, take-append_seam}
use Rattle.std.proofs.lemmas.List.{take-append-le, take_more}
use Rattle.std.proofs.Math.ListN.{get_or-append}
use Rattle.std.proofs.lemmas.Option.{get_or_from_slice_get, slice_get_within, slice_get-get_or}
use Rattle.hp_verdicts.specs.Names.{LogEvent, MachineSize, Fault, NumberedFault}
use Rattle.hp_judge.specs.Laws.{IsLawful}
use Rattle.hp_judge.specs.Verdicts.{MayFollow, Explains, FaultsTo}
use Rattle.hp_judge.proofs.Lawful.{explained_apart, lawful_front, lawful_last, lawful_none, lawful_push}

pub length_push : (log : List LogEvent) (e : LogEvent) → length (log ++ e ∷ []) ≡ suc (length log)
length_push [] e = refl
length_push (x ∷ log) e = ap suc (length_push log e)

last_item : (log : List LogEvent) (e : LogEvent) → slice_get (log ++ e ∷ []) (length log) ≡ Some e
last_item [] e = refl
last_item (x ∷ log) e = last_item log e

item_kept : (log : List LogEvent) (e x : LogEvent) (k : ℕ) → slice_get log k ≡ Some x
    → slice_get (log ++ e ∷ []) k ≡ Some x
item_kept log e x k is =
    let low : k < length log = slice_get_within log k x is in
    let more : k < length (log ++ e ∷ []) = rw (length_push log e) (omega (arith, low)) in
    slice_get-get_or (log ++ e ∷ []) k x more
    ∙ ap (λ (y : LogEvent). Some y)
    (get_or-append log (e ∷ []) x k low ∙ get_or_from_slice_get log k x x is)

-- how the faults of one event more came about
abbrev Step : MachineSize → List LogEvent → LogEvent → ℕ → List NumberedFault → Type 0
Step m log x k faults = (MayFollow m (take k log) x × FaultsTo m log k faults)
    ⊎ ((f : Fault) × (front : List NumberedFault) × (faults ≡ front ++ record { number = k; fault = f } ∷ [])
    × Explains m (take k log) x f × FaultsTo m log k front)

step_kept : (m : MachineSize) (log : List LogEvent) (e x : LogEvent) (k : ℕ) (faults : List NumberedFault)
    → k ≤ length log
    → ((some : List NumberedFault) → FaultsTo m log k some → FaultsTo m (log ++ e ∷ []) k some)
    → Step m log x k faults → Step m (log ++ e ∷ []) x k faults
step_kept m log e x k faults le on xx = grind (arith, take-append-le)

-- an event more leaves the faults of those before it
pub faults_kept : (m : MachineSize) (log : List LogEvent) (e : LogEvent) (k : ℕ) (faults : List NumberedFault)
    → k ≤ length log → FaultsTo m log k faults → FaultsTo m (log ++ e ∷ []) k faults
faults_kept m log e zero faults le h = h
faults_kept m log e (suc k) faults le h =
    let low : k ≤ length log = omega (arith, le) in (
      h.0,
      item_kept log e h.0 k h.1,
      step_kept m log e h.0 k faults low (λ some is. faults_kept m log e k some low is) h.2,
    )

pub lawful_more : (m : MachineSize) (log : List LogEvent) (e : LogEvent) (all : List NumberedFault)
    → FaultsTo m log (length log) all → MayFollow m log e
    → FaultsTo m (log ++ e ∷ []) (length (log ++ e ∷ [])) all
lawful_more m log e all h may = grind (arith, length_push, last_item, take-append_seam, faults_kept)

pub fault_more : (m : MachineSize) (log : List LogEvent) (e : LogEvent) (all : List NumberedFault) (f : Fault)
    (n : ℕ) → length log ≡ n
    → FaultsTo m log (length log) all → Explains m log e f
    → FaultsTo m (log ++ e ∷ []) (length (log ++ e ∷ [])) (all ++ record { number = n; fault = f } ∷ [])
fault_more m log e all f n is h why = grind (arith, length_push, last_item, take-append_seam, faults_kept)

-- ---- no faults

take_item : (log : List LogEvent) (k : ℕ) (e : LogEvent) → slice_get log k ≡ Some e
    → take (suc k) log ≡ take k log ++ e ∷ []
take_item log k e is =
    let low : k < length log = slice_get_within log k e is in
    let more : take (k + 1) log ≡ take k log ++ e ∷ [] =
    take_more log k e low
    ∙ ap (λ (x : LogEvent). take k log ++ x ∷ []) (get_or_from_slice_get log k e e is) in
    subst (λ (n : ℕ). take n log ≡ take k log ++ e ∷ []) (add-one k) more

not_empty : (front : List NumberedFault) (f : NumberedFault) → [] ≡ front ++ f ∷ [] → ⊥
not_empty [] f h = cc h
not_empty (x ∷ front) f h = cc h

pub none_to_lawful : (m : MachineSize) (log : List LogEvent) (k : ℕ) → FaultsTo m log k []
    → IsLawful m (take k log)
none_to_lawful m log zero h = lawful_none m
none_to_lawful m log (suc k) h =
    subst (λ (l : List LogEvent). IsLawful m l) (sym (take_item log k h.0 h.1))
    (of h.2 (λ is. none_to_lawful m log k is))
  where
    of : Step m log h.0 k [] → (FaultsTo m log k [] → IsLawful m (take k log))
        → IsLawful m (take k log ++ h.0 ∷ [])
    of (inl s) on = lawful_push m (take k log) h.0 (on s.1) s.0
    of (inr s) on = absurd (not_empty s.1 (record { number = k; fault = s.0 }) s.2)

pub lawful_to_none : (m : MachineSize) (log : List LogEvent) (k : ℕ) (all : List NumberedFault)
    → FaultsTo m log k all → IsLawful m (take k log) → all ≡ []
lawful_to_none m log zero all h is = h
lawful_to_none m log (suc k) all h is =
    let more : IsLawful m (take k log ++ h.0 ∷ []) =
    subst (λ (l : List LogEvent). IsLawful m l) (take_item log k h.0 h.1) is in
    of h.2 more (λ some. lawful_to_none m log k all some (lawful_front m (take k log) h.0 more))
  where
    of : Step m log h.0 k all → IsLawful m (take k log ++ h.0 ∷ []) → (FaultsTo m log k all → all ≡ [])
        → all ≡ []
    of (inl s) more on = on s.1
    of (inr s) more on =
        absurd (explained_apart m (take k log) h.0 s.0 s.3 (lawful_last m (take k log) h.0 more))

pub lawful_of_none : (m : MachineSize) (log : List LogEvent) (all : List NumberedFault)
    → FaultsTo m log (length log) all → all ≡ [] → IsLawful m log
lawful_of_none m log all h none = grind (arith, take-length, none_to_lawful)

pub none_of_lawful : (m : MachineSize) (log : List LogEvent) (all : List NumberedFault)
    → FaultsTo m log (length log) all → IsLawful m log → all ≡ []
none_of_lawful m log all h is = grind (arith, lawful_to_none, take-length)
