-- Equal marks have equal parts.
use Rattle.std.proofs.Common.{◌≡◌, ℕ, ◌<◌, Bool, true, false, List, ◌∷◌, ◌++◌, length, sym, ◌∙◌, arith}
use Rattle.std.proofs.lemmas.List.{length-append}
use Rattle.std.proofs.lemmas.List.FromFn.{length-map-range_with_len}
use Rattle.std.proofs.lemmas.Option.{same_Some}
use Rattle.hp_units.specs.declared.replies.Record.{Record}
use Rattle.hp_schedules.specs.Outcomes.{replies_to}
use Rattle.hp_schedules.specs.Starts.{same_starts}
use Rattle.hp_schedules.specs.declared.scripts.Step.{Step}
use Rattle.hp_questions.specs.Marks.{AreCountedIf, AreMarks, asks_no_places}
use Rattle.hp_questions.specs.declared.wanted.Wanted.{Wanted}
use Rattle.hp_questions.proofs.Places.{at_range}

counts_long : (none : Bool) (n : ℕ) (h k : List Record) (xs ys : List ℕ) → AreCountedIf none n h xs
    → AreCountedIf none n k ys → length xs ≡ length ys
counts_long true n h k xs ys a b = rw (a, b)
counts_long false n h k xs ys a b = rw (a, b) (simp length-map-range_with_len)

-- marks for the same lines are equally long
pub marks_long : (cpus : ℕ) (scripts : List (List Step)) (wanted : List Wanted) (n : ℕ)
    (h k : List Record) (marks others : List ℕ)
    → AreMarks cpus scripts wanted n h marks → AreMarks cpus scripts wanted n k others
    → length marks ≡ length others
marks_long cpus scripts wanted n h k marks others a b =
    rw (a.parts, b.parts) (simp length-append
    (let long = counts_long (asks_no_places wanted) n h k a.counts b.counts a.counts_are b.counts_are in
    omega (arith, long, a.met_are.0, b.met_are.0)))

-- equal marks have equal parts
pub same_marks : (cpus : ℕ) (scripts : List (List Step)) (wanted : List Wanted) (n : ℕ)
    (h k : List Record) (marks : List ℕ)
    → (a : AreMarks cpus scripts wanted n h marks) → (b : AreMarks cpus scripts wanted n k marks)
    → (length h ≡ length k) × (a.counts ≡ b.counts) × (a.met ≡ b.met)
same_marks cpus scripts wanted n h k marks a b =
    let same : length h ∷ (a.counts ++ a.met) ≡ length k ∷ (b.counts ++ b.met) = sym a.parts ∙ b.parts in
    let parts =
    same_starts a.counts a.met b.counts b.met
    (counts_long (asks_no_places wanted) n h k a.counts b.counts a.counts_are b.counts_are) (cc) in
    (cc, parts.0, parts.1)

pub same_calls : (none : Bool) (n : ℕ) (h k : List Record) (xs ys : List ℕ) → none ≡ false → xs ≡ ys
    → AreCountedIf none n h xs → AreCountedIf none n k ys
    → (cpu : ℕ) → cpu < n → length (replies_to cpu h) ≡ length (replies_to cpu k)
same_calls true n h k xs ys is same a b cpu within = absurd cc
same_calls false n h k xs ys is same a b cpu within =
    same_Some (length (replies_to cpu h)) (length (replies_to cpu k))
    (sym (at_range (λ (c : ℕ). length (replies_to c h)) n cpu within)
    ∙ rw (← a, same, b) (at_range (λ (c : ℕ). length (replies_to c k)) n cpu within))
