-- The results of the steps of a script, in the receipts of its processor.
use Rattle.std.proofs.Common.{◌≡◌, ℕ, Bool, true, List, [], ◌∷◌, ◌++◌, Some, get_or, map, filter, fold, refl, ap, sym, ◌∙◌, arith, append-nil}
use Rattle.std.specs.List.{count_by}
use Rattle.std.proofs.lemmas.List.Sums.{fold-append}
use Rattle.std.proofs.lemmas.Option.{same_Some}
use Rattle.hp_units.specs.Marks.{is_opening, mark_of}
use Rattle.hp_units.specs.declared.events.Event.{Event}
use Rattle.hp_units.specs.declared.replies.Receipt.{Receipt}
use Rattle.hp_schedules.specs.Scripts.{after_line, after_lines, frame_in, frames_of, later_operation, no_frame, nothing_known, operations_of, own_operation, takes_frame}
use Rattle.hp_schedules.specs.declared.scripts.Step.{Step}
use Rattle.hp_schedules.specs.declared.scripts.Step.TheVariants.{Ask}
use Rattle.hp_schedules.proofs.AfterLines.{after_parts, first_then, lines_before, lines_parts}
use Rattle.hp_schedules.proofs.Lines.{over_now}
use Rattle.hp_scripts.proofs.StepCounts.{AreCalled, allocs_count, begins_count, called_later, called_past, counted_first, lines_count, step_allocs, step_begins}

-- ---- what is found

-- the receipt of the call that the step after `front` made
pub record FirstAfter (cpus : ℕ) (front : List Step) (receipts : List Receipt) : Type 0 where
  pub before : List Receipt
  pub own : Receipt
  pub later : List Receipt
  pub whole : receipts ≡ before ++ own ∷ later
  pub over : after_lines cpus nothing_known front before ≡ Some []

-- the numbers by which later steps find the result of the step after `front`, which asks for `event`:
-- the operation that the call began is the one of this number, and the latest if none of the steps in
-- between begins one; the frame that the call took is the one of this number
pub record IsFound (cpus : ℕ) (front between : List Step) (event : Event) (receipts : List Receipt)
    : Type 0 where
  pub first : FirstAfter cpus front receipts
  pub asked : first.own.event ≡ event
  pub begun : is_opening (mark_of event) ≡ true
      → get_or (operations_of receipts) (count_by step_begins front) 0 ≡ first.own.serial
  pub latest : is_opening (mark_of event) ≡ true → count_by step_begins between ≡ 0
      → own_operation receipts ≡ first.own.serial
  pub taken : takes_frame event ≡ true
      → get_or (frames_of receipts) (count_by step_allocs front) no_frame ≡ frame_in first.own.reply

-- ---- a list with one that is counted

nth_there : (p : Receipt → Bool) (f : Receipt → ℕ) (past later : List Receipt) (r : Receipt) (none : ℕ)
    → p r ≡ true → get_or (map f (filter p (past ++ r ∷ later))) (count_by p past) none ≡ f r
nth_there p f [] later r none is = rw is
nth_there p f (x ∷ past) later r none is =
    grind (arith, counted_first p x past, nth_there p f past later r none is)

-- after it, none that begins an operation
latest_stays : (op : ℕ) (rs : List Receipt)
    → count_by (λ (r : Receipt). is_opening (mark_of r.event)) rs ≡ 0
    → fold later_operation op rs ≡ op
latest_stays op [] none = refl
latest_stays op (r ∷ rs) none =
    grind (arith, counted_first (λ (x : Receipt). is_opening (mark_of x.event)) r rs, latest_stays op rs)

-- ---- the step after `front`

-- a step that asks for an event takes one receipt
takes_one : (cpus : ℕ) (event : Event) (own : List Receipt)
    → after_line cpus nothing_known (Ask event) [] own ≡ Some [] → (one : Receipt) × (own ≡ one ∷ [])
takes_one cpus event [] over = absurd cc
takes_one cpus event (r ∷ rs) over =
    let left = sym (over_now cpus nothing_known (Ask event) (r ∷ []) rs refl) ∙ over in
    (r, ap (λ (xs : List Receipt). r ∷ xs) (same_Some rs [] left))

-- the receipts of `front`, then the one, then those of the steps in between
parted : (cpus : ℕ) (front between : List Step) (event : Event) (receipts : List Receipt)
    → after_lines cpus nothing_known (front ++ Ask event ∷ between) receipts ≡ Some []
    → (first : FirstAfter cpus front receipts)
    × (after_lines cpus nothing_known between first.later ≡ Some [])
parted cpus front between event receipts over =
    let b = lines_before cpus nothing_known front (Ask event ∷ between) receipts [] over in
    let p = lines_parts cpus nothing_known front receipts b.left b.before in
    let f = first_then cpus nothing_known (Ask event) between b.left [] b.then in
    let o = after_parts cpus nothing_known (Ask event) [] b.left f.left f.first in
    let t = takes_one cpus event o.own o.over in
    let whole =
    p.whole ∙ ap (λ (xs : List Receipt). p.own ++ xs) (o.whole
    ∙ ap (λ (xs : List Receipt). xs ++ f.left) t.1) in
    (record { before = p.own; own = t.0; later = f.left; whole = whole; over = p.over }, f.others)

pub found : (cpus : ℕ) (front between later : List Step) (event : Event) (receipts : List Receipt)
    → AreCalled cpus (front ++ Ask event ∷ (between ++ later)) receipts
    → after_lines cpus nothing_known (front ++ Ask event ∷ between) receipts ≡ Some []
    → IsFound cpus front between event receipts
found cpus front between later event receipts called over =
    let both = parted cpus front between event receipts over in
    let p = both.0 in
    let others = Ask event ∷ (between ++ later) in
    let parts = called_later cpus (front ++ others) [] p.before (p.own ∷ p.later) (rw p.whole at called) in
    let begun = lines_count begins_count cpus front others p.before parts.0 p.over in
    let taken = lines_count allocs_count cpus front others p.before parts.0 p.over in
    let here = called_past cpus front others p.before [] (p.own ∷ p.later) p.over
    (rw (append-nil p.before) parts.1) in
    let asked : p.own.event ≡ event = same_Some p.own.event event (sym here.0.1) in
    let after = called_past cpus (Ask event ∷ []) (between ++ later) (p.own ∷ []) [] p.later refl here.1 in
    let between_begun = lines_count begins_count cpus between later p.later after both.1 in
    record {
      first = p;
      asked = asked;
      begun = λ opening.
          ap (λ (rs : List Receipt). get_or (operations_of rs) (count_by step_begins front) 0) p.whole
          ∙ rw (← begun) (nth_there (λ r. is_opening (mark_of r.event)) (λ r. r.serial) p.before p.later p.own
          0 (rw asked opening));
      latest = λ opening none.
          ap own_operation p.whole
          ∙ (fold-append later_operation 0 p.before (p.own ∷ p.later)
          ∙ (ap (λ (op : ℕ). fold later_operation op p.later)
          (last_begins (fold later_operation 0 p.before) p.own (rw asked opening))
          ∙ latest_stays p.own.serial p.later (between_begun ∙ none)));
      taken = λ takes.
          ap (λ (rs : List Receipt). get_or (frames_of rs) (count_by step_allocs front) no_frame) p.whole
          ∙ rw (← taken) (nth_there (λ r. takes_frame r.event) (λ r. frame_in r.reply) p.before p.later p.own
          no_frame (rw asked takes));
    }
  where
    last_begins : (op : ℕ) (r : Receipt) → is_opening (mark_of r.event) ≡ true
        → later_operation op r ≡ r.serial
    last_begins op r is = rw is refl
