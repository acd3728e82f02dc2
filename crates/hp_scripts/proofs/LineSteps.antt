-- The steps that lines become: which lines are a step as they are, and how many there are of a kind.
use Rattle.std.proofs.Common.{◌≡◌, ℕ, ◌+◌, ◌==◌, Bool, true, false, cond, if◌then◌else◌, List, [], ◌∷◌, ◌++◌, take, length, Option, Some, None, slice_get, refl, ap, arith, append_assoc, inl, inr}
use Rattle.std.specs.Prelude.{◌&&◌, ◌||◌}
use Rattle.std.specs.List.{count_by}
use Rattle.std.specs.Option.{option_flatten}
use Rattle.std.proofs.lemmas.Bool.{eq-eqb}
use Rattle.std.proofs.lemmas.List.Sums.{sum_by-append}
use Rattle.hp_units.specs.Marks.{is_opening, mark_of}
use Rattle.hp_units.specs.declared.events.Event.{Event}
use Rattle.hp_units.specs.declared.events.Event.TheVariants as event
use Rattle.hp_units.specs.declared.plans.Item.{Item}
use Rattle.hp_laws.proofs.Options.{cases_option}
use Rattle.hp_scenario.specs.Asked as asks
use Rattle.hp_scenario.specs.declared.lines.Line.{Line}
use Rattle.hp_schedules.specs.Scripts.{step_work_of, takes_frame}
use Rattle.hp_schedules.specs.declared.scripts.OwnWork.{OwnWork}
use Rattle.hp_schedules.specs.declared.scripts.Step.{Step}
use Rattle.hp_schedules.specs.declared.scripts.Step.TheVariants.{Ask, Own, Carry}
use Rattle.hp_schedules.specs.declared.scripts.StepWork.{StepWork}
use Rattle.hp_scripts.specs.Begins.{asked_begins, line_begins}
use Rattle.hp_scripts.specs.ScriptResults.{asked_allocs, asked_on, is_free, named_at, work_in}
use Rattle.hp_scripts.specs.Scripts.{event_step, explored, step_for, steps_in, steps_of}
use Rattle.hp_scripts.proofs.StepCounts.{counted_first, step_allocs, step_begins}

-- ---- which work a line may do on a result

no_result : (cpu : ℕ) (earlier : List Line) (source : ℕ) (line : Line) (e : Event) → work_in e ≡ None
    → is_free e ≡ false → asked_on cpu earlier source line (asks.event e) ≡ None
no_result cpu earlier source line e work free = grind (arith, work, free)

not_named : (cpu : ℕ) (lines : List Line) (sources : List (Option ℕ)) (place : ℕ) (e : Event)
    → work_in e ≡ None → is_free e ≡ false → named_at cpu lines sources place (asks.event e) ≡ None
not_named cpu lines sources place e work free =
    elim (cases_option (option_flatten (slice_get sources place))) [
      | inl none ↦ rw none
      | inr source ↦ rw source.1 (elim (cases_option (slice_get (take place lines) source.0)) [
        | inl none ↦ rw none
        | inr line ↦ rw line.1 (no_result cpu (take place lines) source.0 line.0 e work free)
      ])
    ]

-- ---- one line

-- a line that begins an operation or asks for a block is that step
abbrev pub Plainly : Event → Type 0
Plainly e =
    (work_in e ≡ None) × (is_free e ≡ false) × ((op : ℕ) (begun : Bool) → event_step op begun None e ≡ Ask e)

pub opening_plainly : (e : Event) → is_opening (mark_of e) ≡ true → Plainly e
opening_plainly (event.Begin plan) is = (refl, refl, λ op begun. refl)
opening_plainly e is = absurd cc

pub alloc_plainly : (e : Event) → takes_frame e ≡ true → Plainly e
alloc_plainly (event.KernelAlloc order) is = (refl, refl, λ op begun. refl)
alloc_plainly e is = absurd cc

-- a line that works on an event, as it is or with a name
module _ (cpu op : ℕ) (begun : Bool) (lines : List Line) (sources : List (Option ℕ)) (place : ℕ)
    (line : Line) (e : Event) (own : line.cpu ≡ cpu) (asked : asks.asked_by line.work ≡ asks.event e) where
  pub plain_step : Plainly e
      → step_for cpu op begun (named_at cpu lines sources place (asks.asked_by line.work)) line ≡ Some (Ask e)
  plain_step plain =
      rw (
        own,
        eq-eqb cpu cpu refl,
        asked,
        not_named cpu lines sources place e plain.0 plain.1,
        plain.2 op begun,
      )

  pub named_step : (work : OwnWork) → named_at cpu lines sources place (asks.event e) ≡ Some work
      → step_for cpu op begun (named_at cpu lines sources place (asks.asked_by line.work)) line
      ≡ Some (Own work)
  named_step work named = rw (own, eq-eqb cpu cpu refl, asked, named)

-- ---- what is counted of lines is counted of their steps

pub record CountsLines (q : Event → Bool) (s : Step → Bool) (m : asks.Meaning → Bool) : Type 0 where
  pub asks_it : (e : Event) → s (Ask e) ≡ q e
  pub owns_it : (work : OwnWork) → s (Own work) ≡ false
  pub event_it : (e : Event) → m (asks.event e) ≡ q e
  pub plan_it : (items : List Item) (turns : ℕ) → s (Carry items turns) ≡ m (asks.plan items turns)
  pub other_it : (x : asks.Meaning) → explored 0 false None x ≡ None → m x ≡ false
  pub work_it : (op : ℕ) (w : StepWork) → q (step_work_of op w) ≡ false
  pub plain_it : (e : Event) → q e ≡ true → Plainly e

pub begins_lines : CountsLines (λ e. is_opening (mark_of e)) step_begins asked_begins
begins_lines = record {
  asks_it = λ e. refl;
  owns_it = λ work. refl;
  event_it = λ e. refl;
  plan_it = λ items turns. refl;
  other_it = λ x none. grind arith;
  work_it = λ op w. grind arith;
  plain_it = opening_plainly;
}

pub allocs_lines : CountsLines takes_frame step_allocs asked_allocs
allocs_lines = record {
  asks_it = λ e. refl;
  owns_it = λ work. refl;
  event_it = λ e. refl;
  plan_it = λ items turns. refl;
  other_it = λ x none. grind arith;
  work_it = λ op w. grind arith;
  plain_it = alloc_plainly;
}

module _ {q : Event → Bool} {s : Step → Bool} {m : asks.Meaning → Bool} (c : CountsLines q s m) (cpu op : ℕ)
    (lines : List Line) (sources : List (Option ℕ)) where
  -- one line
  step_counted : (begun : Bool) (named : Option OwnWork) (e : Event) → (q e ≡ true → named ≡ None)
      → s (event_step op begun named e) ≡ q e
  step_counted begun named e plain = grind (arith, c.owns_it, c.asks_it, c.work_it, c.plain_it, plain)

  line_counted : (begun : Bool) (place : ℕ) (own : Bool) (meaning : asks.Meaning)
      → count_by s (steps_of (if own then explored op begun (named_at cpu lines sources place meaning) meaning
      else None)) ≡ cond (own && m meaning) 1 0
  line_counted begun place false meaning = refl
  line_counted begun place true (asks.event e) =
      rw (
        step_counted begun (named_at cpu lines sources place (asks.event e)) e
            (λ is. let plain = c.plain_it e is in not_named cpu lines sources place e plain.0 plain.1),
        c.event_it e,
      ) (omega arith)
  line_counted begun place true (asks.plan items turns) = rw (c.plan_it items turns) (omega arith)
  line_counted begun place true meaning = rw (c.other_it meaning refl) refl

  -- all lines
  pub steps_counted : (begun : Bool) (place : ℕ) (left : List Line)
      → count_by s (steps_in cpu op begun lines sources place left)
      ≡ count_by (λ (line : Line). (line.cpu == cpu) && m (asks.asked_by line.work)) left
  steps_counted begun place [] = refl
  steps_counted begun place (line ∷ left) =
      let meaning = asks.asked_by line.work in
      rw (
        sum_by-append (λ (x : Step). cond (s x) 1 0) (steps_of
            (step_for cpu op begun (named_at cpu lines sources place meaning) line))
            (steps_in cpu op (begun || line_begins cpu line) lines sources (place + 1) left),
        line_counted begun place (line.cpu == cpu) meaning,
        steps_counted (begun || line_begins cpu line) (place + 1) left,
        counted_first (λ (l : Line). (l.cpu == cpu) && m (asks.asked_by l.work)) line left,
      )

-- ---- the steps of lines, and of further ones

abbrev pub begun_after : (cpu : ℕ) → Bool → List Line → Bool
begun_after cpu begun [] = begun
begun_after cpu begun (line ∷ lines) = begun_after cpu (begun || line_begins cpu line) lines

pub steps_split : (cpu op : ℕ) (begun : Bool) (lines : List Line) (sources : List (Option ℕ)) (place : ℕ)
    (xs ys : List Line)
    → steps_in cpu op begun lines sources place (xs ++ ys)
    ≡ steps_in cpu op begun lines sources place xs
    ++ steps_in cpu op (begun_after cpu begun xs) lines sources (place + length xs) ys
steps_split cpu op begun lines sources place [] ys =
    ap (λ (n : ℕ). steps_in cpu op begun lines sources n ys) (omega arith)
steps_split cpu op begun lines sources place (line ∷ xs) ys =
    let past : (place + 1) + length xs ≡ place + length (line ∷ xs) = omega arith in
    rw (
      steps_split cpu op (begun || line_begins cpu line) lines sources (place + 1) xs ys,
      past,
      append_assoc,
    )
