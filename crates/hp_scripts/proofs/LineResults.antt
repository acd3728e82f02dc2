-- In each interleaving a line with a name works on the result that the named line got there.
use Rattle.std.proofs.Common.{◌≡◌, ℕ, ◌+◌, ◌==◌, Bool, true, false, List, [], ◌∷◌, ◌++◌, drop, take, length, Option, Some, slice_get, refl, ap, sym, ◌∙◌, arith, append_assoc, append-nil, inl, inr}
use Rattle.std.specs.Prelude.{◌&&◌, ◌||◌}
use Rattle.std.specs.List.{count_by}
use Rattle.std.proofs.lemmas.Bool.{and_parts, cases_Bool, eqb-true}
use Rattle.std.proofs.lemmas.List.{length-take, take-append-drop, take-append-le}
use Rattle.std.proofs.lemmas.Option.{none-some, option_and_then_some, same_Some, slice_get_within}
use Rattle.hp_units.specs.Marks.{is_opening, mark_of}
use Rattle.hp_units.specs.Receipts.{receipts_of}
use Rattle.hp_units.specs.declared.events.Event.{Event}
use Rattle.hp_units.specs.declared.events.Event.TheVariants as event
use Rattle.hp_units.specs.declared.replies.Receipt.{Receipt}
use Rattle.hp_units.specs.declared.replies.Record.{Record}
use Rattle.hp_laws.proofs.Lists.{get_take}
use Rattle.hp_laws.proofs.Options.{cases_option}
use Rattle.hp_scenario.specs.Asked as asks
use Rattle.hp_scenario.specs.declared.lines.Line.{Line}
use Rattle.hp_schedules.specs.Schedules.{Setting, next_call, plays}
use Rattle.hp_schedules.specs.Scripts.{Known, frame_in, known_of, next_of, step_work_of, takes_frame, work_of}
use Rattle.hp_schedules.specs.declared.scripts.OwnWork.{OwnWork}
use Rattle.hp_schedules.specs.declared.scripts.OwnWork.TheVariants.{Free}
use Rattle.hp_schedules.specs.declared.scripts.Step.{Step}
use Rattle.hp_schedules.specs.declared.scripts.Step.TheVariants.{Ask, Own}
use Rattle.hp_schedules.specs.declared.scripts.StepWork.{StepWork}
use Rattle.hp_schedules.proofs.Asked.{lines_here}
use Rattle.hp_schedules.proofs.Placed.{asked_is}
use Rattle.hp_scripts.specs.Begins.{last_begun, line_begins}
use Rattle.hp_scripts.specs.NamedResults.{AreOfLinesBefore, IsCallOf, event_on, steps_before}
use Rattle.hp_scripts.specs.ScriptResults.{asked_allocs, asked_on, asked_opens, is_free, line_allocs, line_opens, named_at, on_begun, work_in}
use Rattle.hp_scripts.specs.Scripts.{script_of, steps_in, steps_of}
use Rattle.hp_scripts.specs.declared.begins.Begin.{Begin}
use Rattle.hp_scripts.proofs.StepCounts.{next_past}
use Rattle.hp_scripts.proofs.StepResults.{IsFound, found}
use Rattle.hp_scripts.proofs.Calls.{CalledAt, called_on}
use Rattle.hp_scripts.proofs.LineSteps.{CountsLines, Plainly, alloc_plainly, allocs_lines, begins_lines, begun_after, named_step, opening_plainly, plain_step, steps_counted, steps_split}

-- ---- events

opens_event : (m : asks.Meaning) → asked_opens m ≡ true
    → (e : Event) × (m ≡ asks.event e) × (is_opening (mark_of e) ≡ true)
opens_event (asks.event e) is = (e, refl, is)
opens_event m is = absurd cc

allocs_event : (m : asks.Meaning) → asked_allocs m ≡ true
    → (e : Event) × (m ≡ asks.event e) × (takes_frame e ≡ true)
allocs_event (asks.event e) is = (e, refl, is)
allocs_event m is = absurd cc

-- work on a result is the event on it
on_work : (e : Event) (w : StepWork) (call : Receipt) → work_in e ≡ Some w
    → step_work_of call.serial w ≡ event_on call e
on_work e w call is = grind arith

on_free : (e : Event) (call : Receipt) → is_free e ≡ true
    → event.KernelFree (frame_in call.reply) ≡ event_on call e
on_free e call is = grind arith

-- ---- lists

around : {A : Type 0} (xs : List A) (k : ℕ) (x : A) → slice_get xs k ≡ Some x
    → xs ≡ take k xs ++ x ∷ drop (k + 1) xs
around {A} xs k x at =
    sym (take-append-drop k xs) ∙ ap (λ (ys : List A). take k xs ++ ys) (lines_here xs k x at)

length_before : {A : Type 0} (xs : List A) (k : ℕ) (x : A) → slice_get xs k ≡ Some x
    → 0 + length (take k xs) ≡ k
length_before xs k x at = omega (arith, length-take k xs, slice_get_within xs k x at)

-- ---- a line that works on the result of an earlier one

-- after a schedule the processor has made the calls of its lines before the one at `place`, which works
-- on the result of its line at `source`
module _ (g : Setting) (schedule : List ℕ) (news : List Record) (begins : List Begin) (lines : List Line)
    (sources : List (Option ℕ)) (cpu place source : ℕ) (line : Line) (event : Event) (own : OwnWork)
    (played : plays g schedule ≡ Some news)
    (here : slice_get g.scripts cpu ≡ Some (script_of begins lines sources cpu))
    (at : slice_get lines place ≡ Some line) (mine : line.cpu ≡ cpu)
    (asked : asks.asked_by line.work ≡ asks.event event) (src : slice_get sources place ≡ Some (Some source))
    (named : named_at cpu lines sources place (asks.event event) ≡ Some own)
    (over : AreOfLinesBefore g.layout.cpus begins lines sources cpu place (receipts_of cpu news)) where
  abbrev op : ℕ
  op = last_begun cpu begins

  abbrev earlier : List Line
  earlier = take place lines

  abbrev front : List Step
  front = steps_before begins lines sources cpu source

  abbrev rest : List Step
  rest =
      steps_in cpu op (begun_after cpu false earlier || line_begins cpu line) lines sources (place + 1)
      (drop (place + 1) lines)

  abbrev known : Known
  known = known_of (receipts_of cpu news)

  -- its next call is on the result of the call for the line at `source`
  abbrev Called : Type 0
  Called =
      (call : Receipt) × IsCallOf g.layout.cpus begins lines sources cpu source (receipts_of cpu news) call
      × (next_call g cpu news ≡ Some (event_on call event))

  script_is : script_of begins lines sources cpu
      ≡ steps_before begins lines sources cpu place ++ Own own ∷ rest
  script_is =
      ap (steps_in cpu op false lines sources 0) (around lines place line at)
      ∙ (steps_split cpu op false lines sources 0 earlier (line ∷ drop (place + 1) lines)
      ∙ rw (
        length_before lines place line at,
        named_step cpu op (begun_after cpu false earlier) lines sources place line event mine asked own named,
      ))

  next : next_call g cpu news ≡ Some (work_of known own)
  next =
      asked_is g news g.layout.cpus cpu (script_of begins lines sources cpu)
      (next_of g.layout.cpus (script_of begins lines sources cpu) (receipts_of cpu news)) refl here refl
      ∙ rw script_is (rw (append-nil (receipts_of cpu news)) at
      (next_past g.layout.cpus known (steps_before begins lines sources cpu place) (Own own ∷ rest)
      (receipts_of cpu news) [] over))

  called : CalledAt g news cpu (script_of begins lines sources cpu)
  unfolding plays
  called = called_on g cpu (script_of begins lines sources cpu) here schedule [] news tt played

  -- the line at `source` is `first`, which asks for `e`
  module _ (first : Line) (there : slice_get earlier source ≡ Some first) (his : first.cpu ≡ cpu) (e : Event)
      (first_asked : asks.asked_by first.work ≡ asks.event e) (plain : Plainly e) where
    abbrev begun : Bool
    begun = begun_after cpu false (take source earlier)

    abbrev between : List Step
    between =
        steps_in cpu op (begun || line_begins cpu first) lines sources
        ((0 + length (take source earlier)) + 1) (drop (source + 1) earlier)

    front_is : take source earlier ≡ take source lines
    front_is =
        sym (ap (take source) (sym (take-append-drop place lines))
        ∙ take-append-le source earlier (drop place lines)
        (omega (arith, slice_get_within earlier source first there)))

    before_is : steps_before begins lines sources cpu place ≡ front ++ Ask e ∷ between
    before_is =
        ap (steps_in cpu op false lines sources 0) (around earlier source first there)
        ∙ (steps_split cpu op false lines sources 0 (take source earlier) (first ∷ drop (source + 1) earlier)
        ∙ (ap (λ (o : Option Step). steps_in cpu op false lines sources 0 (take source earlier)
        ++ (steps_of o ++ between))
        (plain_step cpu op begun lines sources (0 + length (take source earlier)) first e his first_asked
        plain)
        ∙ ap (λ (ls : List Line). steps_in cpu op false lines sources 0 ls ++ Ask e ∷ between) front_is))

    -- what is counted of the lines before it
    counted : {q : Event → Bool} {s : Step → Bool} {m : asks.Meaning → Bool} (c : CountsLines q s m)
        → count_by s front
        ≡ count_by (λ (x : Line). (x.cpu == cpu) && m (asks.asked_by x.work)) (take source earlier)
    counted c = rw front_is (steps_counted c cpu op lines sources false 0 (take source lines))

    made : IsFound g.layout.cpus front between e (receipts_of cpu news)
    made =
        found g.layout.cpus front between (Own own ∷ rest) e (receipts_of cpu news)
        (rw (script_is, before_is, append_assoc front (Ask e ∷ between)) at called) (rw before_is at over)

    called_by : work_of known own ≡ event_on made.first.own event → Called
    called_by works = (
      made.first.own,
      record {
        line = first;
        here = (get_take place lines first source there).1;
        own = his;
        asked = first_asked ∙ ap (λ (x : Event). asks.event x) (sym made.asked);
        before = made.first.before;
        later = made.first.later;
        whole = made.first.whole;
        over = made.first.over;
      },
      next ∙ ap (λ (x : Event). Some x) works,
    )

    on_operation : is_opening (mark_of e) ≡ true → (w : StepWork) → work_in event ≡ Some w
        → on_begun cpu earlier source w ≡ own → Called
    on_operation opens w works is =
        let on : work_of known (on_begun cpu earlier source w) ≡ event_on made.first.own event =
        elim (cases_Bool (count_by (line_begins cpu) (drop (source + 1) earlier) == 0)) [
          | inl none ↦
              rw (
                none,
                made.latest opens (steps_counted begins_lines cpu op lines sources
                    (begun || line_begins cpu first) ((0 + length (take source earlier)) + 1)
                    (drop (source + 1) earlier)
                    ∙ eqb-true (count_by (line_begins cpu) (drop (source + 1) earlier)) 0 none),
              ) (on_work event w made.first.own works)
          | inr some ↦
              rw (some, ← counted begins_lines, made.begun opens) (on_work event w made.first.own works)
        ] in
        called_by (ap (work_of known) (sym is) ∙ on)

    on_frame : takes_frame e ≡ true → is_free event ≡ true
        → Free (count_by (line_allocs cpu) (take source earlier)) ≡ own → Called
    on_frame takes frees is =
        called_by (ap (work_of known) (sym is)
        ∙ rw (← counted allocs_lines, made.taken takes) (on_free event made.first.own frees))

  -- the line at `source`
  sourced : (first : Line) × (slice_get earlier source ≡ Some first)
      × (asked_on cpu earlier source first (asks.event event) ≡ Some own)
  sourced =
      option_and_then_some (λ (x : Line). asked_on cpu earlier source x (asks.event event))
      (slice_get earlier source) own (rw src at named) (λ first there works. (first, there, works))

  pub named_call : Called
  named_call = elim (cases_Bool (line_opens cpu sourced.0)) [
    | inl opens ↦ elim (cases_option (work_in event)) [
      | inl none ↦ absurd (none-some own (rw (opens, none) at sourced.2))
      | inr w ↦
          (let parts = and_parts (sourced.0.cpu == cpu) (asked_opens (asks.asked_by sourced.0.work)) opens in
          let e = opens_event (asks.asked_by sourced.0.work) parts.1 in
          on_operation sourced.0 sourced.1 (eqb-true sourced.0.cpu cpu parts.0) e.0 e.1
          (opening_plainly e.0 e.2) e.2 w.0 w.1 (same_Some _ own (rw (opens, w.1) at sourced.2)))
    ]
    | inr other ↦ elim (cases_Bool (line_allocs cpu sourced.0 && is_free event)) [
      | inl both ↦
          (let uses = and_parts (line_allocs cpu sourced.0) (is_free event) both in
          let parts = and_parts (sourced.0.cpu == cpu) (asked_allocs (asks.asked_by sourced.0.work)) uses.0 in
          let e = allocs_event (asks.asked_by sourced.0.work) parts.1 in
          on_frame sourced.0 sourced.1 (eqb-true sourced.0.cpu cpu parts.0) e.0 e.1 (alloc_plainly e.0 e.2)
          e.2 uses.1 (same_Some _ own (rw (other, both) at sourced.2)))
      | inr neither ↦ absurd (none-some own (rw (other, neither) at sourced.2))
    ]
  ]
