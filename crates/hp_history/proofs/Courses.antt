-- A course after an answer.
use Rattle.std.proofs.Common.{◌≡◌, ℕ, ◌<◌, ◌+◌, ◌^◌, Bool, true, false, List, [], ◌∷◌, ◌++◌, length, take, refl, ap, sym, ◌∙◌, arith, inl, inr}
use Rattle.std.specs.Prelude.{◌&&◌, not, if◌then◌else◌}
use Rattle.std.proofs.lemmas.List.{length_push}
use Rattle.std.proofs.lemmas.Bool.{leb-false, and_cases, not-false}
use Rattle.hp_units.specs.Memory.{Memory}
use Rattle.hp_units.specs.LayoutParts.{IsLayout, LayoutParts}
use Rattle.hp_units.specs.Placement.{IsWellPlaced}
use Rattle.hp_units.specs.Marks.{tag_of}
use Rattle.hp_units.specs.Step.{step}
use Rattle.hp_units.specs.History.{is_look, is_refused, net_of, run, value_of, reply_of, IsLegal}
use Rattle.hp_units.specs.declared.replies.Receipt.{Receipt}
use Rattle.hp_tape.specs.Bounds.{delta_bound}
use Rattle.hp_tape.specs.declared.deltas.Delta.{Delta}
use Rattle.hp_tape.specs.Deltas.{frame_view_of}
use Rattle.hp_layers.specs.Layers.{AreNoted}
use Rattle.hp_memory.specs.Memory.{MemoryValue}
use Rattle.hp_laws.proofs.EventSteps.{value-placed}
use Rattle.hp_laws.proofs.Net.{net-push, run-push, legal_push}
use Rattle.hp_laws.proofs.Steps.{steps, is_look_effect}
use Rattle.hp_history.specs.declared.entries.Entry.{Entry}
use Rattle.hp_history.specs.Course.{CourseValue, IsAnswered, IsHistory, is_spent, last_serial, record_of, started}
use Rattle.hp_history.specs.Entries.{start_of, tag_in}
use Rattle.hp_history.specs.Kept.{IsCourse, IsCut, IsStep, remembered}
use Rattle.hp_history.proofs.Names.{Record}
use Rattle.hp_history.proofs.Journals.{journal_none, journal_take}

-- where there is a further serial
pub room : (m : CourseValue) → is_spent m ≡ false → m.before + length m.history < 18446744073709551615
room m free = leb-false 18446744073709551615 (m.before + length m.history) free

-- the longer history is legal
pub follows : (m : CourseValue) (cpu : ℕ) (r : Receipt) → r.serial ≡ last_serial m + 1
    → r.reply ≡ reply_of m.layout m.base m.before m.history cpu r.event
    → IsLegal m.layout m.base m.before m.history
    → IsLegal m.layout m.base m.before (m.history ++ record_of cpu r ∷ [])
follows m cpu r serial reply legal =
    legal_push m.layout m.base m.before m.history (record_of cpu r) legal
    (record { serial = serial; reply = reply })

-- the value after an answer that left this state
abbrev pub answered_value : CourseValue → ℕ → Receipt → Memory → CourseValue
answered_value m cpu r state = record m { history = m.history ++ record_of cpu r ∷ []; state = state }

-- the value of a course's fields
abbrev pub value_with : (before : ℕ) → (base : Memory) → List Record → MemoryValue → CourseValue
value_with before base h v =
    record { layout = v.layout; before = before; base = base; history = h; state = v.state }

-- a memory's value, by its parts
pub memory_is : {l : LayoutParts} {s : Memory} (v : MemoryValue) → v.layout ≡ l → v.state ≡ s
    → v ≡ remembered l s
memory_is {l = l} v layout state = grind arith

-- the count of one record more
pub one_more : {count : ℕ} (h : List Record) (r : Record) → count ≡ length h
    → count + 1 ≡ length (h ++ r ∷ [])
one_more h r is = ap (λ (n : ℕ). n + 1) is ∙ sym (length_push h r)

-- a course with no records
pub new_course : {l : LayoutParts} {s : Memory} {es : List Entry} {ds : List Delta} (before : ℕ)
    (v : MemoryValue) (h : List Record)
    → IsLayout l → IsWellPlaced l s → v ≡ remembered l s → h ≡ [] → es ≡ [] → ds ≡ [] → before < 2 ^ 64
    → IsCourse (value_with before s h v) es ds
unfolding value_of net_of run
new_course {l = l} {s = s} before v h limits placed is none empty clear fits =
    rw (none, empty, clear, is) (record {
      limits = limits;
      placed = placed;
      history = record { legal = λ n r e. absurd cc; state = refl };
      journal = journal_none before placed;
      fits = omega arith;
    })

-- a course's state is well placed
pub state_placed : {m : CourseValue} {es : List Entry} {ds : List Delta} → IsCourse m es ds
    → IsWellPlaced m.layout m.state
state_placed {m = m} ok = rw ok.history.state (value-placed m.layout m.base m.history ok.limits ok.placed)

-- a course that was sealed
pub sealed_course : {m : CourseValue} {es : List Entry} {ds : List Delta} {before : ℕ} {left : List Entry}
    {kept : List Delta}
    → IsCourse m es ds → before ≡ last_serial m → left ≡ [] → kept ≡ []
    → IsCourse (started m.layout m.state before) left kept
sealed_course {m = m} {es = es} {ds = ds} {before = before} {left = left} {kept = kept} ok last empty clear =
    new_course before (remembered m.layout m.state) [] ok.limits (state_placed ok) refl refl empty clear
    (omega (arith, last, ok.fits))

-- ---- going back

-- the net after going back
pub cut_net : {m : CourseValue} {cpu keep : ℕ} (r : Receipt) → IsCut m cpu r.event keep r.reply
    → net_of (m.history ++ record_of cpu r ∷ []) ≡ take keep (net_of m.history)
cut_net {m = m} {cpu = cpu} r cut = net-push m.history (record_of cpu r) ∙ cut.cut (record_of cpu r) refl refl

-- the state that it leads to is that of the longer history
cut_state : {m : CourseValue} {cpu keep : ℕ} {s : Memory} (r : Receipt) → IsCut m cpu r.event keep r.reply
    → s ≡ run m.layout m.base (take keep (net_of m.history))
    → s ≡ value_of m.layout m.base (m.history ++ record_of cpu r ∷ [])
unfolding value_of
cut_state {m = m} {cpu = cpu} {keep = keep} r cut is = is ∙ ap (run m.layout m.base) (sym (cut_net r cut))

-- what the course keeps after going back
cut_course : {m : CourseValue} {es : List Entry} {ds : List Delta} {cpu keep : ℕ} (r : Receipt)
    → IsCourse m es ds → is_spent m ≡ false → IsCut m cpu r.event keep r.reply → r.serial ≡ last_serial m + 1
    → IsCourse (answered_value m cpu r (value_of m.layout m.base (m.history ++ record_of cpu r ∷ [])))
    (take keep es) (take (start_of es (length ds) keep) ds)
cut_course {m = m} {es = es} {ds = ds} {cpu = cpu} {keep = keep} r ok free cut serial =
    record {
      limits = ok.limits;
      placed = ok.placed;
      history = record { legal = follows m cpu r serial cut.answers ok.history.legal; state = refl };
      journal =
          rw (cut_net r cut)
          (journal_take keep ok.journal cut.within);
      fits = omega (arith, room m free, length_push m.history (record_of cpu r));
    }

-- a receipt with the serial, the event and the reply that the definitions give
pub answered : (m : CourseValue) (cpu : ℕ) (r : Receipt) → IsHistory m → r.serial ≡ last_serial m + 1
    → r.reply ≡ reply_of m.layout m.base m.before m.history cpu r.event
    → IsAnswered m cpu r.event r
    (answered_value m cpu r (value_of m.layout m.base (m.history ++ record_of cpu r ∷ [])))
answered m cpu r ok serial reply = record {
  serial = serial;
  asked = refl;
  reply = reply;
  history = refl;
  state = refl;
  legal = follows m cpu r serial reply ok.legal;
  layout = refl;
  before = refl;
  base = refl;
}

-- what is known where the course went back: the memory, the history, the entries and the deltas that it left
pub record IsBack (m : CourseValue) (es : List Entry) (ds : List Delta) (cpu keep : ℕ) (r : Receipt)
    (v : MemoryValue) (h : List Record) (left : List Entry) (kept : List Delta) : Type 0 where
  pub course : IsCourse m es ds
  pub free : is_spent m ≡ false
  pub cut : IsCut m cpu r.event keep r.reply
  pub serial : r.serial ≡ last_serial m + 1
  pub layout : v.layout ≡ m.layout
  pub state : v.state ≡ run m.layout m.base (take keep (net_of m.history))
  pub history : h ≡ m.history ++ record_of cpu r ∷ []
  pub entries : left ≡ take keep es
  pub deltas : kept ≡ take (start_of es (length ds) keep) ds

-- the fields as going back leaves them
pub cut_fields : {m : CourseValue} {es : List Entry} {ds : List Delta} {cpu keep : ℕ} {r : Receipt}
    {v : MemoryValue} {h : List Record} {left : List Entry} {kept : List Delta}
    → IsBack m es ds cpu keep r v h left kept
    → IsCourse (value_with m.before m.base h v) left kept
cut_fields {m = m} {es = es} {ds = ds} {cpu = cpu} {keep = keep} {r = r} {v = v} back =
    let shown = memory_is v back.layout (cut_state r back.cut back.state) in
    rw (back.history, back.entries, back.deltas, shown)
    (cut_course r back.course back.free back.cut back.serial)

-- going back is the answer
pub cut_answered : {m : CourseValue} {es : List Entry} {ds : List Delta} {cpu keep : ℕ} {r : Receipt}
    {v : MemoryValue} {h : List Record} {left : List Entry} {kept : List Delta}
    → IsBack m es ds cpu keep r v h left kept
    → IsAnswered m cpu r.event r (value_with m.before m.base h v)
cut_answered {m = m} {cpu = cpu} {keep = keep} {r = r} {v = v} back =
    let shown = memory_is v back.layout (cut_state r back.cut back.state) in
    rw (back.history, shown) (answered m cpu r back.course.history back.serial back.cut.answers)

-- ---- making a step

-- what is known where the course made its step, before its entry is kept
pub record IsMade (m : CourseValue) (es : List Entry) (ds : List Delta) (cpu : ℕ) (r : Receipt) (e : Entry)
    (v : MemoryValue) (now : List Delta) : Type 0 where
  pub course : IsCourse m es ds
  pub free : is_spent m ≡ false
  pub by_step : IsStep m cpu r.event
  pub serial : r.serial ≡ last_serial m + 1
  pub state : v.state ≡ (step m.layout m.state r.serial cpu r.event).memory
  pub reply : r.reply ≡ (step m.layout m.state r.serial cpu r.event).reply
  pub layout : v.layout ≡ m.layout
  pub noted : AreNoted m.layout (delta_bound m.layout m.state r.event) ds now (frame_view_of m.layout v.state)
      (frame_view_of m.layout m.state)
  pub tag : tag_in m.before e ≡ tag_of (record_of cpu r)
  pub start : e.start ≡ length ds

-- whether the answer makes the event part of the net
abbrev pub is_kept : Receipt → Bool
is_kept r = not (is_refused r.reply) && not (is_look r.event)

module _ {m : CourseValue} {es : List Entry} {ds : List Delta} {cpu : ℕ} {r : Receipt} {e : Entry}
    {v : MemoryValue} {now : List Delta} (made : IsMade m es ds cpu r e v now) where
  -- the reply is that of a step in the history's state
  made_answer :
      r.reply ≡ (step m.layout (value_of m.layout m.base m.history) (last_serial m + 1) cpu r.event).reply
  made_answer = rw (made.reply, made.serial, made.course.history.state)

  -- the reply is the one that the definitions give
  pub made_reply : r.reply ≡ reply_of m.layout m.base m.before m.history cpu r.event
  made_reply = made_answer ∙ sym made.by_step.reply

  -- the net after the step
  pub made_net :
      net_of (m.history ++ record_of cpu r ∷ []) ≡ (if is_kept r then net_of m.history ++ record_of cpu r ∷ []
      else net_of m.history)
  made_net = grind (arith, net-push, made_answer)

  -- what is refused or only looks leaves the state
  pub made_same : is_kept r ≡ false → v.state ≡ m.state
  made_same none =
      let law = steps m.layout m.state r.serial cpu r.event in
      made.state ∙ (elim (and_cases (not (is_refused r.reply)) (not (is_look r.event)) none) [
        | inl refused ↦ law.refused (ap is_refused (sym made.reply) ∙ not-false (is_refused r.reply) refused)
        | inr looks ↦ law.looks (is_look_effect r.event (not-false (is_look r.event) looks))
      ])

  -- the state after a step that counts
  pub made_next : v.state ≡ run m.layout m.base (net_of m.history ++ record_of cpu r ∷ [])
  unfolding value_of
  made_next =
      rw (made.state, made.course.history.state)
      (rw (← run-push m.layout m.base (net_of m.history) (record_of cpu r)))

  -- the state after the step, by whether it counts
  made_state : (b : Bool) → is_kept r ≡ b
      → v.state ≡ run m.layout m.base (if b then net_of m.history ++ record_of cpu r ∷ [] else net_of
      m.history)
  unfolding value_of
  made_state true kept = made_next
  made_state false kept = made_same kept ∙ made.course.history.state

  -- the memory after the step shows the value of the longer history
  pub made_shown : v.state ≡ value_of m.layout m.base (m.history ++ record_of cpu r ∷ [])
  unfolding value_of
  made_shown = rw (made_state (is_kept r) refl) (rw (← made_net))
