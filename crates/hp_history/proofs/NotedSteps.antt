-- What a step notes.
use Rattle.std.proofs.Common.{◌≡◌, ℕ, ◌+◌, ◌≤◌, Bool, true, false, List, [], ◌∷◌, ◌++◌, drop, length, take, refl, ap, sym, subst, ◌∙◌, arith}
use Rattle.std.specs.Prelude.{if◌then◌else◌}
use Rattle.std.proofs.lemmas.List.{drop_at, length-append, length_push, take_at}
use Rattle.hp_units.specs.Marks.{mark_of}
use Rattle.hp_units.specs.Memory.{Memory}
use Rattle.hp_units.specs.LayoutParts.{LayoutParts}
use Rattle.hp_units.specs.History.{net_of, run, value_of}
use Rattle.hp_units.specs.declared.replies.Receipt.{Receipt}
use Rattle.hp_tape.specs.Bounds.{delta_bound}
use Rattle.hp_tape.specs.declared.deltas.Delta.{Delta}
use Rattle.hp_tape.specs.Deltas.{FrameView}
use Rattle.hp_layers.specs.Layers.{AreNoted}
use Rattle.hp_memory.specs.Memory.{LeadsBack, MemoryValue}
use Rattle.hp_laws.proofs.EventSteps.{run-placed}
use Rattle.hp_history.specs.declared.entries.Entry.{Entry}
use Rattle.hp_history.specs.Course.{CourseValue, IsAnswered, last_serial, record_of}
use Rattle.hp_history.specs.Entries.{tag_in}
use Rattle.hp_history.specs.Kept.{IsCourse, IsJournal}
use Rattle.hp_history.proofs.Names.{Event, Mark, Record}
use Rattle.hp_history.proofs.Journals.{IsNext, journal_push}
use Rattle.hp_history.proofs.Courses.{room, follows, answered_value, value_with, memory_is, state_placed, answered, IsMade, is_kept, made_reply, made_net, made_same, made_next, made_shown}

-- ---- what the step noted

noted_before : {l : LayoutParts} {most : ℕ} {was now : List Delta} {later earlier : FrameView} {mark : ℕ}
    (noted : AreNoted l most was now later earlier)
    → mark ≡ length was → take mark now ≡ was
noted_before {was = was} {mark = mark} noted is = grind (arith, take_at)

module _ {m : CourseValue} {es : List Entry} {ds : List Delta} {cpu : ℕ} {r : Receipt} {e : Entry}
    {v : MemoryValue} {now : List Delta} (made : IsMade m es ds cpu r e v now) where
  -- it leads back to the state before
  made_leads : LeadsBack m.layout made.noted.deltas v.state m.state
  made_leads =
      record { placed = state_placed made.course; numbers = made.noted.numbers; lead = made.noted.lead }

  -- so what is no step can be taken off the tape
  pub made_off : is_kept r ≡ false → LeadsBack v.layout (drop e.start now) v.state v.state
  made_off none =
      let past =
      ap (λ (xs : List Delta). drop e.start xs) made.noted.after ∙ drop_at ds made.noted.deltas e.start
      (sym made.start) in
      rw made.layout (subst (λ (xs : List Delta). LeadsBack m.layout xs v.state v.state) (sym past)
      (subst (λ (s : Memory). LeadsBack m.layout made.noted.deltas v.state s)
      (sym (made_same made none)) made_leads))

  -- the tape is long enough
  pub made_start : e.start ≤ length now
  made_start = grind (arith, length-append)

  -- the step as the next one of the journal
  made_entry : IsNext m.layout m.base m.before (net_of m.history) ds (record_of cpu r) e made.noted.deltas
  unfolding value_of
  made_entry =
      let l = m.layout in
      let net = net_of m.history in
      let was : m.state ≡ run l m.base net = made.course.history.state in
      record {
        tag = made.tag;
        start = made.start;
        few = subst (λ (s : Memory). length made.noted.deltas ≤ delta_bound l s r.event) was made.noted.few;
        leads = rw (← made_next made, ← was) made_leads;
        placed = run-placed l m.base (net ++ record_of cpu r ∷ []) made.course.limits made.course.placed;
      }

  -- the journal after the step, by whether it counts
  made_journal : (b : Bool)
      → IsJournal m.layout m.base m.before (if b then net_of m.history ++ record_of cpu r ∷ [] else net_of
      m.history) (if b then es ++ e ∷ [] else es) (if b then now else take e.start now)
  made_journal true =
      let net = net_of m.history in
      rw made.noted.after (journal_push made.course.journal made_entry)
  made_journal false =
      let earlier = noted_before made.noted made.start in
      rw earlier made.course.journal

  -- what the course keeps after the step
  made_course :
      IsCourse (answered_value m cpu r (value_of m.layout m.base (m.history ++ record_of cpu r ∷ [])))
      (if is_kept r then es ++ e ∷ [] else es) (if is_kept r then now else take e.start now)
  made_course =
      record {
        limits = made.course.limits;
        placed = made.course.placed;
        history =
            record {
              legal = follows m cpu r made.serial (made_reply made) made.course.history.legal;
              state = refl;
            };
        journal = rw (made_net made) (made_journal (is_kept r));
        fits = omega (arith, room m made.free, length_push m.history (record_of cpu r));
      }

-- what the fields are once the entry is kept
pub record IsLeft (m : CourseValue) (es : List Entry) (cpu : ℕ) (r : Receipt) (e : Entry) (v : MemoryValue)
    (now : List Delta) (b : Bool) (last : MemoryValue) (h : List Record) (left : List Entry)
    (kept : List Delta) : Type 0 where
  pub steps : b ≡ is_kept r
  pub state : last.state ≡ v.state
  pub layout : last.layout ≡ v.layout
  pub history : h ≡ m.history ++ record_of cpu r ∷ []
  pub entries : left ≡ (if b then es ++ e ∷ [] else es)
  pub deltas : kept ≡ (if b then now else take e.start now)

-- the fields as the step leaves them
pub made_fields : {m : CourseValue} {es : List Entry} {ds : List Delta} {cpu : ℕ} {r : Receipt} {e : Entry}
    {v : MemoryValue} {now : List Delta} {b : Bool} {last : MemoryValue} {h : List Record} {left : List Entry}
    {kept : List Delta}
    → IsMade m es ds cpu r e v now → IsLeft m es cpu r e v now b last h left kept
    → IsCourse (value_with m.before m.base h last) left kept
made_fields {m = m} {es = es} {ds = ds} {cpu = cpu} {r = r} {e = e} {v = v} {now = now} {last = last}
    {left = left} {kept = kept} made fields =
    let entries : left ≡ (if is_kept r then es ++ e ∷ [] else es) = rw (fields.entries, fields.steps) in
    let deltas : kept ≡ (if is_kept r then now else take e.start now) = rw (fields.deltas, fields.steps) in
    let shown = memory_is last (fields.layout ∙ made.layout) (fields.state ∙ made_shown made) in
    rw (fields.history, entries, deltas, shown) (made_course made)

-- the step is the answer
pub made_answered : {m : CourseValue} {es : List Entry} {ds : List Delta} {cpu : ℕ} {r : Receipt} {e : Entry}
    {v : MemoryValue} {now : List Delta} {b : Bool} {last : MemoryValue} {h : List Record} {left : List Entry}
    {kept : List Delta}
    → IsMade m es ds cpu r e v now → IsLeft m es cpu r e v now b last h left kept
    → IsAnswered m cpu r.event r (value_with m.before m.base h last)
made_answered {m = m} {es = es} {ds = ds} {cpu = cpu} {r = r} {e = e} {v = v} {now = now} {last = last} made
    fields =
    let shown = memory_is last (fields.layout ∙ made.layout) (fields.state ∙ made_shown made) in
    rw (fields.history, shown)
    (answered m cpu r made.course.history made.serial (made_reply made))

-- the tag of the entry that is made for the next record
pub tag-next : {count serial : ℕ} {mark : Mark} (m : CourseValue) (event : Event) (e : Entry)
    → serial ≡ last_serial m + 1 → count ≡ length m.history → mark ≡ mark_of event
    → tag_in m.before e ≡ record { serial = m.before + count + 1; mark = mark }
    → tag_in m.before e ≡ record { serial = serial; mark = mark_of event }
tag-next m event e is counted marked tag = rw (tag, counted, ← is, marked)
