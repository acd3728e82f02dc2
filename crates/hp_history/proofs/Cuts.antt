-- What undo and Cancel answer, and where they cut.
use Rattle.std.proofs.Common.{◌≡◌, ℕ, ◌<◌, ◌≤◌, ◌+◌, ◌-◌, Bool, true, false, cond, List, [], ◌∷◌, ◌++◌, length, map, take, Option, Some, None, slice_get, refl, ap, sym, ◌∙◌, arith, inl, inr}
use Rattle.std.specs.Prelude.{◌&&◌, ◌⊎◌, not, IfSome, IfNone, if◌then◌else◌}
use Rattle.std.specs.Bool.{then_some}
use Rattle.std.specs.Option.{option_map}
use Rattle.std.proofs.lemmas.List.{take_all}
use Rattle.std.proofs.lemmas.Option.{slice_get-map, slice_get_within, same_Some}
use Rattle.std.proofs.lemmas.Bool.{lt-ltb, le-ltb, cases_lt, both_ways}
use Rattle.hp_units.specs.Memory.{Memory}
use Rattle.hp_units.specs.LayoutParts.{LayoutParts}
use Rattle.hp_units.specs.Choices.{first_some}
use Rattle.hp_units.specs.Step.{answer, step}
use Rattle.hp_tape.specs.declared.deltas.Delta.{Delta}
use Rattle.hp_units.specs.Marks.{sole_at, tag_of}
use Rattle.hp_units.specs.History.{Effect, Cancels, Looks, Acts, is_refused, is_look, net_with, net_with_effect, effect_of, steps_until, count_above, net_of, value_of, reply_of, cancel_reply}
use Rattle.hp_laws.proofs.Lists.{get_some}
use Rattle.hp_laws.proofs.Undo.{steps_until_at, count_above_at, sole_within}
use Rattle.hp_laws.proofs.Net.{Numbered}
use Rattle.hp_laws.proofs.Earlier.{numbered_net}
use Rattle.hp_laws.proofs.Steps.{steps}
use Rattle.hp_history.specs.Entries.{AreNumbered, tag_in, tags_of}
use Rattle.hp_history.specs.declared.entries.Entry.{Entry}
use Rattle.hp_history.specs.Course.{CourseValue, IsHistory, NeedsNoMemory, last_serial}
use Rattle.hp_history.specs.Kept.{IsCourse, IsCut, IsStep, is_gone, may_cancel}
use Rattle.hp_history.proofs.Journals.{entry_count}
use Rattle.hp_history.proofs.Names.{Event, KernelAlloc, KernelFree, Map, Unmap, Write, Read, Drain, Online, Begin, DrainFor, Migrate, Commit, Cancel, UndoAfter, Probe, Remove, SetAuto, Reply, Undone, Restored, Refused, Refusal, NoCpu, NoOp, Gone, Record, Tag}
use Rattle.hp_layers.proofs.Steps.{step-in, step-no_cpu}

-- what is refused cuts nothing
cut_refused : {keep : ℕ} (m : CourseValue) (cpu : ℕ) (event : Event) (why : Refusal)
    → keep ≡ length (net_of m.history) → Refused why ≡ reply_of m.layout m.base m.before m.history cpu event
    → IsCut m cpu event keep (Refused why)
unfolding net_with
cut_refused {keep = keep} m cpu event why all is = record {
  answers = is;
  within = omega (arith, all);
  cut =
      λ r asked reply. rw (ap is_refused reply) (sym (take_all keep (net_of m.history) (omega (arith, all))));
}

-- the reply to an undo of a processor that is not in the layout
no_cpu : (m : CourseValue) (cpu s : ℕ) → m.layout.cpus ≤ cpu
    → Refused NoCpu ≡ reply_of m.layout m.base m.before m.history cpu (UndoAfter s)
unfolding reply_of
no_cpu m cpu s out = rw (le-ltb cpu m.layout.cpus out) refl

-- such an undo cuts nothing
pub undo_no_cpu : {keep : ℕ} (m : CourseValue) (cpu s : ℕ)
    → keep ≡ length (net_of m.history) → m.layout.cpus ≤ cpu
    → IsCut m cpu (UndoAfter s) keep (Refused NoCpu)
undo_no_cpu {keep = keep} m cpu s all out = cut_refused m cpu (UndoAfter s) NoCpu all (no_cpu m cpu s out)

-- the reply to an undo of what is gone
gone : (m : CourseValue) (cpu s : ℕ) → cpu < m.layout.cpus → is_gone m s ≡ true
    → Refused Gone ≡ reply_of m.layout m.base m.before m.history cpu (UndoAfter s)
unfolding reply_of
gone m cpu s inside is = rw (lt-ltb cpu m.layout.cpus inside, is) refl

-- such an undo cuts nothing
pub undo_gone : {keep : ℕ} (m : CourseValue) (cpu s : ℕ)
    → keep ≡ length (net_of m.history) → cpu < m.layout.cpus
    → is_gone m s ≡ true → IsCut m cpu (UndoAfter s) keep (Refused Gone)
undo_gone {keep = keep} m cpu s all inside out =
    cut_refused m cpu (UndoAfter s) Gone all (gone m cpu s inside out)

-- the place down to which the tags are above the serial
pub record IsKeptPlace (s : ℕ) (n : List Record) (keep : ℕ) : Type 0 where
  pub within : keep ≤ length n
  pub kept_is : steps_until s n ≡ take keep n
  pub count : count_above s n + keep ≡ length n

-- the tag of a step, at its place
tag_of_place : (n : List Record) (tags : List Tag) (i : ℕ) (r : Record) → tags ≡ map tag_of n
    → slice_get n i ≡ Some r → slice_get tags i ≡ Some (tag_of r)
tag_of_place n tags i r is at = rw is (slice_get-map tag_of n i ∙ ap (option_map tag_of) at)

-- a place down to which all tags are above the serial, and before which there is one that is not
kept_place : {before last : ℕ} {n : List Record} {tags : List Tag} (s keep : ℕ) → Numbered before last n
    → tags ≡ map tag_of n → keep ≤ length n
    → ((i : ℕ) (t : Tag) → keep ≤ i → slice_get tags i ≡ Some t → s < t.serial)
    → ((t : Tag) → 0 < keep → slice_get tags (keep - 1) ≡ Some t → t.serial ≤ s)
    → IsKeptPlace s n keep
kept_place {n = n} {tags = tags} s keep ok is within above below = record {
  within = within;
  kept_is =
      steps_until_at s n keep within (λ i r lt e. low i r lt e)
      (λ i r ge e. above i (tag_of r) ge (tag_of_place n tags i r is e));
  count =
      count_above_at s n keep within (λ i r lt e. low i r lt e)
      (λ i r ge e. above i (tag_of r) ge (tag_of_place n tags i r is e));
}
  where
    low : (i : ℕ) (r : Record) → i < keep → slice_get n i ≡ Some r → r.serial ≤ s
    low i r lt e =
        let q = get_some n (keep - 1) (omega arith) in
        let last_kept : q.0.serial ≤ s =
        below (tag_of q.0) (omega arith) (tag_of_place n tags (keep - 1) q.0 is q.1) in
        elim (cases_lt i (keep - 1)) [
          | inl less ↦ omega (arith, ok.rising i (keep - 1) r q.0 less e q.1)
          | inr ge ↦ (let same : i ≡ keep - 1 = omega arith in
              let both : Some r ≡ Some q.0 = sym e ∙ (ap (λ j. slice_get n j) same ∙ q.1) in
              omega (arith, ap (λ (y : Record). y.serial) (same_Some r q.0 both)))
        ]

-- the reply to any other undo
undone : (m : CourseValue) (cpu s count : ℕ) → cpu < m.layout.cpus → is_gone m s ≡ false
    → count ≡ count_above s (net_of m.history)
    → Undone count ≡ reply_of m.layout m.base m.before m.history cpu (UndoAfter s)
unfolding reply_of
undone m cpu s count inside there is = rw (lt-ltb cpu m.layout.cpus inside, there) (ap Undone is)

-- such an undo leaves the steps up to its serial
net_undo : (n : List Record) (r : Record) (s count : ℕ) → r.event ≡ UndoAfter s → r.reply ≡ Undone count
    → net_with n r ≡ steps_until s n
unfolding net_with
net_undo n r s count asked reply = rw (ap is_refused reply, asked) refl

-- an undo that is not refused cuts at the place that the tags show
pub undo_done : {m : CourseValue} {es : List Entry} {ds : List Delta} (cpu s keep count : ℕ)
    → IsCourse m es ds → cpu < m.layout.cpus → is_gone m s ≡ false
    → keep ≤ length es → count + keep ≡ length es
    → ((i : ℕ) (t : Tag) → keep ≤ i → slice_get (tags_of m.before es) i ≡ Some t → s < t.serial)
    → ((t : Tag) → 0 < keep → slice_get (tags_of m.before es) (keep - 1) ≡ Some t → t.serial ≤ s)
    → IsCut m cpu (UndoAfter s) keep (Undone count)
undo_done {m = m} {es = es} {ds = ds} cpu s keep count ok inside there within counted above below =
    let len : length es ≡ length (net_of m.history) = entry_count ok.journal in
    let place =
    kept_place s keep (numbered_net m.layout m.base m.before m.history ok.history.legal) ok.journal.tagged
    (omega (arith, within, len)) above below in
    record {
      answers = undone m cpu s count inside there (omega (arith, place.count, counted, len));
      within = place.within;
      cut = λ r asked reply. net_undo (net_of m.history) r s count asked reply ∙ place.kept_is;
    }

-- a Cancel that the step doesn't refuse, where the operation's steps are the last
pub cancel_back : (m : CourseValue) (cpu op keep : ℕ)
    → is_refused
    (step m.layout (value_of m.layout m.base m.history) (last_serial m + 1) cpu (Cancel op)).reply ≡ false
    → sole_at op (map tag_of (net_of m.history)) ≡ Some keep
    → IsCut m cpu (Cancel op) keep Restored
unfolding reply_of net_with
cancel_back m cpu op keep good place = record {
  answers = rw (place, good) refl;
  within = (let lt = sole_within op (net_of m.history) keep place in omega arith);
  cut = λ r asked reply. rw (ap is_refused reply, asked, place) refl;
}

-- the net after a record, by the effect of its event. (A rewrite by r.event would take r apart.)
net_is : {k : Effect} (n : List Record) (r : Record) → effect_of r.event ≡ k
    → net_with n r ≡ cond (is_refused r.reply) n (net_with_effect n r k)
unfolding net_with
net_is n r is = ap (λ (effect : Effect). cond (is_refused r.reply) n (net_with_effect n r effect)) is

-- by whether it is refused, for an event that is no look
kept_or_not : {A : Type 0} (b look : Bool) (n m : A) → look ≡ false
    → cond b n m ≡ (if not b && not look then m else n)
kept_or_not true look n m is = refl
kept_or_not false look n m is = rw is refl

-- and for a look
looked_at : {A : Type 0} {look : Bool} (b : Bool) (n m : A) → look ≡ true
    → cond b n n ≡ (if not b && not look then m else n)
looked_at true n m is = refl
looked_at false n m is = rw is refl

-- the net after an event that acts
net_act : {event : Event} (n : List Record) (r : Record) → r.event ≡ event → effect_of event ≡ Acts
    → is_look event ≡ false
    → net_with n r ≡ (if not (is_refused r.reply) && not (is_look event) then n ++ r ∷ [] else n)
net_act {event = event} n r asked effect look =
    net_is n r (ap effect_of asked ∙ effect)
    ∙ kept_or_not (is_refused r.reply) (is_look event) n (n ++ r ∷ []) look

-- the net after a look
net_look : {event : Event} (n : List Record) (r : Record) → r.event ≡ event → effect_of event ≡ Looks
    → is_look event ≡ true
    → net_with n r ≡ (if not (is_refused r.reply) && not (is_look event) then n ++ r ∷ [] else n)
net_look {event = event} n r asked effect look =
    net_is n r (ap effect_of asked ∙ effect)
    ∙ looked_at (is_refused r.reply) n (n ++ r ∷ []) look

-- any other Cancel is a step
net_cancel : (n : List Record) (r : Record) (op : ℕ) → r.event ≡ Cancel op
    → (is_refused r.reply ≡ true) ⊎ (sole_at op (map tag_of n) ≡ None)
    → net_with n r ≡ (if not (is_refused r.reply) && not (is_look (Cancel op)) then n ++ r ∷ [] else n)
net_cancel n r op asked (inl bad) =
    net_is n r (ap effect_of asked)
    ∙ ap (λ (b : Bool). cond b n (net_with_effect n r (Cancels op))) bad
    ∙ ap (λ (b : Bool). if not b && true then n ++ r ∷ [] else n) (sym bad)
net_cancel n r op asked (inr none) =
    rw (net_is n r (ap effect_of asked), none) (kept_or_not (is_refused r.reply) false n (n ++ r ∷ []) refl)

-- the reply to a Cancel that does not go back is that of its step
cancel_reply_same : (l : LayoutParts) (base : Memory) (before : ℕ) (h : List Record) (cpu op : ℕ)
    → (is_refused (step l (value_of l base h) (before + length h + 1) cpu (Cancel op)).reply ≡ true)
    ⊎ (sole_at op (map tag_of (net_of h)) ≡ None)
    → reply_of l base before h cpu (Cancel op)
    ≡ (step l (value_of l base h) (before + length h + 1) cpu (Cancel op)).reply
unfolding reply_of
cancel_reply_same l base before h cpu op out =
    by_place (step l (value_of l base h) (before + length h + 1) cpu (Cancel op)).reply
    (sole_at op (map tag_of (net_of h))) out
  where
    by_place : (reply : Reply) (o : Option ℕ) → (is_refused reply ≡ true) ⊎ (o ≡ None)
        → cancel_reply reply o ≡ reply
    by_place reply None e = refl
    by_place reply (Some k) (inl bad) = rw bad refl
    by_place reply (Some k) (inr none) = absurd cc

-- such a Cancel is a step
pub cancel_step : (m : CourseValue) (cpu op : ℕ)
    → (is_refused (step m.layout (value_of m.layout m.base m.history) (last_serial m + 1) cpu
    (Cancel op)).reply ≡ true) ⊎ (sole_at op (map tag_of (net_of m.history)) ≡ None)
    → IsStep m cpu (Cancel op)
cancel_step m cpu op out = record {
  reply = cancel_reply_same m.layout m.base m.before m.history cpu op out;
  net =
      λ r asked reply. net_cancel (net_of m.history) r op asked
      (elim out [ inl bad ↦ inl (ap is_refused reply ∙ bad) | inr none ↦ inr none ]);
}

-- an event that acts is a step
act_step : (m : CourseValue) (cpu : ℕ) (event : Event) → effect_of event ≡ Acts → is_look event ≡ false
    → IsStep m cpu event
unfolding reply_of
act_step m cpu event effect look =
    record {
      reply = rw effect refl;
      net = λ r asked reply. net_act (net_of m.history) r asked effect look;
    }

-- a look is a step
look_step : (m : CourseValue) (cpu : ℕ) (event : Event) → effect_of event ≡ Looks → is_look event ≡ true
    → IsStep m cpu event
unfolding reply_of
look_step m cpu event effect look =
    record {
      reply = rw effect refl;
      net = λ r asked reply. net_look (net_of m.history) r asked effect look;
    }

-- an event that is no UndoAfter and no Cancel is a step
pub acts : (m : CourseValue) (cpu : ℕ) (event : Event) → ((serial : ℕ) → event ≡ UndoAfter serial → ⊥)
    → ((op : ℕ) → event ≡ Cancel op → ⊥) → IsStep m cpu event
acts m cpu (KernelAlloc order) undo cancel = act_step m cpu (KernelAlloc order) refl refl
acts m cpu (KernelFree frame) undo cancel = act_step m cpu (KernelFree frame) refl refl
acts m cpu (Map owner page) undo cancel = act_step m cpu (Map owner page) refl refl
acts m cpu (Unmap owner page) undo cancel = act_step m cpu (Unmap owner page) refl refl
acts m cpu (Write owner page index value) undo cancel =
    act_step m cpu (Write owner page index value) refl refl
acts m cpu (Read owner page index) undo cancel = look_step m cpu (Read owner page index) refl refl
acts m cpu (Drain drained) undo cancel = act_step m cpu (Drain drained) refl refl
acts m cpu (Online block zone) undo cancel = act_step m cpu (Online block zone) refl refl
acts m cpu (Begin plan) undo cancel = act_step m cpu (Begin plan) refl refl
acts m cpu (DrainFor op drained) undo cancel = act_step m cpu (DrainFor op drained) refl refl
acts m cpu (Migrate op) undo cancel = act_step m cpu (Migrate op) refl refl
acts m cpu (Commit op) undo cancel = act_step m cpu (Commit op) refl refl
acts m cpu (Cancel op) undo cancel = absurd (cancel op refl)
acts m cpu (UndoAfter serial) undo cancel = absurd (undo serial refl)
acts m cpu (Probe address) undo cancel = act_step m cpu (Probe address) refl refl
acts m cpu (Remove block) undo cancel = act_step m cpu (Remove block) refl refl
acts m cpu (SetAuto auto) undo cancel = act_step m cpu (SetAuto auto) refl refl

-- a step that is no undo may need memory
pub step_needs : (m : CourseValue) (cpu : ℕ) (event : Event) → IsStep m cpu event
    → ((serial : ℕ) → event ≡ UndoAfter serial → ⊥) → NeedsNoMemory m cpu event → ⊥
step_needs m cpu event made undo (inl asked) = undo asked.0 asked.1
step_needs m cpu event made undo (inr back) = grind (arith, both_ways, steps)

-- the journal has an entry for each step
pub all_steps : {m : CourseValue} {es : List Entry} {ds : List Delta} {keep : ℕ} → IsCourse m es ds
    → keep ≡ length es → keep ≡ length (net_of m.history)
all_steps {m = m} {es = es} {ds = ds} ok is = is ∙ entry_count ok.journal

-- the serials of its entries are those of records
pub entries_numbered : (m : CourseValue) (es : List Entry) (ds : List Delta) → IsCourse m es ds
    → AreNumbered m.before es
entries_numbered m es ds ok j e at =
    let net = net_of m.history in
    let count = entry_count ok.journal in
    let here = get_some net j (omega (arith, slice_get_within es j e at, count)) in
    let same : Some (tag_in m.before e) ≡ Some (tag_of here.0) =
    sym (slice_get-map (tag_in m.before) es j ∙ ap (option_map (tag_in m.before)) at)
    ∙ tag_of_place net (tags_of m.before es) j here.0 ok.journal.tagged here.1 in
    omega (
      arith,
      ap (λ (t : Tag). t.serial) (same_Some (tag_in m.before e) (tag_of here.0) same),
      (numbered_net m.layout m.base m.before m.history ok.history.legal).under j here.0 here.1,
      ok.fits,
    )

-- ---- whether a Cancel is refused

-- by whether its operation is live
by_live : (l : LayoutParts) (s : Memory) (serial cpu op : ℕ) (live : Bool)
    → is_refused (answer l s serial cpu (Cancel op) (first_some (then_some (not live) NoOp ∷ []))).reply
    ≡ not live
by_live l s serial cpu op true = refl
by_live l s serial cpu op false = refl

-- it is, but where the layout has its processor and its operation is live
cancel_refuses : (l : LayoutParts) (s : Memory) (serial cpu op : ℕ)
    → is_refused (step l s serial cpu (Cancel op)).reply ≡ not (may_cancel l s cpu op)
cancel_refuses l s serial cpu op = grind (arith, step-in, Cancel, by_live, lt-ltb, step-no_cpu, le-ltb)

-- the step that answers a Cancel, in the present state
here : (m : CourseValue) (cpu op : ℕ) → IsHistory m
    → is_refused (step m.layout (value_of m.layout m.base m.history) (last_serial m + 1) cpu
    (Cancel op)).reply ≡ not (may_cancel m.layout m.state cpu op)
here m cpu op ok = rw (← ok.state) (cancel_refuses m.layout m.state (last_serial m + 1) cpu op)

-- a Cancel that is not refused goes back where its operation is sole
pub cancel_sole : {m : CourseValue} (cpu op : ℕ) (o : Option ℕ) → IsHistory m
    → may_cancel m.layout m.state cpu op ≡ true → o ≡ sole_at op (map tag_of (net_of m.history))
    → IfSome o (λ keep. IsCut m cpu (Cancel op) keep Restored)
cancel_sole cpu op None ok may place = tt
cancel_sole {m = m} cpu op (Some keep) ok may place =
    cancel_back m cpu op keep (here m cpu op ok ∙ ap not may) (sym place)

-- where its operation is not sole, a Cancel is a step
pub cancel_other : (m : CourseValue) (cpu op : ℕ) (o : Option ℕ)
    → o ≡ sole_at op (map tag_of (net_of m.history)) → IfNone o (IsStep m cpu (Cancel op))
cancel_other m cpu op None place = cancel_step m cpu op (inr (sym place))
cancel_other m cpu op (Some keep) place = tt

-- and so is a Cancel that is refused
pub cancel_refused : {m : CourseValue} (cpu op : ℕ) → IsHistory m → may_cancel m.layout m.state cpu op ≡ false
    → IsStep m cpu (Cancel op)
cancel_refused {m = m} cpu op ok may = cancel_step m cpu op (inl (here m cpu op ok ∙ ap not may))
