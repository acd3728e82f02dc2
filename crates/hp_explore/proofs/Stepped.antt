-- A turn is what the schedule makes of the call, and has a way back; and where a machine stands.
use Rattle.std.proofs.Common.{◌≡◌, ℕ, ◌+◌, Bool, true, false, List, [], ◌∷◌, ◌++◌, length, Some, refl, ap, sym, subst, ◌∙◌, ◌<◌, arith}
use Rattle.std.proofs.lemmas.List.{append_assoc, map-append}
use Rattle.hp_units.specs.History.{Effect, Looks, Acts, effect_of, effect_reply, is_refused, net_of, net_with, net_with_effect, reply_of, run, value_of}
use Rattle.hp_units.specs.LayoutParts.{LayoutParts}
use Rattle.hp_units.specs.Memory.{Memory}
use Rattle.hp_units.specs.Step.{step}
use Rattle.hp_units.specs.declared.events.Event.{Event}
use Rattle.hp_units.specs.declared.replies.Record.{Record}
use Rattle.hp_laws.proofs.Net.{net-push, run-push}
use Rattle.hp_laws.proofs.Records.{with_good}
use Rattle.hp_laws.proofs.Replays.{net_bad}
use Rattle.hp_laws.proofs.Steps.{IsOnward, steps}
use Rattle.hp_machine.specs.Machine.{MachineValue}
use Rattle.hp_memory.specs.Steps.{IsStepped, StepsValue, record_of_step}
use Rattle.hp_schedules.specs.Schedules.{Setting, next_call, plays, record_of_call, schedule_of}
use Rattle.hp_states.specs.Walks.{IsAt}
use Rattle.hp_explore.specs.Walks.{IsReached, may_go_back, news_in, LeadsTo, IsGone, IsNextSerial, with_record}
use Rattle.hp_schedules.proofs.Plays.{plays_push}
use Rattle.std.proofs.lemmas.Bool.{lt-ltb}
use Rattle.hp_units.specs.declared.events.Event.TheVariants.{UndoAfter}
use Rattle.hp_units.specs.declared.replies.Refusal.TheVariants.{Gone}
use Rattle.hp_units.specs.declared.replies.Reply.{Reply}
use Rattle.hp_units.specs.declared.replies.Reply.TheVariants.{Refused}
use Rattle.hp_explore.specs.Settings.{setting}
use Rattle.hp_schedules.specs.declared.scripts.Step.{Step}

-- ---- one step

-- its reply is that of the history
plain_reply : (l : LayoutParts) (before last : ℕ) (net : List Record) (s : Memory) (serial cpu : ℕ)
    (event : Event) (e : Effect)
    → may_go_back e ≡ false
    → effect_reply l before last net s serial cpu event e ≡ (step l s serial cpu event).reply
plain_reply l before last net s serial cpu event Looks goes = refl
plain_reply l before last net s serial cpu event Acts goes = refl
plain_reply l before last net s serial cpu event e goes = absurd cc

-- and so is its state
plain_state : (l : LayoutParts) (base : Memory) (h : List Record) (r : Record)
    → may_go_back (effect_of r.event) ≡ false
    → r.reply ≡ (step l (value_of l base h) r.serial r.cpu r.event).reply
    → (step l (value_of l base h) r.serial r.cpu r.event).memory ≡ value_of l base (h ++ r ∷ [])
unfolding value_of
plain_state l base h r goes reply = by_reply (is_refused r.reply) refl ∙ ap (run l base) (sym (net-push h r))
  where
    law : IsOnward (run l base (net_of h)) r.serial r.event
        (step l (run l base (net_of h)) r.serial r.cpu r.event)
    law = steps l (run l base (net_of h)) r.serial r.cpu r.event

    by_effect : (e : Effect) → effect_of r.event ≡ e → may_go_back e ≡ false
        → (step l (run l base (net_of h)) r.serial r.cpu r.event).memory
        ≡ run l base (net_with_effect (net_of h) r e)
    by_effect Looks is plain = law.looks is
    by_effect Acts is plain = sym (run-push l base (net_of h) r)
    by_effect e is plain = absurd cc

    by_reply : (b : Bool) → is_refused r.reply ≡ b
        → (step l (run l base (net_of h)) r.serial r.cpu r.event).memory ≡ run l base (net_with (net_of h) r)
    by_reply true bad =
        law.refused (ap is_refused (sym reply) ∙ bad) ∙ ap (run l base) (net_bad (net_of h) r bad)
    by_reply false good =
        by_effect (effect_of r.event) refl goes ∙ ap (run l base) (sym (with_good (net_of h) r good))

-- the record of the step is the one that the schedule makes
pub step_recorded : (g : Setting) (p : StepsValue) (serial cpu : ℕ) (event : Event) → IsAt g p
    → may_go_back (effect_of event) ≡ false → serial ≡ g.before + length (g.start ++ p.records) + 1
    → record_of_step p.layout p.state serial cpu event ≡ record_of_call g p.records cpu event
unfolding record_of_call reply_of
step_recorded g p serial cpu event here goes is =
    rw (
      here.layout,
      here.state,
      is,
      ← plain_reply g.layout g.before (g.before + length (g.start ++ p.records))
          (net_of (g.start ++ p.records)) now next cpu event (effect_of event) goes,
    )
  where
    now : Memory
    now = value_of g.layout g.base (g.start ++ p.records)

    next : ℕ
    next = g.before + length (g.start ++ p.records) + 1

-- where a step leads to
pub stepped_at : (g : Setting) (p n : StepsValue) (serial cpu mark : ℕ) (event : Event) → IsAt g p
    → next_call g cpu p.records ≡ Some event → may_go_back (effect_of event) ≡ false
    → serial ≡ g.before + length (g.start ++ p.records) + 1 → IsStepped p serial cpu event mark n
    → IsAt g n
unfolding plays record_of_call
stepped_at g p n serial cpu mark event here asked goes is made = record {
  layout = made.later.layout ∙ here.layout;
  played =
      ap (λ (h : List Record). plays g (schedule_of h)) longer
      ∙ (ap (plays g)
      (map-append (λ (r : Record). r.cpu) p.records (record_of_call g p.records cpu event ∷ []))
      ∙ (plays_push g (schedule_of p.records) p.records cpu event here.played asked ∙ ap Some (sym longer)));
  state = rw made.later.records state;
}
  where
    made_record : Record
    made_record = record_of_step p.layout p.state serial cpu event

    longer : n.records ≡ p.records ++ record_of_call g p.records cpu event ∷ []
    longer = cc (step_recorded g p serial cpu event here goes is)

    told : made_record.reply
        ≡ (step g.layout (value_of g.layout g.base (g.start ++ p.records)) serial cpu event).reply
    told = cc

    state : n.state ≡ value_of g.layout g.base (g.start ++ (p.records ++ made_record ∷ []))
    state =
        cc (
          plain_state g.layout g.base (g.start ++ p.records) made_record goes told,
          append_assoc g.start p.records (made_record ∷ []),
        )

-- ---- a machine

-- where a machine stands that a schedule led to
pub machine_at : (g : Setting) (m : MachineValue) (p : StepsValue) → IsReached g m
    → m.state ≡ value_of m.layout m.base m.history → p.layout ≡ m.layout → p.state ≡ m.state
    → p.records ≡ news_in g m → IsAt g p
machine_at g m p here kept layout state records = record {
  layout = rw (layout, here.layout);
  played = subst (λ (h : List Record). plays g (schedule_of h) ≡ Some h) (sym records) here.played;
  state = cc;
}

-- ---- a record with a copy of its event

abbrev pub with_event : Record → Event → Record
with_event r event = record { serial = r.serial; cpu = r.cpu; event = event; reply = r.reply }

pub same_event : (r : Record) (event : Event) → event ≡ r.event → with_event r event ≡ r
same_event r event is = ap (with_event r) is

-- ---- its reply

gone_effect : (l : LayoutParts) (before last : ℕ) (net : List Record) (s : Memory) (serial cpu kept : ℕ)
    → last < kept → cpu < l.cpus
    → effect_reply l before last net s serial cpu (UndoAfter kept) (effect_of (UndoAfter kept)) ≡ Refused Gone
gone_effect l before last net s serial cpu kept above within =
    rw (lt-ltb cpu l.cpus within, lt-ltb last kept above)

pub gone_reply : (g : Setting) (news : List Record) (cpu kept : ℕ)
    → g.before + length (g.start ++ news) < kept → cpu < g.layout.cpus
    → reply_of g.layout g.base g.before (g.start ++ news) cpu (UndoAfter kept) ≡ Refused Gone
unfolding reply_of
gone_reply g news cpu kept above within = grind (arith, gone_effect)

-- ---- where it leads to

-- a refusal leaves the state
stays : (l : LayoutParts) (base : Memory) (h : List Record) (r : Record) → is_refused r.reply ≡ true
    → value_of l base h ≡ value_of l base (h ++ r ∷ [])
unfolding value_of
stays l base h r bad = ap (run l base) (net_bad (net_of h) r bad ∙ sym (net-push h r))

-- a refused call leads to the same state with its record
refused_at : (g : Setting) (p : StepsValue) (r : Record) (cpu : ℕ) (event : Event) → IsAt g p
    → next_call g cpu p.records ≡ Some event → r ≡ record_of_call g p.records cpu event
    → is_refused r.reply ≡ true → IsAt g (with_record p r)
unfolding plays record_of_call
refused_at g p r cpu event here asked is bad = record {
  layout = here.layout;
  played =
      rw (is, map-append (λ (q : Record). q.cpu) p.records (record_of_call g p.records cpu event ∷ []))
      (plays_push g (schedule_of p.records) p.records cpu event here.played asked);
  state =
      here.state ∙ (stays g.layout g.base (g.start ++ p.records) r bad
      ∙ ap (value_of g.layout g.base) (append_assoc g.start p.records (r ∷ [])));
}

-- the record of the undo is the one that the schedule makes
gone_record : (g : Setting) (news : List Record) (serial cpu : ℕ) (event : Event) (reply : Reply)
    → serial ≡ g.before + length (g.start ++ news) + 1
    → reply_of g.layout g.base g.before (g.start ++ news) cpu event ≡ reply
    → record { serial = serial; cpu = cpu; event = event; reply = reply } ≡ record_of_call g news cpu event
unfolding record_of_call
gone_record g news serial cpu event reply is said = grind arith

pub gone_leads : (start : MachineValue) (scripts : List (List Step)) (p n : StepsValue) (serial cpu : ℕ)
    (event copied : Event) (reply : Reply)
    → IsAt (setting start scripts) p → next_call (setting start scripts) cpu p.records ≡ Some event
    → IsNextSerial start p.records serial → IsGone start cpu serial event → copied ≡ event
    → reply ≡ Refused Gone
    → n ≡ with_record p (record { serial = serial; cpu = cpu; event = copied; reply = reply })
    → LeadsTo (setting start scripts) (schedule_of p.records ++ cpu ∷ []) (Some n)
gone_leads start scripts p n serial cpu event copied reply here asked next gone same refused is =
    let g = setting start scripts in
    let said : reply_of g.layout g.base g.before (g.start ++ p.records) cpu event ≡ Refused Gone =
    rw (gone.1, gone_reply g p.records cpu gone.0 (omega (arith, next.0, gone.2)) gone.3) in
    let recorded =
    ap (told reply) same ∙ gone_record g p.records serial cpu event reply next.0 (said ∙ sym refused) in
    let at = refused_at g p (told reply copied) cpu event here asked recorded (ap is_refused refused) in (
      subst (IsAt g) (sym is) at,
      ap (λ (q : StepsValue). schedule_of q.records) is
          ∙ map-append (λ (q : Record). q.cpu) p.records (told reply copied ∷ []),
    )
  where
    told : Reply → Event → Record
    told answer e = record { serial = serial; cpu = cpu; event = e; reply = answer }
