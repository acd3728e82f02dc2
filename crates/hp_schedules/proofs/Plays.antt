-- Where a schedule leads to, by what it begins with.
use Rattle.std.proofs.Common.{◌≡◌, ℕ, ◌<◌, ◌≤◌, List, [], ◌∷◌, ◌++◌, length, Option, Some, None, refl, ap, sym, ◌∙◌, inl, inr, arith}
use Rattle.std.specs.Prelude.{fold, option_map}
use Rattle.std.proofs.lemmas.Bool.{cases_lt}
use Rattle.std.proofs.lemmas.List.{append_assoc, append-nil}
use Rattle.std.proofs.lemmas.List.Sums.{fold-append}
use Rattle.std.proofs.lemmas.Option.{none-some, same_Some, slice_get_past}
use Rattle.hp_units.specs.declared.events.Event.{Event}
use Rattle.hp_units.specs.declared.replies.Record.{Record}
use Rattle.hp_units.specs.declared.replies.Reply.{Reply}
use Rattle.hp_schedules.specs.Outcomes.{OutcomeValue}
use Rattle.hp_schedules.specs.Orders.{Extends}
use Rattle.hp_schedules.specs.Schedules.{EndsWith, Setting, outcome_after, next_call, play_one, plays, record_of_call}
use Rattle.hp_laws.proofs.Options.{cases_option}

-- what is played from some records on
abbrev pub from_news : Setting → List Record → List ℕ → Option (List Record)
from_news g news s = fold (play_one g) (Some news) s

-- a record of its parts
abbrev pub recorded : (serial cpu : ℕ) → Event → Reply → Record
recorded serial cpu event reply = record { serial = serial; cpu = cpu; event = event; reply = reply }

-- ---- one call more

-- its record is of the processor that makes it
pub caller : (g : Setting) (news : List Record) (cpu : ℕ) (event : Event)
    → (record_of_call g news cpu event).cpu ≡ cpu
unfolding record_of_call
caller g news cpu event = refl

-- a longer schedule goes on from where the shorter one leads to
pub plays_on : (g : Setting) (p q : List ℕ) → plays g (p ++ q) ≡ fold (play_one g) (plays g p) q
unfolding plays
plays_on g p q = fold-append (play_one g) (Some []) p q

pub stays_none : (g : Setting) (q : List ℕ) → fold (play_one g) None q ≡ None
stays_none g [] = refl
stays_none g (c ∷ q) = stays_none g q

-- the next call of a processor
pub plays_one : (g : Setting) (news : List Record) (cpu : ℕ) (next : Option Event)
    → next_call g cpu news ≡ next
    → play_one g (Some news) cpu ≡ option_map (λ event. news ++ record_of_call g news cpu event ∷ []) next
plays_one g news cpu next is = ap (option_map (λ event. news ++ record_of_call g news cpu event ∷ [])) is

pub plays_push : (g : Setting) (p : List ℕ) (news : List Record) (cpu : ℕ) (event : Event)
    → plays g p ≡ Some news → next_call g cpu news ≡ Some event
    → plays g (p ++ cpu ∷ []) ≡ Some (news ++ record_of_call g news cpu event ∷ [])
plays_push g p news cpu event played asked = rw (plays_on g p (cpu ∷ []), played, asked)

-- no schedule goes on by a processor whose script asks for nothing
pub stops : (g : Setting) (p rest : List ℕ) (news : List Record) (cpu : ℕ) → plays g p ≡ Some news
    → next_call g cpu news ≡ None → plays g (p ++ cpu ∷ rest) ≡ None
stops g p rest news cpu played over = rw (plays_on g p (cpu ∷ rest), played, over) (stays_none g rest)

-- a processor that has no script asks for nothing
pub none_past : (g : Setting) (news : List Record) (cpu : ℕ) → length g.scripts ≤ cpu
    → next_call g cpu news ≡ None
unfolding next_call
none_past g news cpu past = rw (slice_get_past g.scripts cpu past)

-- so whoever asks has one
pub asks_within : (g : Setting) (news : List Record) (cpu : ℕ) (event : Event)
    → next_call g cpu news ≡ Some event → cpu < length g.scripts
asks_within g news cpu event asked = grind (arith, cases_lt, none_past, none-some)

-- ---- complete schedules

-- none goes on by a processor whose script asks for nothing
pub none_through : (g : Setting) (p : List ℕ) (news : List Record) (cpu : ℕ) (s : List ℕ) (x : OutcomeValue)
    → plays g p ≡ Some news → next_call g cpu news ≡ None → Extends s (p ++ cpu ∷ []) → EndsWith g s x → ⊥
none_through g p news cpu s x played over extends ends =
    none-some ends.news (sym (ap (plays g) (extends.1 ∙ append_assoc p (cpu ∷ []) extends.0)
    ∙ stops g p extends.0 news cpu played over) ∙ ends.played)

-- where no script asks for anything the one that comes there is the only one
pub only_this : (g : Setting) (p : List ℕ) (news : List Record) (s : List ℕ) (x : OutcomeValue)
    → plays g p ≡ Some news → ((cpu : ℕ) → next_call g cpu news ≡ None) → Extends s p → EndsWith g s x
    → (s ≡ p) × (x ≡ outcome_after g news)
only_this g p news s x played over extends ends = by_rest extends.0 extends.1
  where
    by_rest : (rest : List ℕ) → s ≡ p ++ rest → (s ≡ p) × (x ≡ outcome_after g news)
    by_rest [] is =
        let same : s ≡ p = is ∙ append-nil p in
        (same, rw (← ends.ends, same_Some ends.news news (sym ends.played ∙ (ap (plays g) same ∙ played))))
    by_rest (cpu ∷ rest) is =
        absurd (none-some ends.news
        (sym (ap (plays g) is ∙ stops g p rest news cpu played (over cpu)) ∙ ends.played))

-- where one asks for something each goes on by one of the scripts' processors
pub goes_on : (g : Setting) (p : List ℕ) (news : List Record) (cpu : ℕ) (event : Event) (s : List ℕ)
    (x : OutcomeValue)
    → plays g p ≡ Some news → next_call g cpu news ≡ Some event → Extends s p → EndsWith g s x
    → (next : ℕ) × (next < length g.scripts) × Extends s (p ++ next ∷ [])
goes_on g p news cpu event s x played asked extends ends = by_rest extends.0 extends.1
  where
    by_rest : (rest : List ℕ) → s ≡ p ++ rest
        → (next : ℕ) × (next < length g.scripts) × Extends s (p ++ next ∷ [])
    by_rest [] is =
        let news_same : ends.news ≡ news =
        same_Some ends.news news (sym ends.played ∙ (ap (plays g) (is ∙ append-nil p) ∙ played)) in
        absurd (none-some event (sym (rw news_same at (ends.over cpu)) ∙ asked))
    by_rest (c ∷ rest) is =
        elim (cases_option (next_call g c news)) [
          | inl none ↦ absurd (none-some ends.news
              (sym (ap (plays g) is ∙ stops g p rest news c played none) ∙ ends.played))
          | inr e ↦ (c, asks_within g news c e.0 e.1, (rest, is ∙ sym (append_assoc p (c ∷ []) rest)))
        ]

-- the schedule that comes there is complete
pub complete : (g : Setting) (p : List ℕ) (news : List Record) → plays g p ≡ Some news
    → ((cpu : ℕ) → next_call g cpu news ≡ None) → EndsWith g p (outcome_after g news)
complete g p news played over = record { news = news; played = played; over = over; ends = refl }
