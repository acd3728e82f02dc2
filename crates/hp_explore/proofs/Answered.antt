-- What the latest call of a path says of its line, and which scripts ask for no call.
use Rattle.std.proofs.Common.{◌≡◌, ℕ, zero, suc, ◌<◌, ◌≤◌, ◌==◌, Bool, false, List, [], ◌∷◌, ◌++◌, Option, Some, None, length, refl, ap, subst, arith, eqb, slice_get, sym, ◌∙◌, inl, inr}
use Rattle.std.proofs.lemmas.List.{same_from_push, append-nil, append_assoc}
use Rattle.std.proofs.lemmas.Option.{same_Some, slice_get_past}
use Rattle.hp_units.specs.declared.replies.Record.{Record}
use Rattle.hp_schedules.specs.LineAnswers.{answers_at, answers_in}
use Rattle.hp_schedules.specs.Schedules.{Setting, next_call, play_one, plays, schedule_of}
use Rattle.hp_schedules.proofs.SameCalls.{event_kept}
use Rattle.hp_schedules.proofs.Plays.{asks_within, plays_on}
use Rattle.hp_explore.proofs.Continued.{first_played}
use Rattle.hp_explore.proofs.Framing.{longer_schedule}
use Rattle.std.specs.Prelude.{◌↔◌, IsTrue}
use Rattle.std.proofs.lemmas.Bool.{eq-eqb, eqb-true}
use Rattle.hp_units.specs.Receipts.{receipts_of}
use Rattle.hp_units.specs.declared.events.Event.{Event}
use Rattle.hp_units.specs.declared.replies.Receipt.{Receipt}
use Rattle.hp_laws.proofs.Options.{cases_option}
use Rattle.hp_schedules.specs.Scripts.{Known, after_line, known_of, line_next, next_in, nothing_known}
use Rattle.hp_schedules.specs.declared.scripts.Step.{Step}
use Rattle.hp_schedules.proofs.AfterLines.{any_known}
use Rattle.hp_schedules.proofs.AnswersAt.{of_script}

-- a processor without a script has finished no lines
pub none_finished : (g : Setting) (cpu : ℕ) (news : List Record) → length g.scripts ≤ cpu
    → 0 ≡ length (answers_at g cpu news)
unfolding answers_at
none_finished g cpu news past = rw (slice_get_past g.scripts cpu past) refl

-- ---- the latest call

-- a call led there from the records before it
by_place : (g : Setting) (cpu : ℕ) (before : List Record) (r : Record) (o : Option (List Record))
    → play_one g o cpu ≡ Some (before ++ r ∷ []) → next_call g cpu before ≡ Some r.event
by_place g cpu before r None is = absurd (cc)
by_place g cpu before r (Some h) is =
    grind (arith, first_played, same_from_push, same_Some, event_kept)

-- the script asked for the latest event
pub asked_latest : (g : Setting) (before : List Record) (r : Record)
    → plays g (schedule_of (before ++ r ∷ [])) ≡ Some (before ++ r ∷ [])
    → next_call g r.cpu before ≡ Some r.event
asked_latest g before r played = grind (arith, by_place, plays_on, longer_schedule)

-- a path with records has a latest one, of a processor with a script
pub record HasLatest (g : Setting) (news : List Record) : Type 0 where
  pub before : List Record
  pub r : Record
  pub is : news ≡ before ++ r ∷ []
  pub within : r.cpu < length g.scripts

last_of : (x : Record) (news : List Record)
    → (before : List Record) × (r : Record) × (x ∷ news ≡ before ++ r ∷ [])
last_of x [] = ([], x, refl)
last_of x (y ∷ news) =
    let rest = last_of y news in (x ∷ rest.0, rest.1, ap (λ (ys : List Record). x ∷ ys) rest.2)

pub latest_asked : (g : Setting) (news : List Record) → 0 < length news
    → plays g (schedule_of news) ≡ Some news → HasLatest g news
latest_asked g [] some played = absurd (omega (arith, some))
latest_asked g (x ∷ news) some played =
    let last = last_of x news in record {
      before = last.0;
      r = last.1;
      is = last.2;
      within =
          asks_within g last.0 last.1.cpu last.1.event
          (asked_latest g last.0 last.1
          (subst (λ (h : List Record). plays g (schedule_of h) ≡ Some h) last.2 played));
    }

-- there are some
pub some_if : (n : ℕ) (none : Bool) → none ≡ (n == 0) → none ≡ false → 0 < n
some_if zero none is not = absurd (cc)
some_if (suc n) none is not = omega arith

-- ---- a script is finished if each of its lines has an answer

-- a line that is not finished has a next event
unfinished : (cpus : ℕ) (known : Known) (line : Step) (earlier later : List Receipt)
    → after_line cpus known line earlier later ≡ None
    → (event : Event) × (line_next cpus known line (earlier ++ later) ≡ Some event)
unfinished cpus known line earlier [] on =
    elim (cases_option (line_next cpus known line earlier)) [
      | inl none ↦ absurd (let no = rw none at on in cc)
      | inr next ↦ (next.0, rw append-nil next.1)
    ]
unfinished cpus known line earlier (r ∷ rs) on =
    elim (cases_option (line_next cpus known line earlier)) [
      | inl none ↦ absurd (let no = rw none at on in cc)
      | inr next ↦ (let later = unfinished cpus known line (earlier ++ r ∷ []) rs (rw next.1 at on) in
          (later.0, rw (append_assoc earlier (r ∷ []) rs) at later.1))
    ]

all_answered : (cpus : ℕ) (known : Known) (lines : List Step) (receipts : List Receipt)
    → (length (answers_in cpus lines receipts) ≡ length lines) ↔ (next_in cpus known lines receipts ≡ None)
all_answered cpus known [] receipts = (λ same. refl, λ none. refl)
all_answered cpus known (line ∷ lines) receipts =
    elim (cases_option (after_line cpus nothing_known line [] receipts)) [
      | inl on ↦ (let same = any_known cpus known line [] receipts in
          let next = unfinished cpus known line [] receipts (same ∙ on) in
          rw (same, on, next.1)
          (λ same. absurd (omega (arith, same)), λ none. absurd cc))
      | inr rest ↦ (let others = all_answered cpus known lines rest.0 in
          rw (any_known cpus known line [] receipts, rest.1)
          (λ same. others.0 (omega (arith, same)), λ none. omega (arith, others.1 none)))
    ]

pub finished_if : (g : Setting) (cpu : ℕ) (news : List Record) (lines : List Step) (n m : ℕ)
    → slice_get g.scripts cpu ≡ Some lines → n ≡ length (answers_at g cpu news) → m ≡ length lines
    → IsTrue (eqb n m) ↔ (next_call g cpu news ≡ None)
unfolding next_call
finished_if g cpu news lines n m here n_is m_is =
    let exactly : (length (answers_at g cpu news) ≡ length lines) ↔ (next_call g cpu news ≡ None) =
    rw (of_script g cpu news lines here, here)
    (all_answered g.layout.cpus (known_of (receipts_of cpu news)) lines (receipts_of cpu news)) in (
      λ told. exactly.0 (sym n_is ∙ (eqb-true n m told ∙ m_is)),
      λ none. eq-eqb n m (n_is ∙ (exactly.1 none ∙ sym m_is)),
    )
