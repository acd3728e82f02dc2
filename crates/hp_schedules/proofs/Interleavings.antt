-- Schedules of scripts whose lines are one call each.
use Rattle.std.proofs.Common.{◌≡◌, ℕ, zero, suc, ◌+◌, ◌<◌, ◌≤◌, Bool, true, false, cond, List, [], ◌∷◌, ◌++◌, length, Option, Some, None, IfSome, eqb, get_or, slice_get, refl, ap, sym, subst, ◌∙◌, arith, inl, inr}
use Rattle.std.specs.Prelude.{◌↔◌, IfNone}
use Rattle.std.specs.List.{list_all}
use Rattle.std.specs.Option.{SomeIff}
use Rattle.std.proofs.lemmas.Bool.{and_parts, cases_lt, eq-eqb, eqb-true}
use Rattle.std.proofs.lemmas.List.{append-nil, length_push}
use Rattle.std.proofs.lemmas.Option.{none-some, same_Some}
use Rattle.hp_units.specs.Receipts.{receipts_of}
use Rattle.hp_units.specs.declared.events.Event.{Event}
use Rattle.hp_units.specs.declared.replies.Record.{Record}
use Rattle.hp_units.specs.declared.replies.Receipt.{Receipt}
use Rattle.hp_schedules.specs.declared.scripts.Step.{Step}
use Rattle.hp_schedules.specs.Interleavings.{AreOneCalls, IsCallCount, IsInterleaving, IsRoomNeeded, holds_no_plan, script_length, script_lengths}
use Rattle.hp_schedules.specs.Multinomials.{IsMultinomial, sum, turns_of}
use Rattle.hp_schedules.specs.Orders.{HasCount}
use Rattle.hp_schedules.specs.Schedules.{IsComplete, Setting, outcome_after, next_call, plays, record_of_call}
use Rattle.hp_schedules.specs.Scripts.{Known, known_of, next_in}
use Rattle.hp_schedules.proofs.Counting.{same_count}
use Rattle.hp_schedules.proofs.Interleaved.{HasTurns, interleaved, turns_cons}
use Rattle.hp_schedules.proofs.Agreeing.{each_passes}
use Rattle.hp_laws.proofs.Options.{cases_option}
use Rattle.hp_schedules.proofs.OneCalls.{asks_once, skips, stays}
use Rattle.hp_schedules.proofs.Plays.{from_news, stays_none}
use Rattle.hp_schedules.proofs.Steps.{receipts_push}

-- ---- lines

abbrev AllOne : List Step → Type 0
AllOne lines = holds_no_plan lines ≡ true

-- lines ask for something where there are fewer receipts than lines
asks : (cpus : ℕ) (known : Known) (lines : List Step) (rs : List Receipt) → AllOne lines
    → length rs < length lines
    → (e : Event) × (next_in cpus known lines rs ≡ Some e)
asks cpus known [] rs all less = absurd (omega arith)
asks cpus known (line ∷ lines) [] all less =
    let first = asks_once cpus known line (and_parts _ _ all).0 in
    (first.0, stays cpus known line lines (and_parts _ _ all).0 ∙ first.1)
asks cpus known (line ∷ lines) (r ∷ rs) all less =
    let later = asks cpus known lines rs (and_parts _ _ all).1 (omega arith) in
    (later.0, skips cpus known line lines r rs (and_parts _ _ all).0 ∙ later.1)

-- and for nothing where there are as many
asks_none : (cpus : ℕ) (known : Known) (lines : List Step) (rs : List Receipt) → AllOne lines
    → length lines ≤ length rs
    → next_in cpus known lines rs ≡ None
asks_none cpus known [] rs all le = refl
asks_none cpus known (line ∷ lines) [] all le = absurd (omega arith)
asks_none cpus known (line ∷ lines) (r ∷ rs) all le =
    grind (arith, and_parts, skips, asks_none cpus known lines rs)

-- ---- scripts

-- how many calls a processor has made
abbrev made : (cpu : ℕ) → List Record → ℕ
made cpu news = length (receipts_of cpu news)

-- a processor asks where it has made fewer calls than its script has lines
call_asks : (g : Setting) (cpu : ℕ) (news : List Record) → AreOneCalls g.scripts
    → made cpu news < script_length g.scripts cpu → (e : Event) × (next_call g cpu news ≡ Some e)
unfolding next_call
call_asks g cpu news all less =
    elim (cases_option (slice_get g.scripts cpu)) [
      | inl none ↦ absurd (omega (arith, rw none at less))
      | inr lines ↦ (let e =
          asks g.layout.cpus (known_of (receipts_of cpu news)) lines.0 (receipts_of cpu news)
          (each_passes holds_no_plan g.scripts cpu lines.0 all lines.1) (rw lines.1 at less) in
          (e.0, rw lines.1 e.1))
    ]

call_none : (g : Setting) (cpu : ℕ) (news : List Record) → AreOneCalls g.scripts
    → script_length g.scripts cpu ≤ made cpu news → next_call g cpu news ≡ None
unfolding next_call
call_none g cpu news all le = grind (arith, cases_option, asks_none, each_passes)

-- a processor's call is one more of its own
made_more : (g : Setting) (cpu c : ℕ) (news : List Record) (e : Event) (own : Bool) → eqb c cpu ≡ own
    → made cpu (news ++ record_of_call g news c e ∷ []) ≡ made cpu news + cond own 1 0
unfolding record_of_call
made_more g cpu c news e true own = rw (receipts_push _ news _ _ own, length_push)
made_more g cpu c news e false own = rw (receipts_push _ news _ _ own, append-nil) (omega arith)

-- ---- schedules

-- each processor has made the calls of its turns, and no more than its script has
turns_made : (g : Setting) (cpu : ℕ) (s : List ℕ) (news end : List Record) → AreOneCalls g.scripts
    → from_news g news s ≡ Some end → made cpu news ≤ script_length g.scripts cpu
    → (made cpu end ≡ made cpu news + turns_of cpu s) × (made cpu end ≤ script_length g.scripts cpu)
turns_made g cpu [] news end all is le = rw (← same_Some news end is) (omega arith, le)
turns_made g cpu (c ∷ s) news end all is le =
    elim (cases_option (next_call g c news)) [
      | inl none ↦ absurd (none-some end (sym (stays_none g s) ∙ (rw none at is)))
      | inr e ↦ (let later =
          turns_made g cpu s _ _ all (rw e.1 at is) (room _ e.1 (eqb c cpu) refl) in
          let one = made_more g cpu c news e.0 (eqb c cpu) refl in
          (omega (arith, later.0, one, turns_cons cpu c s (eqb c cpu) refl), later.1))
    ]
  where
    room : (e : Event) → next_call g c news ≡ Some e → (own : Bool) → eqb c cpu ≡ own
        → made cpu (news ++ record_of_call g news c e ∷ []) ≤ script_length g.scripts cpu
    room e next false which = omega (arith, made_more g _ c news e _ which)
    room e next true which =
        elim (cases_lt (made cpu news) (script_length g.scripts cpu)) [
          | inl less ↦ omega (arith, made_more g _ c news e _ which)
          | inr past ↦
              absurd (none-some e (sym (call_none g c news all (rw (eqb-true c cpu which) past)) ∙ next))
        ]

-- a schedule in which each processor stands as often as its script has lines can be played
turns_play : (g : Setting) (s : List ℕ) (news : List Record) → AreOneCalls g.scripts
    → ((cpu : ℕ) → made cpu news + turns_of cpu s ≡ script_length g.scripts cpu)
    → (end : List Record) × (from_news g news s ≡ Some end)
turns_play g [] news all counts = (news, refl)
turns_play g (c ∷ s) news all counts =
    let asked = call_asks g c news all (omega (arith, counts c, turns_cons c c s true (eq-eqb c c refl))) in
    let later =
    turns_play g s (news ++ record_of_call g news c asked.0 ∷ []) all
    (λ cpu. let one = made_more g cpu c news asked.0 (eqb c cpu) refl in
    omega (arith, counts cpu, turns_cons cpu c s (eqb c cpu) refl, one)) in
    (later.0, rw asked.1 later.1)

-- the complete schedules of such scripts are those in which each processor stands as often as its
-- script has lines
pub complete_schedules : (g : Setting) (s : List ℕ) → AreOneCalls g.scripts
    → IsComplete g s ↔ IsInterleaving g.scripts s
unfolding plays
complete_schedules g s all = (
  λ h cpu. let made_all = turns_made g cpu s [] h.1.news all h.1.played (omega arith) in
      elim (cases_lt (made cpu h.1.news) (script_length g.scripts cpu)) [
        | inl less ↦
            absurd (let e = call_asks g cpu h.1.news all less in none-some e.0 (sym (h.1.over cpu) ∙ e.1))
        | inr past ↦ omega (arith, made_all.0, made_all.1, past)
      ],
  λ counts. let end = turns_play g s [] all (λ cpu. omega (arith, counts cpu)) in (
    outcome_after g end.0,
    record {
      news = end.0;
      played = end.1;
      over =
          λ cpu.
          call_none g cpu end.0 all (let m = turns_made g cpu s [] end.0 all end.1 (omega arith) in
          omega (arith, m.0, counts cpu));
      ends = refl;
    },
  ),
)

-- ---- how many there are

-- the length of a processor's script
length_at : (scripts : List (List Step)) (cpu : ℕ)
    → get_or (script_lengths scripts) cpu 0 ≡ script_length scripts cpu
length_at [] cpu = refl
length_at (lines ∷ scripts) zero = refl
length_at (lines ∷ scripts) (suc cpu) = length_at scripts cpu

-- as many as the multinomial coefficient of the scripts' lengths
pub complete_counted : (g : Setting) → AreOneCalls g.scripts
    → (m : ℕ) × HasCount (IsComplete g) m × IsMultinomial (script_lengths g.scripts) m
complete_counted g all =
    let counted = interleaved (sum (script_lengths g.scripts)) (script_lengths g.scripts) refl in (
      counted.0,
      same_count (HasTurns (script_lengths g.scripts)) (IsComplete g) counted.0
          (λ s h. (complete_schedules g s all).1 (λ cpu. h cpu ∙ length_at g.scripts cpu))
          (λ s h cpu. (complete_schedules g s all).0 h cpu ∙ sym (length_at g.scripts cpu)) counted.1,
      counted.2,
    )

-- ---- how many calls there are, and the room that they need

pub calls_told : (scripts : List (List Step)) (lengths : List ℕ) (calls : Option ℕ) → AreOneCalls scripts
    → lengths ≡ script_lengths scripts
    → IfSome calls (λ n. (n ≡ sum lengths) × (sum lengths < 18446744073709551616))
    → IfNone calls (18446744073709551616 ≤ sum lengths) → IsCallCount scripts calls
calls_told scripts lengths None one are some none =
    λ _. subst (λ (ns : List ℕ). 18446744073709551616 ≤ sum ns) are none
calls_told scripts lengths (Some n) one are some none = (one, some.0 ∙ ap sum are)

pub room_told : (g : Setting) (lines records : ℕ) (needed : Option ℕ) → AreOneCalls g.scripts
    → lines ≡ sum (script_lengths g.scripts) → records ≡ length g.start
    → SomeIff needed (lines + records < 18446744073709551616) (lines + records) → IsRoomNeeded g needed
room_told g lines records None one all are over =
    elim (cases_lt (lines + records) 18446744073709551616) [
      | inl fits ↦ absurd (over fits)
      | inr past ↦ λ _. omega (arith, past, all, are)
    ]
room_told g lines records (Some needed) one all are is = (one, omega (arith, is.1, all, are))

-- a script that holds a plan
pub with_plan : (scripts : List (List Step)) (none : Bool) → none ≡ list_all holds_no_plan scripts
    → none ≡ false → AreOneCalls scripts → ⊥
with_plan scripts none is unset one = let both : true ≡ false = sym one ∙ (sym is ∙ unset) in cc
