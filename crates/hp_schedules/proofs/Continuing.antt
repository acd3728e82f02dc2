-- After two beginnings that continue alike each continuation is played call for call.
use Rattle.std.proofs.Common.{◌≡◌, ℕ, List, [], ◌∷◌, ◌++◌, map, Option, Some, None, refl, ap, sym, ◌∙◌, inl, inr}
use Rattle.std.specs.Prelude.{fold, option_map}
use Rattle.std.proofs.lemmas.List.{append-nil, append_assoc}
use Rattle.std.proofs.lemmas.Option.{none-some, same_Some, slice_get-map}
use Rattle.hp_units.specs.History.{net_of, run, value_of}
use Rattle.hp_units.specs.Memory.{Memory}
use Rattle.hp_units.specs.declared.events.Event.{Event}
use Rattle.hp_units.specs.declared.replies.Record.{Record}
use Rattle.hp_units.specs.declared.rows.Row.{Row}
use Rattle.hp_laws.specs.Renumbered.{IsOneToOne, renumbered, renumbered_event, renumbered_row}
use Rattle.hp_laws.proofs.Alike.{unseen_same}
use Rattle.hp_schedules.specs.Alike.{AreMergeable}
use Rattle.hp_schedules.specs.Continuing.{AreSameBy, ContinueAlike, ContinuesAs, anonymous, anonymous_record, renumbered_events}
use Rattle.hp_schedules.specs.Outcomes.{ended_row, ended_rows_below}
use Rattle.hp_schedules.specs.Schedules.{Setting, next_call, play_one, plays, record_of_call}
use Rattle.hp_schedules.proofs.JoinedBy.{IsSameRecord}
use Rattle.hp_laws.proofs.Options.{cases_option}
use Rattle.hp_schedules.proofs.SameCalls.{call_leaves, call_same, event_kept, record_same, same_more}
use Rattle.hp_schedules.proofs.Plays.{from_news, plays_on, recorded, stays_none}

-- ---- the same but for the operations

pub anonymous_same : (p q : ℕ → ℕ) (e d : Event) → renumbered_event p e ≡ renumbered_event q d
    → anonymous e ≡ anonymous d
anonymous_same p q e d same =
    unseen_same anonymous (λ op other drained. refl) (λ op other. refl) (λ op other. refl) (λ op other. refl)
    p q e d same

record_anonymous : (p q : ℕ → ℕ) (r s : Record) → IsSameRecord p q r s
    → anonymous_record r ≡ anonymous_record s
record_anonymous p q r s one =
    let same : recorded r.serial r.cpu (anonymous r.event) r.reply
    ≡ recorded s.serial s.cpu (anonymous s.event) s.reply =
    cc (anonymous_same p q r.event s.event one.receipt.event, one.serial, one.cpu, one.receipt.reply) in
    same

-- lists of records that are the same, one by one
abbrev pub AreSameRecords : (p q : ℕ → ℕ) → List Record → List Record → Type 0
AreSameRecords p q [] [] = Unit {0}
AreSameRecords p q [] (s ∷ others) = ⊥
AreSameRecords p q (r ∷ more) [] = ⊥
AreSameRecords p q (r ∷ more) (s ∷ others) = IsSameRecord p q r s × AreSameRecords p q more others

records_anonymous : (p q : ℕ → ℕ) (more others : List Record) → AreSameRecords p q more others
    → map anonymous_record more ≡ map anonymous_record others
records_anonymous p q [] [] same = refl
records_anonymous p q (r ∷ more) (s ∷ others) same =
    rw (record_anonymous p q r s same.0, records_anonymous p q more others same.1)
records_anonymous p q more others same = absurd same

events_same : (p q : ℕ → ℕ) (more others : List Record) → AreSameRecords p q more others
    → renumbered_events p more ≡ renumbered_events q others
events_same p q [] [] same = refl
events_same p q (r ∷ more) (s ∷ others) same =
    rw (same.0.receipt.event, events_same p q more others same.1)
events_same p q more others same = absurd same

-- ---- the same continuations

-- the same records are played from both
pub record GoesOnAs (p q : ℕ → ℕ) (g : Setting) (rest : List ℕ) (h k end : List Record) : Type 0 where
  pub more : List Record
  pub others : List Record
  pub end_is : end ≡ h ++ more
  pub played : from_news g k rest ≡ Some (k ++ others)
  pub same : AreSameRecords p q more others
  pub alike : AreSameBy p q g end (k ++ others)

pub goes_on_as : (p q : ℕ → ℕ) → IsOneToOne p → IsOneToOne q → (g : Setting) (rest : List ℕ)
    (h k end : List Record)
    → AreMergeable g.scripts → AreSameBy p q g h k → from_news g h rest ≡ Some end
    → GoesOnAs p q g rest h k end
goes_on_as p q p_one q_one g [] h k end all alike is = record {
  more = [];
  others = [];
  end_is = sym (same_Some h end is) ∙ sym (append-nil h);
  played = ap Some (sym (append-nil k));
  same = tt;
  alike =
      rw (← same_Some h end is, append-nil) alike;
}
goes_on_as p q p_one q_one g (cpu ∷ rest) h k end all alike is =
    elim (cases_option (next_call g cpu h)) [
      | inl none ↦ absurd (none-some end (sym (stays_none g rest) ∙ (rw none at is)))
      | inr e ↦ elim (cases_option (next_call g cpu k)) [
        | inl none ↦ absurd (let one = rw (e.1, none) at (call_same p q g h k cpu alike) in cc)
        | inr d ↦ on e.0 d.0 e.1 d.1
            (goes_on_as p q p_one q_one g rest (h ++ record_of_call g h cpu e.0 ∷ [])
            (k ++ record_of_call g k cpu d.0 ∷ []) end all (more e.0 d.0 e.1 d.1) (rw e.1 at is))
      ]
    ]
  where
    one : (e d : Event) → next_call g cpu h ≡ Some e → next_call g cpu k ≡ Some d
        → IsSameRecord p q (record_of_call g h cpu e) (record_of_call g k cpu d)
    one e d asked other =
        record_same p q p_one q_one g h k cpu e d alike
        (same_Some (renumbered_event p e) (renumbered_event q d)
        (rw (asked, other) at (call_same p q g h k cpu alike)))
        (call_leaves g h cpu e all asked) (call_leaves g k cpu d all other)

    more : (e d : Event) → next_call g cpu h ≡ Some e → next_call g cpu k ≡ Some d
        → AreSameBy p q g (h ++ record_of_call g h cpu e ∷ []) (k ++ record_of_call g k cpu d ∷ [])
    more e d asked other =
        same_more p q p_one q_one g h k (record_of_call g h cpu e) (record_of_call g k cpu d)
        (rw (event_kept g h cpu e) (call_leaves g h cpu e all asked))
        (rw (event_kept g k cpu d) (call_leaves g k cpu d all other)) (one e d asked other) alike

    on : (e d : Event) → next_call g cpu h ≡ Some e → next_call g cpu k ≡ Some d
        → GoesOnAs p q g rest (h ++ record_of_call g h cpu e ∷ []) (k ++ record_of_call g k cpu d ∷ []) end
        → GoesOnAs p q g (cpu ∷ rest) h k end
    on e d asked other later = record {
      more = record_of_call g h cpu e ∷ later.more;
      others = record_of_call g k cpu d ∷ later.others;
      end_is = later.end_is ∙ append_assoc h (record_of_call g h cpu e ∷ []) later.more;
      played =
          rw other (later.played ∙ ap Some (append_assoc k (record_of_call g k cpu d ∷ []) later.others));
      same = (one e d asked other, later.same);
      alike = rw (← append_assoc k (record_of_call g k cpu d ∷ []) later.others) later.alike;
    }

-- a schedule goes on from where its beginning leads to
pub plays_from : (g : Setting) (p rest : List ℕ) (h end : List Record) → plays g p ≡ Some h
    → plays g (p ++ rest) ≡ Some end → from_news g h rest ≡ Some end
plays_from g p rest h end first whole =
    sym (plays_on g p rest ∙ ap (λ (o : Option (List Record)). fold (play_one g) o rest) first) ∙ whole

-- the rows at the end, which show no operation
row_same : (f : ℕ → ℕ) (o : Option Row) → ended_row (option_map (renumbered_row f) o) ≡ ended_row o
row_same f None = refl
row_same f (Some row) = refl

rows_same : (f : ℕ → ℕ) (s : Memory) (blocks : ℕ)
    → ended_rows_below blocks (renumbered f s) ≡ ended_rows_below blocks s
rows_same f s blocks = simp (slice_get-map, row_same)

calls_anonymous : (p q : ℕ → ℕ) (o u : Option Event)
    → option_map (renumbered_event p) o ≡ option_map (renumbered_event q) u
    → option_map anonymous o ≡ option_map anonymous u
calls_anonymous p q None None are = refl
calls_anonymous p q (Some e) (Some d) are =
    ap Some (anonymous_same p q e d (same_Some (renumbered_event p e) (renumbered_event q d) are))
calls_anonymous p q o u are = absurd cc

pub continues_as : (g : Setting) (p q rest : List ℕ) (h k end : List Record) → AreMergeable g.scripts
    → plays g p ≡ Some h → plays g q ≡ Some k → (alike : ContinueAlike g h k)
    → plays g (p ++ rest) ≡ Some end → ContinuesAs g q rest h k alike end
unfolding value_of
continues_as g p q rest h k end all first second alike whole = record {
  more = on.more;
  others = on.others;
  end_is = on.end_is;
  played = rw (plays_on g q rest, second) on.played;
  same = records_anonymous _ _ _ _ on.same;
  events = events_same _ _ _ _ on.same;
  after = on.alike;
  calls = λ cpu. calls_anonymous _ _ _
      _ (call_same _ _ g _ _ cpu on.alike);
  rows = λ blocks.
      sym (rows_same alike.first_numbers (run g.layout g.base (net_of (g.start ++ end))) blocks)
      ∙ (ap (ended_rows_below blocks) on.alike.nets.state
      ∙ rows_same alike.second_numbers (run g.layout g.base (net_of (g.start ++ (k ++ on.others)))) blocks);
}
  where
    on : GoesOnAs alike.first_numbers alike.second_numbers g rest h k end
    on =
        goes_on_as _ _ alike.first_differ alike.second_differ g _ h k
        _ all alike.same (plays_from g p _ h _ first whole)
