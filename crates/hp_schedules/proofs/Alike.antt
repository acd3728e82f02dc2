-- Schedules whose records are alike continue alike, and end alike.
use Rattle.std.proofs.Common.{◌≡◌, ℕ, zero, suc, ◌+◌, ◌<◌, ◌≤◌, true, List, [], ◌∷◌, ◌++◌, length, map, Option, Some, None, refl, ap, sym, subst, ◌∙◌, arith}
use Rattle.std.specs.Prelude.{option_map}
use Rattle.std.specs.List.{range_with_len}
use Rattle.std.proofs.lemmas.List.{map-append}
use Rattle.std.proofs.lemmas.Option.{slice_get_within}
use Rattle.std.proofs.lemmas.Simd.{map-map}
use Rattle.hp_units.specs.History.{run, value_of}
use Rattle.hp_units.specs.LayoutParts.{LayoutParts}
use Rattle.hp_units.specs.Memory.{Memory}
use Rattle.hp_units.specs.declared.events.Event.{Event}
use Rattle.hp_units.specs.Receipts.{receipts_of}
use Rattle.hp_units.specs.declared.replies.Receipt.{Receipt}
use Rattle.hp_units.specs.declared.replies.Record.{Record}
use Rattle.hp_units.specs.declared.replies.Reply.{Reply}
use Rattle.hp_laws.specs.Renumbered.{renumbered, renumbered_event}
use Rattle.hp_laws.proofs.Alike.{its_own, own_differ, own_event, own_memory}
use Rattle.hp_schedules.specs.Alike.{AreAlike, AreJoined, AreMergeable, exchanges, is_mergeable, unnumbered}
use Rattle.hp_schedules.specs.Openings.{Opening, renumbered_opening}
use Rattle.hp_schedules.specs.Continuing.{AreJoinedBy, AreSameBy, AreSameReceipts}
use Rattle.hp_schedules.specs.Outcomes.{OutcomeValue, replies_to, told}
use Rattle.hp_schedules.specs.Schedules.{EndsWith, Setting, next_call, outcome_after, plays}
use Rattle.hp_schedules.specs.Scripts.{known_of, next_of, own_operation}
use Rattle.hp_schedules.specs.declared.scripts.Step.{Step}
pub use Rattle.hp_schedules.proofs.SameCalls.{call_leaves, event_kept}
use Rattle.hp_schedules.proofs.Continuing.{AreSameRecords, GoesOnAs, goes_on_as, plays_from}
use Rattle.hp_schedules.proofs.JoinedBy.{IsSameRecord}
use Rattle.hp_schedules.proofs.SameCalls as calls
use Rattle.hp_schedules.proofs.LineAnswers.{receipts_later}
use Rattle.hp_schedules.proofs.Plays.{from_news, plays_on, recorded}
use Rattle.hp_schedules.proofs.Agreeing.{frames_plain, next_agree, operation_more, results_agree, script_mergeable}
use Rattle.hp_schedules.proofs.Unnumbered.{next_plain}

-- ---- alike records continue alike

-- receipts that are the same with the numbers that operations have
own_receipts : (rs ss : List Receipt) → AreSameReceipts its_own its_own rs ss → rs ≡ ss
own_receipts [] [] same = refl
own_receipts (r ∷ rs) (s ∷ ss) same =
    let first : made r.serial r.event r.reply ≡ made s.serial s.event s.reply =
    cc (own_event r.event, own_event s.event, same.0.number, same.0.event, same.0.reply) in
    rw (first, own_receipts rs ss same.1)
  where
    made : ℕ → Event → Reply → Receipt
    made serial event reply = record { serial = serial; event = event; reply = reply }
own_receipts rs ss same = absurd same

-- with the numbers that the operations have
same_alike : (g : Setting) (h k : List Record) → AreMergeable g.scripts → AreAlike g h k
    → AreSameBy its_own its_own g h k
same_alike g h k all alike = record {
  calls = alike.calls;
  later = λ n past. refl;
  ahead = λ cpu lines here xs ys are.
      let within = slice_get_within g.scripts cpu lines here in
      let same = own_receipts xs ys are in
      ap (option_map (renumbered_event its_own))
      (ahead g.layout.cpus lines (receipts_of cpu h) (receipts_of cpu k) xs
      (script_mergeable g.scripts cpu lines all here) (alike.begun cpu within) (alike.exchanged cpu within)
      ∙ ap (λ (rs : List Receipt). next_of g.layout.cpus lines (receipts_of cpu k ++ rs)) same);
  nets = record {
    first_openings = alike.nets.openings;
    second_openings = alike.nets.openings;
    first_open = alike.nets.first_open;
    second_open = alike.nets.second_open;
    openings = refl;
    state = ap (renumbered its_own) alike.nets.state;
  };
}
  where
    ahead : (cpus : ℕ) (lines : List Step) (xs ys later : List Receipt) → is_mergeable lines ≡ true
        → own_operation xs ≡ own_operation ys → map unnumbered xs ≡ map unnumbered ys
        → next_of cpus lines (xs ++ later) ≡ next_of cpus lines (ys ++ later)
    ahead cpus lines xs ys later merges op same =
        rw (← next_plain cpus (known_of (xs ++ later)) lines (xs ++ later), map-append unnumbered xs later)
        (rw (same, ← map-append unnumbered ys later)
        (rw (next_plain cpus (known_of (xs ++ later)) lines (ys ++ later))
        (next_agree cpus (known_of (xs ++ later)) (known_of (ys ++ later)) lines (ys ++ later)
        (results_agree xs ys later lines merges op (rw (← frames_plain xs, same, frames_plain ys))))))

pub all_calls : (g : Setting) (h k : List Record) → AreAlike g h k
    → length (g.start ++ h) ≡ length (g.start ++ k)
all_calls g h k alike = calls.all_calls g h k alike.calls

pub call_same : (g : Setting) (h k : List Record) (cpu : ℕ) → AreMergeable g.scripts → AreAlike g h k
    → next_call g cpu h ≡ next_call g cpu k
call_same g h k cpu all alike =
    sym (own_call (next_call g cpu h))
    ∙ (calls.call_same its_own its_own g h k cpu (same_alike g h k all alike)
    ∙ own_call (next_call g cpu k))
  where
    own_call : (o : Option Event) → option_map (renumbered_event its_own) o ≡ o
    own_call None = refl
    own_call (Some e) = ap Some (own_event e)

-- ---- the same continuations

-- a processor's exchanges with further records
exchanged_on : (cpu : ℕ) (h more : List Record)
    → exchanges cpu (h ++ more) ≡ exchanges cpu h ++ exchanges cpu more
exchanged_on cpu h more = grind (arith, receipts_later, map-append)

-- records that are the same with the numbers that operations have
own_record : (r s : Record) → IsSameRecord its_own its_own r s → r ≡ s
own_record r s one =
    let same : recorded r.serial r.cpu r.event r.reply ≡ recorded s.serial s.cpu s.event s.reply =
    cc (own_event r.event, own_event s.event, one.serial, one.cpu, one.receipt.event, one.receipt.reply) in
    same

own_records : (rs ss : List Record) → AreSameRecords its_own its_own rs ss → rs ≡ ss
own_records [] [] same = refl
own_records (r ∷ rs) (s ∷ ss) same =
    rw (own_record r s same.0, own_records rs ss same.1)
own_records rs ss same = absurd same

own_openings : (os : List Opening) → map (renumbered_opening its_own) os ≡ os
own_openings [] = refl
own_openings (o ∷ os) = rw (own_memory o.memory, own_openings os)

own_nets : (l : LayoutParts) (base : Memory) (a b : List Record) → AreJoinedBy its_own its_own l base a b
    → AreJoined l base a b
own_nets l base a b j = record {
  openings = j.first_openings;
  first_open = j.first_open;
  second_open =
      rw (← own_openings j.first_openings, j.openings, own_openings j.second_openings) j.second_open;
  state = sym (own_memory (run l base a)) ∙ (j.state ∙ own_memory (run l base b));
}

-- the operation that a processor began last, with further records
begun_on : (cpu : ℕ) (h k more : List Record)
    → own_operation (receipts_of cpu h) ≡ own_operation (receipts_of cpu k)
    → own_operation (receipts_of cpu (h ++ more)) ≡ own_operation (receipts_of cpu (k ++ more))
begun_on cpu h k more same = grind (arith, receipts_later, operation_more)

pub record PlaysAlike (g : Setting) (k : List Record) (rest : List ℕ) (end : List Record) : Type 0 where
  pub other : List Record
  pub played : from_news g k rest ≡ Some other
  pub alike : AreAlike g end other

pub played_alike : (g : Setting) (rest : List ℕ) (h k end : List Record) → AreMergeable g.scripts
    → AreAlike g h k
    → from_news g h rest ≡ Some end → PlaysAlike g k rest end
played_alike g rest h k end all alike is = record {
  other = k ++ on.more;
  played = on.played ∙ ap (λ (more : List Record). Some (k ++ more)) (sym same);
  alike = record {
    calls = end_alike.calls;
    exchanged =
        λ cpu within. ap (exchanges cpu) on.end_is ∙ (exchanged_on cpu h on.more
        ∙ (ap (λ (xs : List Receipt). xs ++ exchanges cpu on.more) (alike.exchanged cpu within)
        ∙ sym (exchanged_on cpu k on.more)));
    begun =
        λ cpu within. ap (λ (news : List Record). own_operation (receipts_of cpu news)) on.end_is
        ∙ begun_on _ h k on.more (alike.begun cpu within);
    nets = own_nets _ _ _ _ end_alike.nets;
  };
}
  where
    on : GoesOnAs its_own its_own g rest h k end
    on = goes_on_as _ _ own_differ own_differ g _ h k _ all (same_alike g h k all alike) is

    same : on.more ≡ on.others
    same = own_records _ _ on.same

    end_alike : AreSameBy its_own its_own g end (k ++ on.more)
    end_alike =
        subst (λ (more : List Record). AreSameBy its_own its_own g end (k ++ more)) (sym same) on.alike

-- ---- the same outcome

replies_shown : (cpu : ℕ) (news : List Record)
    → replies_to cpu news ≡ map (λ (r : Receipt). told r.reply) (exchanges cpu news)
replies_shown cpu news =
    simp map-map

replies_same : (h k : List Record) (all from n : ℕ) → from + n ≤ all
    → ((cpu : ℕ) → cpu < all → exchanges cpu h ≡ exchanges cpu k)
    → map (λ cpu. replies_to cpu h) (range_with_len from n)
    ≡ map (λ cpu. replies_to cpu k) (range_with_len from n)
replies_same h k all from zero within same = refl
replies_same h k all from (suc n) within same =
    rw (replies_shown from h, same from (omega arith), ← replies_shown from k)
    (rw (replies_same h k all (from + 1) n (omega arith) same))

outcome_same : (g : Setting) (h k : List Record) → AreAlike g h k → outcome_after g h ≡ outcome_after g k
unfolding outcome_after value_of
outcome_same g h k alike =
    rw (replies_same h k (length g.scripts) 0 (length g.scripts) (omega arith) alike.exchanged)
    (rw alike.nets.state)

-- ---- complete schedules

-- one schedule's complete continuation is the other's, with the same outcome
pub ends_alike : (g : Setting) (p q rest : List ℕ) (h k : List Record) (x : OutcomeValue)
    → AreMergeable g.scripts → plays g p ≡ Some h → plays g q ≡ Some k → AreAlike g h k
    → EndsWith g (p ++ rest) x → EndsWith g (q ++ rest) x
ends_alike g p q rest h k x all first second alike ends = record {
  news = on.other;
  played = rw (plays_on g q rest, second) on.played;
  over = λ cpu. sym (call_same g ends.news on.other cpu all on.alike) ∙ ends.over cpu;
  ends = sym (outcome_same g ends.news on.other on.alike) ∙ ends.ends;
}
  where
    on : PlaysAlike g k rest ends.news
    on =
        played_alike g rest h k ends.news all alike (plays_from g p rest h ends.news first ends.played)
