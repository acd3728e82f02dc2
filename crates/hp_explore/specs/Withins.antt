-- The aim of a search for an end as wanted, within a budget of changes of processor or without one, and
-- the proof that it obeys the laws of an aim.
use Rattle.std.specs.Prelude.{◌≡◌, ℕ, zero, suc, ◌+◌, ◌<◌, Bool, true, false, List, [], ◌∷◌, ◌++◌, Option, Some, None, filter, length, map, slice_index_or}
use Rattle.std.specs.List.{range_with_len}
use Rattle.std.specs.Option.{option_map}
use Rattle.std.proofs.Common.{refl, ap, sym, subst, ◌∙◌, arith, cond, eqb}
use Rattle.std.proofs.lemmas.List.{length-append}
use Rattle.std.proofs.lemmas.List.FromFn.{get_or-map-range_with_len}
use Rattle.std.proofs.lemmas.Option.{slice_get-get_or}
use Rattle.hp_units.specs.History.{value_of}
use Rattle.hp_units.specs.declared.replies.Record.{Record}
use Rattle.hp_units.specs.declared.replies.OpEnd.{OpEnd}
use Rattle.hp_units.specs.declared.replies.Reply.{Reply}
use Rattle.hp_questions.specs.PlanEnds.{ends_answered, plan_ends, plan_ends_of}
use Rattle.hp_questions.proofs.Played.{ends_are_answers}
use Rattle.hp_questions.proofs.Reading.{ends_append}
use Rattle.hp_units.specs.declared.events.Event.{Event}
use Rattle.hp_schedules.specs.Continuing.{ContinuesAs, anonymous, anonymous_record}
use Rattle.hp_schedules.specs.LineAnswers.{answers_at}
use Rattle.hp_schedules.specs.Outcomes.{ended_rows_below, outcome, replies_below, replies_to, told}
use Rattle.hp_schedules.specs.Schedules.{Setting, next_call, outcome_after, plays, schedule_of}
use Rattle.hp_schedules.proofs.Continuing.{continues_as}
use Rattle.hp_questions.specs.Marks.{AreMarks, PlansGoOn, asks_no_plans}
use Rattle.hp_questions.specs.Wanted.{Meets}
use Rattle.hp_questions.specs.declared.wanted.Wanted.{Wanted}
use Rattle.hp_questions.proofs.Marking.{marks_meet, replies_append}
use Rattle.hp_questions.proofs.SameMarks.{marks_long, same_marks}
use Rattle.hp_explore.specs.Aims.{AimValue, HaveSameKey, IsLawful, IsNarrower}
use Rattle.hp_explore.specs.CausesBelow.{AreCausedBelow, answered_alike}
use Rattle.hp_explore.specs.Changes.{changes, changes_after}
use Rattle.hp_explore.specs.Reaching.{IsWithin, Reaches}
use Rattle.hp_schedules.specs.Starts.{same_starts}

-- the latest processor and the number of changes so far; nothing without a budget
abbrev pub AreSpent : (budget : Option ℕ) → List ℕ → List ℕ → Type 0
AreSpent None schedule numbers = numbers ≡ []
AreSpent (Some budget) schedule numbers =
    (start : List ℕ) × (cpu : ℕ) × (schedule ≡ start ++ cpu ∷ []) × (numbers ≡ cpu ∷ changes schedule ∷ [])

-- the last refusals of the plans in progress, as numbers; nothing if no wanted line is about plans
abbrev pub AreCausedIf : (none : Bool) → Setting → List Record → List ℕ → Type 0
AreCausedIf true g news numbers = numbers ≡ []
AreCausedIf false g news numbers = AreCausedBelow g (length g.scripts) news numbers

-- the marks of a place: the progress of the wanted lines, the part of the budget that is spent, and the
-- last refusals of the plans in progress
pub record IsMarked (g : Setting) (wanted : List Wanted) (budget : Option ℕ) (news : List Record)
    (numbers : List ℕ) : Type 0 where
  pub met : List ℕ
  pub spent : List ℕ
  pub causes : List ℕ
  pub parts : numbers ≡ (met ++ spent) ++ causes
  pub met_are : AreMarks g.layout.cpus g.scripts wanted (length g.scripts) news met
  pub spent_are : AreSpent budget (schedule_of news) spent
  pub causes_are : AreCausedIf (asks_no_plans wanted) g news causes

-- the aim of this search: it seeks the schedules within the budget that end as wanted, by way of places
-- within the budget. Without a budget it comes to every place
abbrev pub aim_within : Setting → List Wanted → (budget : Option ℕ) → AimValue
aim_within g wanted budget = record {
  sought = λ s. Reaches g wanted s × IsWithin budget s;
  found = λ s. Reaches g wanted s × IsWithin budget s;
  admits = λ s. IsWithin budget s;
  tries = λ s cpu. IsWithin budget (s ++ cpu ∷ []);
  marks = λ news numbers. IsMarked g wanted budget news numbers;
  is_whole = budget ≡ None;
}

-- ---- the laws of the aim

spent_long : (budget : Option ℕ) (s t xs ys : List ℕ) → AreSpent budget s xs → AreSpent budget t ys
    → length xs ≡ length ys
spent_long None s t xs ys a b = ap (λ (zs : List ℕ). length zs) (a ∙ sym b)
spent_long (Some n) s t xs ys a b =
    ap (λ (zs : List ℕ). length zs) a.3 ∙ sym (ap (λ (zs : List ℕ). length zs) b.3)

-- equal marks of two places have equal parts
record SameParts (g : Setting) (wanted : List Wanted) (budget : Option ℕ) (h k : List Record)
    (marks : List ℕ) (a : IsMarked g wanted budget h marks) (b : IsMarked g wanted budget k marks)
    : Type 0 where
  pub met : a.met ≡ b.met
  pub spent : a.spent ≡ b.spent
  pub causes : a.causes ≡ b.causes

same_parts : (g : Setting) (wanted : List Wanted) (budget : Option ℕ) (h k : List Record) (marks : List ℕ)
    → (a : IsMarked g wanted budget h marks) → (b : IsMarked g wanted budget k marks)
    → SameParts g wanted budget h k marks a b
same_parts g wanted budget h k marks a b = record { met = two.0; spent = two.1; causes = one.1 }
  where
    long : length a.met ≡ length b.met
    long = marks_long g.layout.cpus g.scripts wanted (length g.scripts) h k a.met b.met a.met_are b.met_are

    one : (a.met ++ a.spent ≡ b.met ++ b.spent) × (a.causes ≡ b.causes)
    one =
        same_starts (a.met ++ a.spent) a.causes (b.met ++ b.spent) b.causes
        (omega (
          arith,
          long,
          length-append a.met a.spent,
          length-append b.met b.spent,
          spent_long budget (schedule_of h) (schedule_of k) a.spent b.spent a.spent_are b.spent_are,
        ))
        (sym a.parts ∙ b.parts)

    two : (a.met ≡ b.met) × (a.spent ≡ b.spent)
    two = same_starts a.met a.spent b.met b.spent long one.0

within_counted : (g : Setting) (wanted : List Wanted) (budget : Option ℕ) (h k : List Record)
    (marks : List ℕ)
    → IsMarked g wanted budget h marks → IsMarked g wanted budget k marks → length h ≡ length k
within_counted g wanted budget h k marks a b =
    (same_marks g.layout.cpus g.scripts wanted (length g.scripts) h k b.met
    (subst (AreMarks g.layout.cpus g.scripts wanted (length g.scripts) h)
    (same_parts g wanted budget h k marks a b).met a.met_are)
    b.met_are).0

-- the changes of a schedule and its continuation add up: the changes up to the schedule's latest call,
-- and the changes after this call
last_after : (b : ℕ) (p rest : List ℕ) (c : ℕ)
    → changes_after b ((p ++ c ∷ []) ++ rest) ≡ changes_after b (p ++ c ∷ []) + changes_after c rest
last_after b [] rest c = omega arith
last_after b (a ∷ p) rest c =
    let more : changes_after a ((p ++ c ∷ []) ++ rest)
    ≡ changes_after a (p ++ c ∷ []) + changes_after c rest = last_after a p rest c in
    omega (arith, more)

changes_joined : (s p rest : List ℕ) (c : ℕ) → s ≡ p ++ c ∷ []
    → changes (s ++ rest) ≡ changes s + changes_after c rest
changes_joined s [] rest c is = rw is (omega arith)
changes_joined s (b ∷ p) rest c is = rw is (last_after b p rest c)

within_alike : (budget : Option ℕ) (s t rest xs ys : List ℕ) → xs ≡ ys → AreSpent budget s xs
    → AreSpent budget t ys → IsWithin budget (s ++ rest) → IsWithin budget (t ++ rest)
within_alike None s t rest xs ys is a b within = within
within_alike (Some n) s t rest xs ys is a b within =
    let all : a.1 ∷ changes s ∷ [] ≡ b.1 ∷ changes t ∷ [] = sym a.3 ∙ (is ∙ b.3) in
    let last : a.1 ≡ b.1 = cc in
    let spent : changes s ≡ changes t = cc in
    let from = changes_joined s a.0 rest a.1 a.2 in
    let to = changes_joined t b.0 rest b.1 b.2 in
    omega (arith, within, from, to, spent, ap (λ (c : ℕ). changes_after c rest) last)

-- ---- ends of plans

-- a processor's plans end, after a schedule, as its answers report
ends_at : (g : Setting) (schedule : List ℕ) (news : List Record) (cpu : ℕ) → plays g schedule ≡ Some news
    → cpu < length g.scripts
    → plan_ends_of g.layout.cpus g.scripts (replies_below (length g.scripts) news) cpu
    ≡ ends_answered (answers_at g cpu news)
ends_at g schedule news cpu played within =
    ap (λ (replies : List Reply). plan_ends g.layout.cpus (slice_index_or g.scripts cpu []) replies)
    (get_or-map-range_with_len (λ (c : ℕ). replies_to c news) 0 (length g.scripts) cpu cpu [] within
    (omega arith))
    ∙ ends_are_answers g schedule news cpu (slice_index_or g.scripts cpu []) played
    (slice_get-get_or g.scripts cpu [] within)

-- if two lists of records differ only in the numbers of the operations that their events work on, they
-- have the same replies to each processor
replies_alike : (cpu : ℕ) (more others : List Record)
    → map anonymous_record more ≡ map anonymous_record others → replies_to cpu more ≡ replies_to cpu others
replies_alike cpu [] [] same = refl
replies_alike cpu [] (s ∷ others) same = absurd cc
replies_alike cpu (r ∷ more) [] same = absurd cc
replies_alike cpu (r ∷ more) (s ∷ others) same =
    by_owner (eqb r.cpu cpu) (replies_alike cpu more others rest)
    ∙ ap (λ (b : Bool). map (λ (x : Record). told x.reply)
    (cond b (s ∷ filter (λ (x : Record). eqb x.cpu cpu) others)
    (filter (λ (x : Record). eqb x.cpu cpu) others))) (ap (λ (x : Record). eqb x.cpu cpu) first)
  where
    first : anonymous_record r ≡ anonymous_record s
    first = cc

    rest : map anonymous_record more ≡ map anonymous_record others
    rest = cc

    by_owner : (own : Bool) → replies_to cpu more ≡ replies_to cpu others
        → map (λ (x : Record). told x.reply) (cond own (r ∷ filter (λ (x : Record). eqb x.cpu cpu) more)
        (filter (λ (x : Record). eqb x.cpu cpu) more))
        ≡ map (λ (x : Record). told x.reply) (cond own (s ∷ filter (λ (x : Record). eqb x.cpu cpu) others)
        (filter (λ (x : Record). eqb x.cpu cpu) others))
    by_owner true later =
        ap (λ (reply : Reply). reply ∷ replies_to cpu more) (ap (λ (x : Record). told x.reply) first)
        ∙ ap (λ (replies : List Reply). told s.reply ∷ replies) later
    by_owner false later = later

below_alike : (from n : ℕ) (k more others : List Record)
    → map anonymous_record more ≡ map anonymous_record others
    → map (λ cpu. replies_to cpu (k ++ more)) (range_with_len from n)
    ≡ map (λ cpu. replies_to cpu (k ++ others)) (range_with_len from n)
below_alike from zero k more others same = refl
below_alike from (suc n) k more others same =
    ap (λ (replies : List Reply).
    replies ∷ map (λ cpu. replies_to cpu (k ++ more)) (range_with_len (from + 1) n))
    (replies_append from k more
    ∙ (ap (λ (replies : List Reply). replies_to from k ++ replies) (replies_alike from more others same)
    ∙ sym (replies_append from k others)))
    ∙ ap (λ (rest : List (List Reply)). replies_to from (k ++ others) ∷ rest)
    (below_alike (from + 1) n k more others same)

-- further plans end alike from two places with the same key and causes
plans_go_on : (g : Setting) (h k more others : List Record) (rest xs ys : List ℕ) → xs ≡ ys
    → HaveSameKey g h k → map anonymous_record more ≡ map anonymous_record others
    → AreCausedBelow g (length g.scripts) h xs → AreCausedBelow g (length g.scripts) k ys
    → plays g (schedule_of h ++ rest) ≡ Some (h ++ more)
    → plays g (schedule_of k ++ rest) ≡ Some (k ++ others)
    → PlansGoOn g.layout.cpus g.scripts (length g.scripts) h k more
plans_go_on g h k more others rest xs ys causes same are a b first second cpu within =
    let alike = answered_alike g h k more others xs ys causes same are a b cpu in (
      ends_answered alike.later,
      ends_at g (schedule_of h ++ rest) (h ++ more) cpu first within
          ∙ (ap ends_answered alike.first ∙ (ends_append (answers_at g cpu h) alike.later
          ∙ ap (λ (ends : List OpEnd). ends ++ ends_answered alike.later)
          (sym (ends_at g (schedule_of h) h cpu same.first_played within)))),
      ap (λ (replies : List (List Reply)). plan_ends_of g.layout.cpus g.scripts replies cpu)
          (below_alike 0 (length g.scripts) k more others are)
          ∙ (ends_at g (schedule_of k ++ rest) (k ++ others) cpu second within
          ∙ (ap ends_answered alike.second ∙ (ends_append (answers_at g cpu k) alike.later
          ∙ ap (λ (ends : List OpEnd). ends ++ ends_answered alike.later)
          (sym (ends_at g (schedule_of k) k cpu same.second_played within))))),
    )

plans_if : (none : Bool) (g : Setting) (h k more others : List Record) (rest xs ys : List ℕ)
    → none ≡ false → xs ≡ ys → HaveSameKey g h k
    → map anonymous_record more ≡ map anonymous_record others
    → AreCausedIf none g h xs → AreCausedIf none g k ys
    → plays g (schedule_of h ++ rest) ≡ Some (h ++ more)
    → plays g (schedule_of k ++ rest) ≡ Some (k ++ others)
    → PlansGoOn g.layout.cpus g.scripts (length g.scripts) h k more
plans_if true g h k more others rest xs ys is causes same are a b first second = absurd cc
plans_if false g h k more others rest xs ys is causes same are a b first second =
    plans_go_on g h k more others rest xs ys causes same are a b first second

-- ---- ends as wanted

-- if two places have the same key, marks and last refusals, a continuation that ends as wanted from one
-- also does so from the other
reaches_alike : (g : Setting) (wanted : List Wanted) (h k : List Record) (met rest xs ys : List ℕ)
    → HaveSameKey g h k → AreMarks g.layout.cpus g.scripts wanted (length g.scripts) h met
    → AreMarks g.layout.cpus g.scripts wanted (length g.scripts) k met → xs ≡ ys
    → AreCausedIf (asks_no_plans wanted) g h xs → AreCausedIf (asks_no_plans wanted) g k ys
    → Reaches g wanted (schedule_of h ++ rest) → Reaches g wanted (schedule_of k ++ rest)
unfolding outcome_after
reaches_alike g wanted h k met rest xs ys same a b causes caused others reaches = (
  outcome_after g (k ++ on.others),
  record {
    news = k ++ on.others;
    played = on.played;
    over = λ cpu. over (next_call g cpu reaches.1.news) (next_call g cpu (k ++ on.others)) (on.calls cpu)
        (reaches.1.over cpu);
    ends = refl;
  },
  subst (Meets g.layout.cpus g.scripts wanted)
      (ap (λ (replies : List (List Reply)). record {
        replies = replies;
        blocks =
            ended_rows_below g.layout.blocks (value_of g.layout g.base (g.start ++ (k ++ on.others)));
      }) (below_alike 0 (length g.scripts) k on.more on.others on.same))
      (marks_meet g.layout.cpus g.scripts wanted (length g.scripts) h k on.more met g.layout
      (value_of g.layout g.base (g.start ++ reaches.1.news))
      (value_of g.layout g.base (g.start ++ (k ++ on.others))) a b
      (λ about. plans_if (asks_no_plans wanted) g h k on.more on.others rest xs ys about causes same on.same
      caused others (reaches.1.played ∙ ap Some on.end_is) on.played)
      (on.rows g.layout.blocks)
      (subst (Meets g.layout.cpus g.scripts wanted) (sym reaches.1.ends
      ∙ ap (λ (news : List Record). outcome (length g.scripts) news g.layout
      (value_of g.layout g.base (g.start ++ reaches.1.news))) on.end_is) reaches.2)),
)
  where
    on : ContinuesAs g (schedule_of k) rest h k same.alike reaches.1.news
    on =
        continues_as g (schedule_of h) (schedule_of k) rest h k reaches.1.news same.mergeable
        same.first_played same.second_played same.alike reaches.1.played

    over : (o u : Option Event) → option_map anonymous o ≡ option_map anonymous u → o ≡ None → u ≡ None
    over None None calls none = refl
    over None (Some e) calls none = absurd cc
    over (Some e) u calls none = absurd cc

within_continued : (g : Setting) (wanted : List Wanted) (budget : Option ℕ) (h k : List Record)
    (marks rest : List ℕ)
    → HaveSameKey g h k → IsMarked g wanted budget h marks → IsMarked g wanted budget k marks
    → (aim_within g wanted budget).sought (schedule_of h ++ rest)
    → (aim_within g wanted budget).sought (schedule_of k ++ rest)
within_continued g wanted budget h k marks rest same a b sought =
    let parts = same_parts g wanted budget h k marks a b in (
      reaches_alike g wanted h k b.met rest a.causes b.causes same
          (subst (AreMarks g.layout.cpus g.scripts wanted (length g.scripts) h) parts.met a.met_are)
          b.met_are parts.causes a.causes_are b.causes_are sought.0,
      within_alike budget (schedule_of h) (schedule_of k) rest a.spent b.spent parts.spent a.spent_are
          b.spent_are sought.1,
    )

pub within_lawful : (g : Setting) (wanted : List Wanted) (budget : Option ℕ)
    → IsLawful g (aim_within g wanted budget)
within_lawful g wanted budget = record {
  played = λ s sought. (sought.0.1.news, sought.0.1.played);
  counted = λ h k marks first second a b. within_counted g wanted budget h k marks a b;
  continued = λ h k marks rest same first second a b sought.
      within_continued g wanted budget h k marks rest same a b sought;
}

-- an aim with the same wanted lines and the same budget is no wider
pub within_narrower : (g : Setting) (wanted new : List Wanted) (budget later : Option ℕ) → new ≡ wanted
    → later ≡ budget → IsNarrower (aim_within g wanted budget) (aim_within g new later)
within_narrower g wanted new budget later lines spent =
    subst (λ (w : List Wanted). IsNarrower (aim_within g wanted budget) (aim_within g w later)) (sym lines)
    (subst (λ (b : Option ℕ). IsNarrower (aim_within g wanted budget) (aim_within g wanted b)) (sym spent)
    (record {
      sought = λ s sought. sought;
      admits = λ s admitted. admitted;
      marks = λ news numbers marked. marked;
      whole = λ whole. whole;
    }))
