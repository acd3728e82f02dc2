-- What the replies so far have, and what ends that go on from them have.
use Rattle.std.proofs.Common.{◌≡◌, ℕ, zero, suc, ◌+◌, ◌<◌, true, false, not, List, [], ◌∷◌, ◌++◌, get_or, length, take, eqb, Option, Some, None, slice_get, refl, ap, sym, subst, ◌∙◌, arith, inl, inr}
use Rattle.std.proofs.lemmas.Bool.{cases_eq, eq-eqb, ne_eqb, not-false, not-true}
use Rattle.std.proofs.lemmas.List.{length_push, map-append}
use Rattle.std.proofs.lemmas.List.Elements.{filter-append}
use Rattle.std.proofs.lemmas.Option.{same_Some, slice_get_within}
use Rattle.hp_laws.proofs.Lists.{get_left, get_push_cases}
use Rattle.hp_laws.proofs.SealedNets.{get_append_cases, get_right}
use Rattle.hp_units.specs.LayoutParts.{LayoutParts}
use Rattle.hp_units.specs.Memory.{Memory}
use Rattle.hp_units.specs.declared.replies.Record.{Record}
use Rattle.hp_units.specs.declared.replies.Reply.{Reply}
use Rattle.hp_schedules.specs.Outcomes.{ended_rows_below, outcome, replies_below, replies_to, told}
use Rattle.hp_schedules.specs.declared.scripts.Step.{Step}
use Rattle.hp_schedules.proofs.Compared.{replies_own, replies_past}
use Rattle.hp_questions.specs.Marks.{AreMarks, HasLineSoFar, HasReplySoFar, IsLost, IsMissed, IsRuledOut, PlansGoOn, asks_no_places, asks_no_plans, leaves_places, leaves_plans, line_of}
use Rattle.hp_questions.specs.PlanEnds.{plan_ends_of}
use Rattle.hp_questions.specs.PlanLines.{HasEnd, IsEndAsWanted}
use Rattle.hp_questions.specs.Wanted.{HasLine, HasReply, HasReplyAt, IsMetBy, Meets}
use Rattle.hp_questions.specs.Patterns.{IsAsWanted}
use Rattle.hp_questions.specs.declared.plan_lines.EndPattern.{EndPattern}
use Rattle.hp_questions.specs.declared.wanted.EndLine.{EndLine}
use Rattle.hp_questions.specs.declared.wanted.EndLine.TheVariants.{Answer, AnswerAt, Plan, Block}
use Rattle.hp_questions.specs.declared.wanted.Pattern.{Pattern}
use Rattle.hp_questions.specs.declared.wanted.Wanted.{Wanted}
use Rattle.hp_questions.specs.declared.wanted.Wanted.TheVariants.{Has, Lacks}
use Rattle.hp_questions.proofs.Below.{read_here}
use Rattle.hp_questions.proofs.Places.{Among, among_carried, among_kept, at_range, grown_carried, not_all, one_left, range_is}
use Rattle.hp_questions.proofs.SameMarks.{same_calls, same_marks}

-- ---- replies

-- of further records
pub replies_append : (cpu : ℕ) (h more : List Record)
    → replies_to cpu (h ++ more) ≡ replies_to cpu h ++ replies_to cpu more
replies_append cpu h more = simp (filter-append, map-append)

-- those to a processor below a number
pub below_at : (n : ℕ) (news : List Record) (cpu : ℕ) → cpu < n
    → slice_get (replies_below n news) cpu ≡ Some (replies_to cpu news)
below_at n news = at_range (λ (c : ℕ). replies_to c news) n

pub below_is : (n : ℕ) (news : List Record) (cpu : ℕ) (replies : List Reply)
    → slice_get (replies_below n news) cpu ≡ Some replies → (cpu < n) × (replies ≡ replies_to cpu news)
below_is n news = range_is (λ (c : ℕ). replies_to c news) n

-- the record at a place tells the reply after those that its processor was told before
told_at : (cpu : ℕ) (news : List Record) (k : ℕ) (r : Record) → slice_get news k ≡ Some r
    → eqb r.cpu cpu ≡ true
    → slice_get (replies_to cpu news) (length (replies_to cpu (take k news))) ≡ Some (told r.reply)
told_at cpu [] k r here own = absurd cc
told_at cpu (x ∷ news) zero r here own = grind arith
told_at cpu (x ∷ news) (suc k) r here own = grind (arith, told_at cpu news k r here own)

-- ---- one record more

-- the record at a place that a loop has reached; `!=` compares its processor
module _ (cpu : ℕ) (news : List Record) (k : ℕ) (r : Record) (less : k < length news)
    (read : r ≡ get_or news k r) where
  here : slice_get news k ≡ Some r
  here = read_here news k r less read

  -- another processor's record tells it nothing
  pub told_past : not (eqb r.cpu cpu) ≡ true
      → replies_to cpu (take (k + 1) news) ≡ replies_to cpu (take k news)
  told_past other =
      sym (replies_past cpu (replies_to cpu (take k news)) news k r here (not-true _ other) refl)

  -- its own tells it one reply
  told_own : not (eqb r.cpu cpu) ≡ false
      → replies_to cpu (take (k + 1) news) ≡ replies_to cpu (take k news) ++ told r.reply ∷ []
  told_own own =
      sym (replies_own cpu (replies_to cpu (take k news)) news k r here (not-false _ own) refl)

  pub count_own : not (eqb r.cpu cpu) ≡ false
      → length (replies_to cpu (take (k + 1) news)) ≡ length (replies_to cpu (take k news)) + 1
  count_own own = rw (told_own own) (length_push (replies_to cpu (take k news)) (told r.reply))

  pub told_here : not (eqb r.cpu cpu) ≡ false
      → slice_get (replies_to cpu news) (length (replies_to cpu (take k news))) ≡ Some (told r.reply)
  told_here own = told_at cpu news k r here (not-false _ own)

  -- one that matches
  told_match : (p : Pattern) → not (eqb r.cpu cpu) ≡ false → IsAsWanted p (told r.reply)
      → HasReply p (replies_to cpu news)
  told_match p own matches =
      (length (replies_to cpu (take k news)), told r.reply, told_here own, matches)

  -- one that does not match
  told_no_more : (p : Pattern) → not (eqb r.cpu cpu) ≡ false → (IsAsWanted p (told r.reply) → ⊥)
      → (HasReply p (replies_to cpu (take k news)) → ⊥)
      → HasReply p (replies_to cpu (take (k + 1) news)) → ⊥
  told_no_more p own other none =
      rw (told_own own)
      (λ has. elim (get_push_cases (replies_to cpu (take k news)) (told r.reply) has.1 has.0 has.2) [
        | inl at ↦ none (has.0, has.1, at, has.3)
        | inr last ↦ other (subst (IsAsWanted p) (sym last.1) has.3)
      ])

-- no record tells a processor below the number a reply that matches
abbrev pub NoneBelow : Pattern → (n : ℕ) → List Record → Type 0
NoneBelow p n news = (cpu : ℕ) → cpu < n → HasReply p (replies_to cpu news) → ⊥

-- the record at a place that a loop has reached, among those to all processors
module _ (news : List Record) (k : ℕ) (r : Record) (less : k < length news) (read : r ≡ get_or news k r)
    (p : Pattern) where
  pub told_match_own : IsAsWanted p (told r.reply) → HasReply p (replies_to r.cpu news)
  told_match_own = told_match r.cpu news k r less read p (ap not (eq-eqb r.cpu r.cpu refl))

  -- a processor that it tells nothing that matches gets no such reply
  pub none_more : (cpu : ℕ) → (r.cpu ≡ cpu → IsAsWanted p (told r.reply) → ⊥)
      → (HasReply p (replies_to cpu (take k news)) → ⊥) → HasReply p (replies_to cpu (take (k + 1) news)) → ⊥
  none_more cpu other none = elim (cases_eq r.cpu cpu) [
    | inl same ↦
        told_no_more cpu news k r less read p (ap not (eq-eqb r.cpu cpu same)) (other same) none
    | inr apart ↦ rw (told_past cpu news k r less read (ap not (ne_eqb r.cpu cpu apart))) none
  ]

  pub none_below_more : (n : ℕ) → (r.cpu < n → IsAsWanted p (told r.reply) → ⊥)
      → NoneBelow p n (take k news) → NoneBelow p n (take (k + 1) news)
  none_below_more n other none cpu low = none_more cpu (λ same. other (rw same low)) (none cpu low)

-- ---- answers and ends of plans

-- what the replies so far have, replies that go on from them have
replies_kept : (p : Pattern) (n : ℕ) (h more : List Record) (cpu : Option ℕ)
    → Among (HasReply p) (λ (c : ℕ). replies_to c h) n cpu
    → Among (HasReply p) (λ (c : ℕ). replies_to c (h ++ more)) n cpu
replies_kept p n h more =
    among_kept (HasReply p) n (λ c. replies_to c h) (λ c. replies_to c (h ++ more))
    (λ c less has. rw (replies_append c h more)
    (one_left (IsAsWanted p) (replies_to c h) (replies_to c more) has))

-- and the reply at a place
reply_kept : (p : Pattern) (earlier : ℕ) (h more : List Record) (cpu : ℕ)
    → HasReplyAt p (replies_to cpu h) earlier → HasReplyAt p (replies_to cpu (h ++ more)) earlier
reply_kept p earlier h more cpu has = (
  has.0,
  rw (replies_append cpu h more) (get_left (replies_to cpu h) (replies_to cpu more) earlier
      (slice_get_within (replies_to cpu h) earlier has.0 has.1) ∙ has.1),
  has.2,
)

-- ---- lines

-- what the replies so far have, each end that goes on from them has
line_kept : (cpus : ℕ) (scripts : List (List Step)) (n : ℕ) (h more : List Record) (l : LayoutParts)
    (s : Memory) (line : EndLine)
    → HasReplySoFar n h line → HasLine cpus scripts (outcome n (h ++ more) l s) line
line_kept cpus scripts n h more l s (Answer None reply) has = replies_kept reply n h more None has
line_kept cpus scripts n h more l s (Answer (Some cpu) reply) has = replies_kept reply n h more (Some cpu) has
line_kept cpus scripts n h more l s (AnswerAt cpu earlier reply) has =
    among_kept (λ replies. HasReplyAt reply replies earlier) n (λ c. replies_to c h)
    (λ c. replies_to c (h ++ more)) (λ c less. reply_kept reply earlier h more c) (Some cpu) has
line_kept cpus scripts n h more l s line has = absurd has

-- what the further records bring on the one side, they bring on the other
module _ (cpus : ℕ) (scripts : List (List Step)) (n : ℕ) (h k more : List Record) (l : LayoutParts)
    (s t : Memory) where
  replies_carried : (p : Pattern) (cpu : Option ℕ)
      → (Among (HasReply p) (λ (c : ℕ). replies_to c h) n cpu
      → Among (HasReply p) (λ (c : ℕ). replies_to c k) n cpu)
      → Among (HasReply p) (λ (c : ℕ). replies_to c (h ++ more)) n cpu
      → Among (HasReply p) (λ (c : ℕ). replies_to c (k ++ more)) n cpu
  replies_carried p =
      grown_carried (IsAsWanted p) n (λ c. replies_to c h) (λ c. replies_to c k)
      (λ c. replies_to c (h ++ more)) (λ c. replies_to c (k ++ more))
      (λ c less. (replies_to c more, replies_append c h more, replies_append c k more))

  plans_carried : (end : EndPattern) (cpu : Option ℕ) → PlansGoOn cpus scripts n h k more
      → (Among (HasEnd end) (plan_ends_of cpus scripts (replies_below n h)) (length scripts) cpu
      → Among (HasEnd end) (plan_ends_of cpus scripts (replies_below n k)) (length scripts) cpu)
      → Among (HasEnd end) (plan_ends_of cpus scripts (replies_below n (h ++ more))) (length scripts) cpu
      → Among (HasEnd end) (plan_ends_of cpus scripts (replies_below n (k ++ more))) (length scripts) cpu
  plans_carried end cpu on =
      grown_carried (IsEndAsWanted end) (length scripts) (plan_ends_of cpus scripts (replies_below n h))
      (plan_ends_of cpus scripts (replies_below n k))
      (plan_ends_of cpus scripts (replies_below n (h ++ more)))
      (plan_ends_of cpus scripts (replies_below n (k ++ more))) on cpu

  -- with the same marks, lines of one end are lines of the other
  line_carried : (line : EndLine)
      → (leaves_places line ≡ false
      → (cpu : ℕ) → cpu < n → length (replies_to cpu h) ≡ length (replies_to cpu k))
      → (leaves_plans line ≡ false → PlansGoOn cpus scripts n h k more)
      → (HasLineSoFar cpus scripts n h line → HasLineSoFar cpus scripts n k line)
      → ended_rows_below l.blocks s ≡ ended_rows_below l.blocks t
      → HasLine cpus scripts (outcome n (h ++ more) l s) line
      → HasLine cpus scripts (outcome n (k ++ more) l t) line
  line_carried (Answer None reply) as_many on so_far rows = replies_carried reply None so_far
  line_carried (Answer (Some cpu) reply) as_many on so_far rows = replies_carried reply (Some cpu) so_far
  line_carried (AnswerAt cpu earlier reply) as_many on so_far rows =
      among_carried (λ replies. HasReplyAt reply replies earlier) n (λ c. replies_to c h)
      (λ c. replies_to c k) (λ c. replies_to c (h ++ more)) (λ c. replies_to c (k ++ more))
      (λ c less has. elim (get_append_cases (replies_to c h) (replies_to c more) earlier has.0
      (rw (replies_append c h more) at has.1)) [
        | inl at ↦ inl (has.0, at, has.2)
        | inr past ↦
            inr (
              has.0,
              rw (replies_append c k more, past.sum, as_many refl c less)
                  (get_right (replies_to c k) (replies_to c more) past.place ∙ past.here),
              has.2,
            )
      ])
      (λ c less. reply_kept reply earlier k more c) (Some cpu) so_far
  line_carried (Plan None end) as_many on so_far rows = plans_carried end None (on refl) so_far
  line_carried (Plan (Some cpu) end) as_many on so_far rows = plans_carried end (Some cpu) (on refl) so_far
  line_carried (Block block row) as_many on so_far rows = λ has. rw (← rows) has

  -- a wanted line of one end is a line of the other
  line_same : (wanted : List Wanted) (marks : List ℕ)
      → AreMarks cpus scripts wanted n h marks → AreMarks cpus scripts wanted n k marks
      → (asks_no_plans wanted ≡ false → PlansGoOn cpus scripts n h k more)
      → ended_rows_below l.blocks s ≡ ended_rows_below l.blocks t
      → (i : ℕ) (one : Wanted) → slice_get wanted i ≡ Some one
      → HasLine cpus scripts (outcome n (h ++ more) l s) (line_of one)
      → HasLine cpus scripts (outcome n (k ++ more) l t) (line_of one)
  line_same wanted marks a b on rows i one here =
      let same = same_marks cpus scripts wanted n h k marks a b in
      let x = a.met_are.1 i one (slice_get_within wanted i one here) here in
      let y = b.met_are.1 i one (slice_get_within wanted i one here) here in
      line_carried (line_of one)
      (λ about. same_calls (asks_no_places wanted) n h k a.counts b.counts
      (not_all (λ (w : Wanted). leaves_places (line_of w)) wanted i one here about)
      same.1 a.counts_are b.counts_are)
      (λ about. on (not_all (λ (w : Wanted). leaves_plans (line_of w)) wanted i one here about))
      (λ has. y.2.0 (same_Some y.0 x.0 (sym y.1 ∙ (ap (λ (zs : List ℕ). slice_get zs i) (sym same.2) ∙ x.1))
      ∙ x.2.1 has)) rows

-- equal marks and equal further records: ends that meet the same
pub marks_meet : (cpus : ℕ) (scripts : List (List Step)) (wanted : List Wanted) (n : ℕ)
    (h k more : List Record) (marks : List ℕ) (l : LayoutParts) (s t : Memory)
    → AreMarks cpus scripts wanted n h marks → AreMarks cpus scripts wanted n k marks
    → (asks_no_plans wanted ≡ false → PlansGoOn cpus scripts n h k more)
    → ended_rows_below l.blocks s ≡ ended_rows_below l.blocks t
    → Meets cpus scripts wanted (outcome n (h ++ more) l s)
    → Meets cpus scripts wanted (outcome n (k ++ more) l t)
marks_meet cpus scripts wanted n h k more marks l s t a b on rows meets i one here =
    by_kind one here (meets i one here)
  where
    by_kind : (one : Wanted) → slice_get wanted i ≡ Some one
        → IsMetBy cpus scripts (outcome n (h ++ more) l s) one
        → IsMetBy cpus scripts (outcome n (k ++ more) l t) one
    by_kind (Has line) at has =
        line_same cpus scripts n h k more l s t wanted marks a b on rows i (Has line) at has
    by_kind (Lacks line) at lacks =
        λ has. lacks (line_same cpus scripts n k h more l t s wanted marks b a
        (λ about cpu within. let later = on about cpu within in (later.0, later.2, later.1)) (sym rows) i
        (Lacks line) at has)

-- ---- no end can meet them

missed : (cpus : ℕ) (scripts : List (List Step)) (n : ℕ) (h more : List Record) (l : LayoutParts)
    (s : Memory) (line : EndLine)
    → IsMissed h line → HasLine cpus scripts (outcome n (h ++ more) l s) line → ⊥
missed cpus scripts n h more l s (AnswerAt cpu earlier reply) other has =
    other.2 (subst (IsAsWanted reply) (same_Some has.2.0 other.0 (sym has.2.1 ∙ at)) has.2.2)
  where
    at : slice_get has.0 earlier ≡ Some other.0
    at =
        rw ((below_is n (h ++ more) cpu has.0 has.1).1, replies_append cpu h more)
        (get_left (replies_to cpu h) (replies_to cpu more) earlier
        (slice_get_within (replies_to cpu h) earlier other.0 other.1) ∙ other.1)
missed cpus scripts n h more l s line none has = absurd none

pub lost : (wanted : List Wanted) (n : ℕ) (h : List Record) (k : ℕ) (one : Wanted)
    → slice_get wanted k ≡ Some one → IsRuledOut n h one
    → (cpus : ℕ) (scripts : List (List Step)) → IsLost cpus scripts wanted n h
lost wanted n h k (Has line) here out cpus scripts more l s meets =
    missed cpus scripts n h more l s line out (meets k (Has line) here)
lost wanted n h k (Lacks line) here out cpus scripts more l s meets =
    meets k (Lacks line) here (line_kept cpus scripts n h more l s line out)
