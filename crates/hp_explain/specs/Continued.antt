-- The same continuations are explained from equivalent places, as the laws of an aim require.
use Rattle.std.proofs.Common.{◌≡◌, ℕ, zero, suc, ◌≤◌, List, [], ◌∷◌, ◌++◌, length, map, Option, None, Some, slice_get, refl, ap, sym, subst, ◌∙◌, arith, inl, inr}
use Rattle.std.specs.Prelude.{◌⊎◌, option_map}
use Rattle.std.proofs.lemmas.List.{append_assoc, length-append, length-map}
use Rattle.std.proofs.lemmas.Option.{same_Some}
use Rattle.hp_units.specs.declared.replies.Record.{Record}
use Rattle.hp_schedules.specs.Causes.{AnswerAlike}
use Rattle.hp_units.specs.declared.events.Event.{Event}
use Rattle.hp_schedules.specs.Continuing.{ContinuesAs, anonymous, anonymous_record}
use Rattle.hp_schedules.specs.LineAnswers.{answers_at}
use Rattle.hp_schedules.specs.Schedules.{Setting, next_call, plays, schedule_of}
use Rattle.hp_schedules.proofs.Continuing.{continues_as}
use Rattle.hp_explore.specs.Aims.{HaveSameKey, IsLawful, IsNarrower}
use Rattle.hp_explore.specs.CausesBelow.{answered_alike}
use Rattle.hp_explain.specs.Explainers.{Becomes, IsMarked, aim_of}
use Rattle.hp_explain.specs.Explaining.{AreAsSeen, AreInTime, HasSeen, IsExplained, MayRun}
use Rattle.hp_explain.specs.declared.observed.ObservedLine.{ObservedLine}

-- ---- answers after the same further records

answers_marked : (g : Setting) (h k more others : List Record) (marks : List ℕ) → HaveSameKey g h k
    → map anonymous_record more ≡ map anonymous_record others → IsMarked g h marks → IsMarked g k marks
    → (cpu : ℕ) → AnswerAlike g cpu h k more others
answers_marked g h k more others marks same are a b =
    let causes : a.0 ≡ b.0 = cc (a.1, b.1) in
    answered_alike g h k more others a.0 b.0 causes same are a.2 b.2

-- a processor has finished equally many lines after the further records at both places
many_alike : (g : Setting) (cpu : ℕ) (h k more others : List Record) → AnswerAlike g cpu h k more others
    → length (answers_at g cpu (h ++ more)) ≡ length (answers_at g cpu (k ++ others))
many_alike g cpu h k more others alike =
    omega (
      arith,
      alike.many,
      ap length alike.first,
      ap length alike.second,
      length-append (answers_at g cpu h) alike.later,
      length-append (answers_at g cpu k) alike.later,
    )

-- ---- items of lists with the same end

-- an item of `ys ++ zs` either is in `ys`, or has the same index in `xs ++ zs`
item_alike : {T : Type 0} (xs ys zs : List T) (i : ℕ) (x : T) → length xs ≡ length ys
    → slice_get (ys ++ zs) i ≡ Some x → (slice_get ys i ≡ Some x) ⊎ (slice_get (xs ++ zs) i ≡ Some x)
item_alike [] [] zs i x long is = inr is
item_alike [] (b ∷ ys) zs i x long is = absurd (omega (arith, long))
item_alike (a ∷ xs) [] zs i x long is = absurd (omega (arith, long))
item_alike (a ∷ xs) (b ∷ ys) zs zero x long is = inl is
item_alike (a ∷ xs) (b ∷ ys) zs (suc i) x long is = item_alike xs ys zs i x (omega (arith, long)) is

-- an item of a joined list is either in the first part, or in the second part with the whole first part
-- before it
pub split_in : {T : Type 0} (k more before later : List T) (r : T) → k ++ more ≡ before ++ r ∷ later
    → ((rest : List T) × (k ≡ before ++ r ∷ rest))
    ⊎ ((mid : List T) × (before ≡ k ++ mid) × (more ≡ mid ++ r ∷ later))
split_in [] more before later r is = inr (before, refl, is)
split_in {T} (x ∷ k) more [] later r is =
    let first : x ≡ r = cc in inl (k, ap (λ (y : T). y ∷ k) first)
split_in {T} (x ∷ k) more (y ∷ before) later r is =
    let first : x ≡ y = cc in
    let others : k ++ more ≡ before ++ r ∷ later = cc in
    by_place first (split_in k more before later r others)
  where
    by_place : x ≡ y → ((rest : List T) × (k ≡ before ++ r ∷ rest))
        ⊎ ((mid : List T) × (before ≡ k ++ mid) × (more ≡ mid ++ r ∷ later))
        → ((rest : List T) × (x ∷ k ≡ (y ∷ before) ++ r ∷ rest))
        ⊎ ((mid : List T) × (y ∷ before ≡ (x ∷ k) ++ mid) × (more ≡ mid ++ r ∷ later))
    by_place first (inl within) = inl (within.0, cc)
    by_place first (inr past) = inr (past.0, cc, past.2)

-- ---- continuations explained from equivalent places

seen_alike : (g : Setting) (seen : List (List ObservedLine)) (h k more others : List Record)
    → ((cpu : ℕ) → AnswerAlike g cpu h k more others) → AreAsSeen g seen k → AreAsSeen g seen (h ++ more)
    → AreAsSeen g seen (k ++ others)
seen_alike g seen h k more others alike here there cpu line answer is =
    by_place
    (item_alike (answers_at g cpu h) (answers_at g cpu k) (alike cpu).later line answer (alike cpu).many
    (rw (← (alike cpu).second) is))
  where
    by_place : (slice_get (answers_at g cpu k) line ≡ Some answer)
        ⊎ (slice_get (answers_at g cpu h ++ (alike cpu).later) line ≡ Some answer)
        → HasSeen seen cpu line answer
    by_place (inl own) = here cpu line answer own
    by_place (inr other) = there cpu line answer (rw (alike cpu).first other)

run_alike : (g : Setting) (seen : List (List ObservedLine)) (h k : List Record) (cpu : ℕ)
    → ((c : ℕ) → length (answers_at g c h) ≡ length (answers_at g c k)) → MayRun g seen h cpu
    → MayRun g seen k cpu
run_alike g seen h k cpu many runs lines one here line c others there =
    rw (← many c) (runs lines one here (rw (many cpu) line) c others there)

-- `more` begins with records that differ from `before` at most in the numbers of operations. The record
-- after them is by the processor of `r`
record IsSplitAlike (more before : List Record) (r : Record) : Type 0 where
  pub mid : List Record
  pub other : Record
  pub later : List Record
  pub more_is : more ≡ mid ++ other ∷ later
  pub same : map anonymous_record mid ≡ map anonymous_record before
  pub cpu : other.cpu ≡ r.cpu

split_alike : (more before : List Record) (r : Record) (later : List Record)
    → map anonymous_record more ≡ map anonymous_record (before ++ r ∷ later) → IsSplitAlike more before r
split_alike [] [] r later same = absurd cc
split_alike [] (y ∷ before) r later same = absurd cc
split_alike (x ∷ more) [] r later same =
    let first : anonymous_record x ≡ anonymous_record r = cc in
    record {
      mid = [];
      other = x;
      later = more;
      more_is = refl;
      same = refl;
      cpu = ap (λ (q : Record). q.cpu) first;
    }
split_alike (x ∷ more) (y ∷ before) r later same =
    let first : anonymous_record x ≡ anonymous_record y = cc in
    let split = split_alike more before r later cc in
    record {
      mid = x ∷ split.mid;
      other = split.other;
      later = split.later;
      more_is = ap (λ (xs : List Record). x ∷ xs) split.more_is;
      same = cc (first, split.same);
      cpu = split.cpu;
    }

timed_alike : (g : Setting) (seen : List (List ObservedLine)) (h k more others : List Record)
    → map anonymous_record more ≡ map anonymous_record others
    → ((mid other : List Record) → map anonymous_record mid ≡ map anonymous_record other → (cpu : ℕ)
    → AnswerAlike g cpu h k mid other)
    → AreInTime g seen k → AreInTime g seen (h ++ more) → AreInTime g seen (k ++ others)
timed_alike g seen h k more others same alike here there before r later is =
    by_place (split_in k others before later r is)
  where
    by_place : ((rest : List Record) × (k ≡ before ++ r ∷ rest))
        ⊎ ((mid : List Record) × (before ≡ k ++ mid) × (others ≡ mid ++ r ∷ later))
        → MayRun g seen before r.cpu
    by_place (inl within) = here before r within.0 within.1
    by_place (inr past) =
        let split = split_alike more past.0 r later (same ∙ ap (map anonymous_record) past.2) in
        subst (λ (news : List Record). MayRun g seen news r.cpu) (sym past.1)
        (run_alike g seen (h ++ split.mid) (k ++ past.0) r.cpu
        (λ c. many_alike g c h k split.mid past.0 (alike split.mid past.0 split.same c))
        (subst (MayRun g seen (h ++ split.mid)) split.cpu
        (there (h ++ split.mid) split.other split.later
        (ap (λ (xs : List Record). h ++ xs) split.more_is
        ∙ sym (append_assoc h split.mid (split.other ∷ split.later))))))

-- the records of an explained beginning have the answers that were seen, and each of its calls was made
-- in time
pub explained_news : (g : Setting) (seen : List (List ObservedLine)) (schedule : List ℕ) (news : List Record)
    → plays g schedule ≡ Some news → IsExplained g seen schedule
    → AreAsSeen g seen news × AreInTime g seen news
explained_news g seen schedule news played explained =
    let same = same_Some explained.news news (sym explained.played ∙ played) in
    (rw same at explained.answered, rw same at explained.timed)

-- a continuation of two places with the same key leads to equally many calls
as_long : (g : Setting) (h k : List Record) (rest : List ℕ) → HaveSameKey g h k
    → length (schedule_of h ++ rest) ≡ length (schedule_of k ++ rest)
as_long g h k rest same =
    omega (
      arith,
      length-append (schedule_of h) rest,
      length-append (schedule_of k) rest,
      length-map h (λ (r : Record). r.cpu),
      length-map k (λ (r : Record). r.cpu),
      same.alike.same.calls,
    )

-- with `rest`, `k` goes on as `h` does, except that the numbers of operations may differ; and the
-- schedule of `k`, followed by `rest`, explains the observed answers
explained_alike : (g : Setting) (seen : List (List ObservedLine)) (h k : List Record) (marks rest : List ℕ)
    → (same : HaveSameKey g h k) → IsMarked g h marks → IsMarked g k marks
    → IsExplained g seen (schedule_of k) → (e : IsExplained g seen (schedule_of h ++ rest))
    → (on : ContinuesAs g (schedule_of k) rest h k same.alike e.news)
    × (x : IsExplained g seen (schedule_of k ++ rest)) × (x.news ≡ k ++ on.others)
explained_alike g seen h k marks rest same a b here e = (
  on,
  record {
    news = k ++ on.others;
    played = on.played;
    few = omega (arith, e.few, as_long g h k rest same);
    answered =
        seen_alike g seen h k on.more on.others
        (answers_marked g h k on.more on.others marks same on.same a b) own.0 (rw on.end_is at e.answered);
    timed =
        timed_alike g seen h k on.more on.others on.same
        (λ mid other are. answers_marked g h k mid other marks same are a b) own.1 (rw on.end_is at e.timed);
  },
  refl,
)
  where
    on : ContinuesAs g (schedule_of k) rest h k same.alike e.news
    on =
        continues_as g (schedule_of h) (schedule_of k) rest h k e.news same.mergeable same.first_played
        same.second_played same.alike e.played

    own : AreAsSeen g seen k × AreInTime g seen k
    own = explained_news g seen (schedule_of k) k same.second_played here

-- ---- the laws of the aim

sought_alike : (g : Setting) (seen : List (List ObservedLine)) (room : ℕ) (longest : List ℕ)
    (h k : List Record) (marks rest : List ℕ)
    → HaveSameKey g h k → IsMarked g h marks → IsMarked g k marks → IsExplained g seen (schedule_of k)
    → (aim_of g seen room longest).sought (schedule_of h ++ rest)
    → (aim_of g seen room longest).sought (schedule_of k ++ rest)
sought_alike g seen room longest h k marks rest same a b here (inl order) =
    let is = explained_alike g seen h k marks rest same a b here order.begun in
    inl (record {
      begun = is.1;
      over = λ cpu. over (next_call g cpu order.begun.news) (next_call g cpu is.1.news)
          (rw is.2 (is.0.calls cpu)) (order.over cpu);
    })
  where
    over : (o u : Option Event) → option_map anonymous o ≡ option_map anonymous u → o ≡ None → u ≡ None
    over o u calls none = grind arith
sought_alike g seen room longest h k marks rest same a b here (inr longer) =
    let is = explained_alike g seen h k marks rest same a b here longer.0 in
    inr (is.1, omega (arith, longer.1, as_long g h k rest same))

sought_played : (g : Setting) (seen : List (List ObservedLine)) (room : ℕ) (longest s : List ℕ)
    → (aim_of g seen room longest).sought s → (news : List Record) × (plays g s ≡ Some news)
sought_played g seen room longest s (inl order) = (order.begun.news, order.begun.played)
sought_played g seen room longest s (inr longer) = (longer.0.news, longer.0.played)

pub explaining_lawful : (g : Setting) (seen : List (List ObservedLine)) (room : ℕ) (longest : List ℕ)
    → IsLawful g (aim_of g seen room longest)
explaining_lawful g seen room longest = record {
  played = sought_played g seen room longest;
  counted = λ h k marks first second a b. cc (a.1, b.1);
  continued = λ h k marks rest same first second a b sought.
      sought_alike g seen room longest h k marks rest same a b second.0 sought;
}

-- ---- narrower aims

sought_narrower : (g : Setting) (seen : List (List ObservedLine)) (room : ℕ) (longest new s : List ℕ)
    → length longest ≤ length new → (aim_of g seen room new).sought s → (aim_of g seen room longest).sought s
sought_narrower g seen room longest new s more (inl order) = inl order
sought_narrower g seen room longest new s more (inr longer) = inr (longer.0, omega (arith, more, longer.1))

pub explaining_narrower : (g : Setting) (seen : List (List ObservedLine)) (room : ℕ) (longest : List ℕ)
    (later : List (List ObservedLine)) (left : ℕ) (new : List ℕ)
    → Becomes g seen room longest later left new
    → IsNarrower (aim_of g seen room longest) (aim_of g later left new)
explaining_narrower g seen room longest later left new becomes =
    rw (becomes.0, becomes.1) (record {
      sought = λ s sought. sought_narrower g seen room longest new s becomes.2 sought;
      admits = λ s admitted. admitted;
      marks = λ news numbers marked. marked;
      whole = λ whole. whole;
    })

pub explaining_stays : (g : Setting) (seen : List (List ObservedLine)) (room : ℕ) (longest : List ℕ)
    → Becomes g seen room longest seen room longest
explaining_stays g seen room longest = (refl, refl, omega arith, λ explained. explained)

pub explaining_joined : (g : Setting) (seen : List (List ObservedLine)) (room : ℕ) (longest : List ℕ)
    (mid : List (List ObservedLine)) (left : ℕ) (more : List ℕ) (later : List (List ObservedLine)) (last : ℕ)
    (new : List ℕ)
    → Becomes g seen room longest mid left more → Becomes g mid left more later last new
    → Becomes g seen room longest later last new
explaining_joined g seen room longest mid left more later last new first second = (
  second.0 ∙ first.0,
  second.1 ∙ first.1,
  omega (arith, first.2, second.2),
  λ explained. rw first.0 at (second.3 (rw first.0 (first.3 explained))),
)
