-- Steps of a driver's run, and its ends.
use Rattle.std.proofs.Common.{◌⊎◌, one-mul, ◌≡◌, ℕ, ◌+◌, ◌*◌, ◌-◌, ◌<◌, Bool, true, false, cond, if◌then◌else◌, List, [], ◌∷◌, ◌++◌, Option, Some, None, refl, ap, sym, subst, ◌∙◌, arith, inl, inr}
use Rattle.std.specs.Prelude.{nat_lt}
use Rattle.std.specs.List.{last_or}
use Rattle.std.proofs.lemmas.Bool.{le-ltb, ltb-true}
use Rattle.std.proofs.Math.Nat.{add-mul}
use Rattle.hp_units.specs.Driver.{AllNext, IsDriverRun, cause_after, cause_of, end_after, is_migrate, next_after, next_event, next_drain, migrate_or_cancel, opened_by, operation_of, tried}
use Rattle.hp_ops.specs.Names.{Item, Event, Begin, DrainFor, Migrate, Commit, Cancel, Reply, Done, Moved, Opened, Refused, Refusal, NoFrame, NoOp, NothingToMove, NotFree, Receipt, OpEnd, EndsRefused, EndsCancelled, EndsUndone, EndsLeft, CallFault, Driver, Stage, Begins, Ended}
use Rattle.hp_ops.specs.Ports.{IsBeginReply, IsDriverReply, IsGiven, IsLiveReply, PortValue, has_opened, is_opened, with_receipts}
use Rattle.hp_ops.specs.Stages.{IsAfter, MovesOn, end_in, event_in, operation_in, work_in}
use Rattle.hp_ops.proofs.Receipts.{all_push, next_push, count_push, end_push}

-- ---- a run that goes on

-- the receipts so far are a run, which the driver is at, and the event is next
pub record IsUnderWay (cpus turns : ℕ) (plan : List Item) (d : Driver) (next : Event)
    (receipts : List Receipt) : Type 0 where
  pub events : AllNext cpus turns plan [] receipts
  pub after : IsAfter cpus turns receipts d
  pub next_is : next_event cpus turns plan receipts ≡ Some next
  pub operation : operation_of receipts ≡ operation_in next

-- at most so many calls come before the next migration is over, the event's own included
abbrev pub calls_to_turn : (cpus : ℕ) → Event → ℕ
calls_to_turn cpus (Begin plan) = cpus + 4
calls_to_turn cpus (DrainFor op cpu) = (cpus - cpu) + 2
calls_to_turn cpus (Commit op) = cpus + 3
calls_to_turn cpus event = 1

-- at most so many calls are left
abbrev pub calls_left : Driver → Event → ℕ
calls_left d event = d.left * (d.cpus + 3) + calls_to_turn d.cpus event

-- ---- what the next event is

-- a drain is of a processor that there is, a migration is left, and no run begins twice
abbrev IsSound : (cpus turns : ℕ) → List Receipt → Event → Type 0
IsSound cpus turns rs (DrainFor op cpu) = cpu < cpus
IsSound cpus turns rs (Migrate op) = tried rs < turns
IsSound cpus turns rs (Commit op) = Unit {0}
IsSound cpus turns rs (Cancel op) = Unit {0}
IsSound cpus turns rs event = ⊥

-- the operation after an answer
abbrev operation_after : Event → Reply → Option ℕ
operation_after (Begin plan) reply = opened_by reply
operation_after event reply = operation_in event

-- the event that is next after an answer
record IsNext (cpus turns : ℕ) (rs : List Receipt) (event : Event) (reply : Reply)
    (next : Event) : Type 0 where
  sound : IsSound cpus turns rs next
  operation : operation_after event reply ≡ operation_in next
  fewer : calls_to_turn cpus next < calls_to_turn cpus event + cond (is_migrate event) (cpus + 3) 0

-- in a round, and after it
record IsInRound (cpus turns : ℕ) (rs : List Receipt) (op cpu : ℕ) (next : Event) : Type 0 where
  sound : IsSound cpus turns rs next
  operation : operation_in next ≡ Some op
  within : calls_to_turn cpus next < (cpus + 1 - cpu) + 2

round_if : (cpus turns : ℕ) (rs : List Receipt) (op cpu : ℕ) (b d : Bool) → nat_lt cpu cpus ≡ b
    → nat_lt (tried rs) turns ≡ d
    → IsInRound cpus turns rs op cpu (if b then DrainFor op cpu else (if d then Migrate op else Cancel op))
round_if cpus turns rs op cpu b d h k = grind (arith, ltb-true)

in_round : (cpus turns : ℕ) (rs : List Receipt) (op cpu : ℕ) (next : Event)
    → Some (next_drain cpus turns op cpu rs) ≡ Some next → IsInRound cpus turns rs op cpu next
in_round cpus turns rs op cpu next is = grind (arith, round_if)

-- a turn is a round with no processor left
in_turn : (cpus turns : ℕ) (rs : List Receipt) (op : ℕ) (next : Event)
    → Some (migrate_or_cancel turns op rs) ≡ Some next → IsInRound cpus turns rs op cpus next
in_turn cpus turns rs op next is = grind (arith, round_if, le-ltb)

is_next : (cpus turns : ℕ) (rs : List Receipt) (event : Event) (reply : Reply) (next : Event)
    → next_after cpus turns rs event reply ≡ Some next → IsNext cpus turns rs event reply next
is_next cpus turns rs (Begin plan) (Opened op) next is = grind (arith, in_round)
is_next cpus turns rs (DrainFor op cpu) Done next is = grind (arith, in_round)
is_next cpus turns rs (Migrate op) (Moved from to) next is = grind (arith, in_turn)
is_next cpus turns rs (Migrate op) (Refused NoFrame) next is = grind (arith, in_round)
is_next cpus turns rs (Migrate op) (Refused NothingToMove) next is = grind arith
is_next cpus turns rs (Commit op) (Refused (NotFree frame)) next is = grind (arith, in_round)
is_next cpus turns rs event reply next is = absurd cc

-- ---- after the receipts so far

last_some : (x : Receipt) (xs : List Receipt) → (r : Receipt) × (last_or (Some x) xs ≡ Some r)
last_some x [] = (x, refl)
last_some x (y ∷ ys) = last_some y ys

-- the next event is the Begin, where there are none
abbrev IsBegun : (cpus turns : ℕ) → List Item → List Receipt → Event → Type 0
IsBegun cpus turns plan rs event = ((rs ≡ []) × (event ≡ Begin plan)) ⊎ IsSound cpus turns rs event

sound_at : (cpus turns : ℕ) (plan : List Item) (rs : List Receipt) (event : Event)
    → next_event cpus turns plan rs ≡ Some event → IsBegun cpus turns plan rs event
sound_at cpus turns plan [] event is = inl (refl, cc)
sound_at cpus turns plan (x ∷ xs) event is =
    let l = last_some x xs in
    let here : next_after cpus turns (x ∷ xs) l.0.event l.0.reply ≡ Some event = cc in
    inr (is_next cpus turns (x ∷ xs) l.0.event l.0.reply event here).sound

-- the operation stays once it is opened
operation_same : (cpus turns : ℕ) (rs : List Receipt) (event : Event) (reply : Reply)
    → IsSound cpus turns rs event → operation_after event reply ≡ operation_in event
operation_same cpus turns rs event reply sound = grind arith

operation_on : (cpus turns : ℕ) (plan : List Item) (rs : List Receipt) (r : Receipt)
    → next_event cpus turns plan rs ≡ Some r.event → operation_of rs ≡ operation_in r.event
    → operation_of (rs ++ r ∷ []) ≡ operation_after r.event r.reply
operation_on cpus turns plan [] r is same = cc
operation_on cpus turns plan (x ∷ xs) r is same =
    elim (sound_at cpus turns plan (x ∷ xs) r.event is) [
      | inl none ↦ absurd (let no : x ∷ xs ≡ [] = none.0 in cc)
      | inr sound ↦ same ∙ sym (operation_same cpus turns (x ∷ xs) r.event r.reply sound)
    ]

-- the event of a stage
event_work : (plan : List Item) (stage : Stage) (event : Event) → work_in stage ≡ Some event
    → event_in plan stage ≡ Some event
event_work plan stage event is = grind arith

no_work : (cpus turns : ℕ) (plan : List Item) (rs : List Receipt) (r : Receipt) (stage : Stage)
    → work_in stage ≡ None → event_in plan stage ≡ next_event cpus turns plan (rs ++ r ∷ [])
    → next_event cpus turns plan (rs ++ r ∷ []) ≡ None
no_work cpus turns plan rs r Begins none is =
    elim (sound_at cpus turns plan (rs ++ r ∷ []) (Begin plan) (sym is)) [
      | inl empty ↦ absurd (not_empty rs r empty.0)
      | inr sound ↦ absurd sound
    ]
  where
    not_empty : (xs : List Receipt) (x : Receipt) → xs ++ x ∷ [] ≡ [] → ⊥
    not_empty [] x h = cc
    not_empty (y ∷ ys) x h = cc
no_work cpus turns plan rs r (Ended end) none is = sym is
no_work cpus turns plan rs r _ none is = absurd cc

pub goes_on : (cpus turns : ℕ) (plan : List Item) (d new : Driver) (event next : Event) (reply : Reply)
    (rs : List Receipt) (r : Receipt)
    → IsUnderWay cpus turns plan d event rs → r.event ≡ event → r.reply ≡ reply → MovesOn d event reply new
    → work_in new.stage ≡ Some next → IsUnderWay cpus turns plan new next (rs ++ r ∷ [])
goes_on cpus turns plan d new event next reply rs r at asked replied moves works =
    let after : IsAfter cpus turns (rs ++ r ∷ []) new = moves cpus turns rs r asked replied at.after in
    let is : next_event cpus turns plan (rs ++ r ∷ []) ≡ Some next = grind (arith, event_work) in
    let here : next_event cpus turns plan rs ≡ Some r.event = at.next_is ∙ ap Some (sym asked) in
    record {
      events = all_push cpus turns plan [] rs r at.events here;
      after = after;
      next_is = is;
      operation =
          operation_on cpus turns plan rs r here (at.operation ∙ ap operation_in (sym asked))
          ∙ (is_next cpus turns (rs ++ r ∷ []) r.event r.reply next
          (sym (next_push cpus turns plan rs r) ∙ is)).operation;
    }

-- ---- fewer calls are left

less : (b : Bool) (old new k x y : ℕ) → old ≡ new + cond b 1 0 → y < x + cond b k 0
    → new * k + y < old * k + x
less b old new k x y is h = grind (arith, add-mul, one-mul)

tries : (b : Bool) (turns n m left fewer : ℕ) → left ≡ turns - n → fewer ≡ turns - m → m ≡ n + cond b 1 0
    → (b ≡ true → n < turns) → left ≡ fewer + cond b 1 0
tries b turns n m left fewer h k more below = grind arith

migrates_sound : (cpus turns : ℕ) (rs : List Receipt) (event : Event) → IsSound cpus turns rs event
    → is_migrate event ≡ true → tried rs < turns
migrates_sound cpus turns rs event sound is = grind arith

migrates : (cpus turns : ℕ) (plan : List Item) (rs : List Receipt) (event : Event)
    → IsBegun cpus turns plan rs event → is_migrate event ≡ true → tried rs < turns
migrates cpus turns plan rs event begun is = grind (arith, migrates_sound)

pub fewer_left : (cpus turns : ℕ) (plan : List Item) (d new : Driver) (event next : Event) (reply : Reply)
    (rs : List Receipt) (r : Receipt)
    → IsUnderWay cpus turns plan d event rs → r.event ≡ event → r.reply ≡ reply → MovesOn d event reply new
    → work_in new.stage ≡ Some next → calls_left new next < calls_left d event
fewer_left cpus turns plan d new event next reply rs r at asked replied moves works =
    let on = goes_on cpus turns plan d new event next reply rs r at asked replied moves works in
    let here : next_after cpus turns (rs ++ r ∷ []) event r.reply ≡ Some next = grind (arith, next_push) in
    let left : d.left ≡ new.left + cond (is_migrate event) 1 0 =
    tries (is_migrate event) turns (tried rs) (tried (rs ++ r ∷ [])) d.left new.left at.after.left
    on.after.left (count_push rs r ∙ ap (λ (e : Event). tried rs + cond (is_migrate e) 1 0) asked)
    (migrates cpus turns plan rs event (sound_at cpus turns plan rs event at.next_is)) in
    let all : new.left * (cpus + 3) + calls_to_turn cpus next < d.left * (cpus + 3) + calls_to_turn cpus event
    = less _ _ _ _ _ _ left (is_next cpus turns (rs ++ r ∷ []) event r.reply next here).fewer in
    grind arith

-- ---- the end: the replies that the next event can have
abbrev IsKnown : (cpus : ℕ) → List Item → Event → Reply → Type 0
IsKnown cpus plan event reply =
    (event ≡ Begin plan → IsBeginReply reply)
    × ((op : ℕ) → operation_in event ≡ Some op → IsDriverReply cpus event reply)

opened_is : (reply : Reply) (op : ℕ) → opened_by reply ≡ Some op → is_opened reply ≡ true
opened_is reply same is = grind arith

opened_first : (rs : List Receipt) (op : ℕ) → operation_of rs ≡ Some op → has_opened rs ≡ true
opened_first rs op is = grind (arith, opened_is)

opened_later : (xs ys : List Receipt) → has_opened ys ≡ true → has_opened (xs ++ ys) ≡ true
opened_later [] ys is = is
opened_later (x ∷ xs) ys is = grind (arith, opened_later xs ys is)

pub known_by : (old here after : PortValue) (turns : ℕ) (plan : List Item) (d : Driver) (event : Event)
    (rs : List Receipt) (r : Receipt)
    → here ≡ with_receipts old rs None → IsUnderWay old.cpus turns plan d event rs
    → IsGiven here event r after → IsKnown old.cpus plan event r.reply
known_by old here after turns plan d event rs r value at given = (
  given.begun plan,
  λ op is. subst (λ (n : ℕ). IsDriverReply n event r.reply) (ap (λ (v : PortValue). v.cpus) value)
      (given.known (ap (λ (v : PortValue). has_opened v.receipts) value
      ∙ opened_later old.receipts rs (opened_first rs op (at.operation ∙ is)))),
)

-- an answer after which something is next ends nothing
not_last : (cpus turns : ℕ) (rs : List Receipt) (event : Event) (reply same : Reply) (next : Event)
    → reply ≡ same → next_after cpus turns rs event same ≡ Some next
    → next_after cpus turns rs event reply ≡ None → ⊥
not_last cpus turns rs event reply same next is goes none = cc

-- an answer after which nothing is next makes an end
abbrev HasEnd : Option Refusal → Event → Reply → Type 0
HasEnd why event reply = (end : OpEnd) × (end_after why event reply ≡ Some end)

begin_ends : (cpus turns : ℕ) (rs : List Receipt) (plan : List Item) (why : Option Refusal) (reply : Reply)
    → IsBeginReply reply → next_after cpus turns rs (Begin plan) reply ≡ None
    → HasEnd why (Begin plan) reply
begin_ends cpus turns rs plan why reply (inl open_) none = grind (arith, not_last)
begin_ends cpus turns rs plan why reply (inr refused) none =
    (EndsRefused refused.0, ap (end_after why (Begin plan)) refused.1)

undone : (why : Option Refusal) (event : Event) (cpus turns : ℕ) (rs : List Receipt)
    → IsSound cpus turns rs event → end_after why event (Refused NoOp) ≡ Some EndsUndone
undone why event cpus turns rs sound = grind arith

live_ends : (cpus turns : ℕ) (earlier rs : List Receipt) (why : Option Refusal) (event : Event)
    (reply : Reply) → IsSound cpus turns earlier event → IsLiveReply cpus event reply
    → next_after cpus turns rs event reply ≡ None → HasEnd why event reply
live_ends cpus turns earlier rs why (DrainFor op cpu) reply sound live none = grind (arith, not_last)
live_ends cpus turns earlier rs why (Migrate op) reply sound (inl moved) none = grind (arith, not_last)
live_ends cpus turns earlier rs why (Migrate op) reply sound (inr (inl full)) none = grind (arith, not_last)
live_ends cpus turns earlier rs why (Migrate op) reply sound (inr (inr empty)) none = grind (arith, not_last)
live_ends cpus turns earlier rs why (Commit op) reply sound (inl done) none = grind arith
live_ends cpus turns earlier rs why (Commit op) reply sound (inr found) none = grind (arith, not_last)
live_ends cpus turns earlier rs why (Cancel op) reply sound (inl restored) none =
    (EndsCancelled why true, ap (end_after why (Cancel op)) restored)
live_ends cpus turns earlier rs why (Cancel op) reply sound (inr released) none =
    (EndsCancelled why false, ap (end_after why (Cancel op)) released)
live_ends cpus turns earlier rs why event reply sound live none = absurd sound

sound_operation : (cpus turns : ℕ) (rs : List Receipt) (event : Event) → IsSound cpus turns rs event
    → (op : ℕ) × (operation_in event ≡ Some op)
sound_operation cpus turns rs (DrainFor op cpu) sound = (op, refl)
sound_operation cpus turns rs (Migrate op) sound = (op, refl)
sound_operation cpus turns rs (Commit op) sound = (op, refl)
sound_operation cpus turns rs (Cancel op) sound = (op, refl)
sound_operation cpus turns rs event sound = absurd sound

has_end : (cpus turns : ℕ) (plan : List Item) (earlier rs : List Receipt) (why : Option Refusal)
    (event : Event) (reply : Reply) → IsBegun cpus turns plan earlier event → IsKnown cpus plan event reply
    → next_after cpus turns rs event reply ≡ None → HasEnd why event reply
has_end cpus turns plan earlier rs why event reply (inl begun) known none =
    let same : next_after cpus turns rs (Begin plan) reply ≡ None = cc in
    let end = begin_ends cpus turns rs plan why reply (known.0 begun.1) same in
    (end.0, ap (λ (e : Event). end_after why e reply) begun.1 ∙ end.1)
has_end cpus turns plan earlier rs why event reply (inr sound) known none =
    let op = sound_operation cpus turns earlier event sound in
    elim (known.1 op.0 op.1) [
      | inl gone ↦ (EndsUndone, ap (end_after why event) gone ∙ undone why event cpus turns earlier sound)
      | inr live ↦ live_ends cpus turns earlier rs why event reply sound live none
    ]

pub ends : (cpus turns : ℕ) (plan : List Item) (d new : Driver) (event : Event) (reply : Reply)
    (rs : List Receipt) (r : Receipt)
    → IsUnderWay cpus turns plan d event rs → r.event ≡ event → r.reply ≡ reply → MovesOn d event reply new
    → IsKnown cpus plan event r.reply → work_in new.stage ≡ None
    → (end : OpEnd) × (end_in new.stage ≡ Some end)
ends cpus turns plan d new event reply rs r at asked replied moves known none =
    let after : IsAfter cpus turns (rs ++ r ∷ []) new = moves cpus turns rs r asked replied at.after in
    let last = no_work cpus turns plan rs r new.stage none (after.next plan) in
    let here : next_after cpus turns (rs ++ r ∷ []) event r.reply ≡ None = grind (arith, next_push) in
    let made =
    has_end cpus turns plan rs (rs ++ r ∷ []) (cause_after (cause_of rs) r.event r.reply) event r.reply
    (sound_at cpus turns plan rs event at.next_is) known here in (
      made.0,
      after.end ∙ (end_push rs r ∙ (ap (λ (e : Event).
          end_after (cause_after (cause_of rs) r.event r.reply) e r.reply) asked ∙ made.1)),
    )

pub over : (cpus turns : ℕ) (plan : List Item) (d new : Driver) (event : Event) (reply : Reply) (end : OpEnd)
    (rs : List Receipt) (r : Receipt)
    → IsUnderWay cpus turns plan d event rs → r.event ≡ event → r.reply ≡ reply → MovesOn d event reply new
    → work_in new.stage ≡ None → end_in new.stage ≡ Some end
    → IsDriverRun cpus turns plan (rs ++ r ∷ []) None end
over cpus turns plan d new event reply end rs r at asked replied moves none is =
    let after : IsAfter cpus turns (rs ++ r ∷ []) new = moves cpus turns rs r asked replied at.after in
    grind (arith, no_work, all_push)

-- the next call left a fault
pub broken_off : (cpus turns : ℕ) (plan : List Item) (d : Driver) (event : Event) (op : Option ℕ)
    (fault : CallFault) (rs : List Receipt) → IsUnderWay cpus turns plan d event rs → op ≡ operation_in event
    → IsDriverRun cpus turns plan rs (Some fault) (EndsLeft op fault)
broken_off cpus turns plan d event op fault rs at named = grind (arith, ends)
