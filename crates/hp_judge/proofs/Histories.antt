-- The log of a history leads from the base state to the state that the history leads to, and is lawful.
use Rattle.std.proofs.Common.{◌≡◌, ℕ, zero, suc, ◌+◌, ◌<◌, List, [], ◌∷◌, ◌++◌, length, take, flat_map, refl, sym, ◌∙◌, ap, ap₂, subst, append_assoc, append-nil, arith}
use Rattle.std.specs.List.{range_with_len}
use Rattle.std.proofs.lemmas.List.{length_push, take-append-le, take_all, take_at}
use Rattle.std.proofs.lemmas.Nat.{pow-add}
use Rattle.hp_units.specs.History.{net_of, run, value_of}
use Rattle.hp_units.specs.LayoutParts.{IsLayout, LayoutParts}
use Rattle.hp_units.specs.Memory.{Memory}
use Rattle.hp_units.specs.Placement.{IsWellPlaced}
use Rattle.hp_laws.specs.Seals.{value_of_all}
use Rattle.hp_laws.proofs.EventSteps.{value-placed}
use Rattle.hp_judge.specs.Laws.{IsLawful}
use Rattle.hp_judge.proofs.Lawful.{lawful_none}
use Rattle.hp_judge.proofs.Machines.{agrees_none}
use Rattle.hp_judge.specs.Logs.{IsSizeOf, log_of, log_of_all, step_log}
use Rattle.hp_judge.specs.LawfulNames.{LogEvent, MachineSize, Record}
use Rattle.hp_judge.specs.Reading.{Shown, shown}
use Rattle.hp_judge.proofs.Sequences.{IsGoodLog, EventsLead, lead-append, lead-range, good_on}
use Rattle.hp_judge.proofs.StepLogs.{step_leads}

-- no record leads on
no_step : (l : LayoutParts) (base : Memory) → value_of l base [] ≡ base
unfolding value_of net_of run
no_step l base = refl

pub log_leads : (l : LayoutParts) (m : MachineSize) (base : Memory) (h : List Record) → IsLayout l
    → IsSizeOf l m → IsWellPlaced l base
    → EventsLead m (shown l base) (log_of l base h) (shown l (value_of l base h))
log_leads l m base h layout size p =
    let all : take (0 + length h) h ≡ h = take_all _ h (omega arith) in
    subst (λ (s : Memory). EventsLead m (shown l s) (log_of l base h) (shown l (value_of l base h)))
    (no_step l base)
    (subst (λ (k : List Record). EventsLead m (shown l (value_of l base [])) (log_of l base h)
    (shown l (value_of l base k))) all
    (lead-range m (λ n. shown l (value_of l base (take n h)))
    (λ n. step_log l (value_of l base (take n h)) (value_of l base (take (n + 1) h))) 0 _
    (λ n low. step_leads l m (value_of l base (take n h)) (value_of l base (take (n + 1) h)) layout size
    (value-placed l base _ layout p) (value-placed l base _ layout p))))

pub logs_lead : (l : LayoutParts) (m : MachineSize) (base : Memory) (hs : List (List Record)) → IsLayout l
    → IsSizeOf l m → IsWellPlaced l base
    → EventsLead m (shown l base) (log_of_all l base hs) (shown l (value_of_all l base hs))
logs_lead l m base [] layout size p = refl
logs_lead l m base (h ∷ later) layout size p =
    lead-append m _ _ _ _ _ (log_leads l m base h layout size p)
    (logs_lead l m (value_of l base h) later layout size (value-placed l base h layout p))

-- a log that leads on from nothing is lawful
pub lead-lawful : (m : MachineSize) (p q : Shown) (log : List LogEvent) → EventsLead m p log q
    → IsLawful m log
lead-lawful m p q log h =
    let start : IsGoodLog m [] p = record { lawful = lawful_none m; agrees = agrees_none m _ } in
    (good_on m p q [] log h start).lawful

-- the size of a layout
pub size_of : (l : LayoutParts) → IsLayout l → (m : MachineSize) × IsSizeOf l m
size_of l layout = (
  record { block_order = layout.pageblocks.0 + l.order; blocks = l.blocks },
  record {
    blocks = refl;
    frames = rw (pow-add 2 layout.pageblocks.0 l.order, ← layout.pageblocks.2);
  },
)

-- ---- one record more

-- a range that is longer by one
range_more : (f : ℕ → List LogEvent) (start count : ℕ) → flat_map f (range_with_len start (suc count))
    ≡ flat_map f (range_with_len start count) ++ f (start + count)
range_more f start zero =
    let e : start ≡ start + 0 = omega arith in
    append-nil (f start) ∙ ap f e
range_more f start (suc count) =
    let e : start + 1 + count ≡ start + suc count = omega arith in
    ap (λ (xs : List LogEvent). f start ++ xs) (range_more f (start + 1) count)
    ∙ sym (append_assoc (f start) (flat_map f (range_with_len (start + 1) count)) (f (start + 1 + count)))
    ∙ ap (λ (n : ℕ). f start ++ flat_map f (range_with_len (start + 1) count) ++ f n) e

-- functions that agree on a range
range_same : (f g : ℕ → List LogEvent) (start count : ℕ) → ((n : ℕ) → n < start + count → f n ≡ g n)
    → flat_map f (range_with_len start count) ≡ flat_map g (range_with_len start count)
range_same f g start zero same = refl
range_same f g start (suc count) same =
    ap₂ (λ (xs ys : List LogEvent). xs ++ ys) (same start (omega arith))
    (range_same f g (start + 1) count (λ n low. same n (omega arith)))

pub log-push : (l : LayoutParts) (base : Memory) (h : List Record) (r : Record)
    → log_of l base (h ++ r ∷ [])
    ≡ log_of l base h ++ step_log l (value_of l base h) (value_of l base (h ++ r ∷ []))
log-push l base h r =
    let longer : length (h ++ r ∷ []) ≡ suc (length h) = omega (arith, length_push h r) in
    ap (λ (n : ℕ). flat_map (events (h ++ r ∷ [])) (range_with_len 0 n)) longer ∙ range_more _ 0 (length h)
    ∙ ap₂ (λ (xs ys : List LogEvent). xs ++ ys) (range_same _ _ 0 _ earlier) last
  where
    events : List Record → ℕ → List LogEvent
    events k n = step_log l (value_of l base (take n k)) (value_of l base (take (n + 1) k))

    earlier : (n : ℕ) → n < 0 + length h → events (h ++ r ∷ []) n ≡ events h n
    earlier n low =
        ap₂ (λ (x y : List Record). step_log l (value_of l base x) (value_of l base y))
        (take-append-le n h (r ∷ []) (omega arith)) (take-append-le (n + 1) h (r ∷ []) (omega arith))

    last : events (h ++ r ∷ []) (0 + length h)
        ≡ step_log l (value_of l base h) (value_of l base (h ++ r ∷ []))
    last =
        ap₂ (λ (x y : List Record). step_log l (value_of l base x) (value_of l base y))
        (take_at h (r ∷ []) (0 + length h) (omega arith)) (take_all _ _ (omega (arith, length_push h r)))
