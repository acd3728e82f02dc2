-- Parts of events and records with other numbers.
use Rattle.std.proofs.Common.{◌≡◌, ℕ, List, [], ◌∷◌, map, Option, Some, None, refl, ap, sym, ◌∙◌}
use Rattle.hp_units.specs.History.{Effect, Looks, Undoes, Cancels, Acts, effect_of}
use Rattle.hp_units.specs.LayoutParts.{LayoutParts}
use Rattle.std.proofs.lemmas.Option.{same_Some}
use Rattle.hp_units.specs.Memory.{FreeFrames, Memory, Pages}
use Rattle.hp_units.specs.Step.{Answered, step}
use Rattle.hp_units.specs.declared.events.Event.{Event}
use Rattle.hp_units.specs.declared.events.Event.TheVariants.{KernelAlloc, DrainFor, Migrate, Commit, Cancel}
use Rattle.hp_units.specs.declared.replies.Reply.{Reply}
use Rattle.hp_units.specs.declared.replies.Reply.TheVariants.{Opened}
use Rattle.hp_units.specs.declared.rows.Auto.{Auto}
use Rattle.hp_units.specs.declared.rows.Claim.{Claim}
use Rattle.hp_units.specs.declared.rows.Row.{Row}
use Rattle.hp_units.specs.declared.rows.State.{State}
use Rattle.hp_units.specs.declared.rows.Wish.{Wish}
use Rattle.hp_units.specs.declared.rows.Zone.{Zone}
use Rattle.std.specs.Option.{option_map}
use Rattle.hp_laws.proofs.Steps.{steps}
use Rattle.hp_laws.specs.Renumbered.{IsOneToOne, renumbered, renumbered_answer, renumbered_claim, renumbered_event, renumbered_reply, renumbered_row}
use Rattle.hp_laws.proofs.RenumberedSteps.{step_same}

-- ---- steps from states that are the same but for the numbers of operations

-- a reply, with this number for an operation that it opened
abbrev opened_as : (n : ℕ) → Reply → Reply
opened_as n (Opened op) = Opened n
opened_as n reply = reply

own_reply : (f : ℕ → ℕ) (n : ℕ) (reply : Reply) → ((op : ℕ) → reply ≡ Opened op → op ≡ n)
    → opened_as n (renumbered_reply f reply) ≡ reply
own_reply f n (Opened op) opens = ap (λ (m : ℕ). Opened m) (sym (opens op refl))
own_reply f n reply opens = refl

-- equal states and events but for the numbers of operations
pub record AreSameSteps (p q : ℕ → ℕ) (l : LayoutParts) (s t : Memory) (n cpu : ℕ) (e d : Event)
    : Type 0 where
  pub memory : renumbered p (step l s n cpu e).memory ≡ renumbered q (step l t n cpu d).memory
  pub reply : (step l s n cpu e).reply ≡ (step l t n cpu d).reply

pub steps_same : (p q : ℕ → ℕ) → IsOneToOne p → IsOneToOne q → (l : LayoutParts) (s t : Memory)
    (n cpu : ℕ) (e d : Event)
    → p n ≡ q n → renumbered p s ≡ renumbered q t → renumbered_event p e ≡ renumbered_event q d
    → AreSameSteps p q l s t n cpu e d
steps_same p q p_one q_one l s t n cpu e d number state event = record {
  memory = ap (λ (a : Answered). a.memory) both;
  reply =
      sym (own_reply p n (step l s n cpu e).reply (steps l s n cpu e).opened)
      ∙ (ap (λ (a : Answered). opened_as n a.reply) both
      ∙ own_reply q n (step l t n cpu d).reply (steps l t n cpu d).opened);
}
  where
    both : renumbered_answer p (step l s n cpu e) ≡ renumbered_answer q (step l t n cpu d)
    both = rw (← step_same p p_one l s n cpu e, ← step_same q q_one l t n cpu d, state, number, event)

-- ---- what an event does to the list of steps

abbrev pub renumbered_effect : (ℕ → ℕ) → Effect → Effect
renumbered_effect f Looks = Looks
renumbered_effect f (Undoes serial) = Undoes serial
renumbered_effect f (Cancels op) = Cancels (f op)
renumbered_effect f Acts = Acts

pub effect_same : (f : ℕ → ℕ) (e : Event)
    → effect_of (renumbered_event f e) ≡ renumbered_effect f (effect_of e)
effect_same f (KernelAlloc order) = refl
effect_same f e = refl

-- what does not depend on the operation that an event works on
pub unseen : {A : Type 0} (g : Event → A)
    → ((op other drained : ℕ) → g (DrainFor op drained) ≡ g (DrainFor other drained))
    → ((op other : ℕ) → g (Migrate op) ≡ g (Migrate other))
    → ((op other : ℕ) → g (Commit op) ≡ g (Commit other))
    → ((op other : ℕ) → g (Cancel op) ≡ g (Cancel other))
    → (f : ℕ → ℕ) (e : Event) → g (renumbered_event f e) ≡ g e
unseen g drains migrates commits cancels f (DrainFor op drained) = drains (f op) op drained
unseen g drains migrates commits cancels f (Migrate op) = migrates (f op) op
unseen g drains migrates commits cancels f (Commit op) = commits (f op) op
unseen g drains migrates commits cancels f (Cancel op) = cancels (f op) op
unseen g drains migrates commits cancels f e = refl

-- so it is the same for events that are
pub unseen_same : {A : Type 0} (g : Event → A)
    → ((op other drained : ℕ) → g (DrainFor op drained) ≡ g (DrainFor other drained))
    → ((op other : ℕ) → g (Migrate op) ≡ g (Migrate other))
    → ((op other : ℕ) → g (Commit op) ≡ g (Commit other))
    → ((op other : ℕ) → g (Cancel op) ≡ g (Cancel other))
    → (p q : ℕ → ℕ) (e d : Event) → renumbered_event p e ≡ renumbered_event q d → g e ≡ g d
unseen_same g drains migrates commits cancels p q e d same =
    sym (unseen g drains migrates commits cancels p e)
    ∙ (ap g same ∙ unseen g drains migrates commits cancels q d)

-- ---- the same numbers

-- each operation keeps its number
abbrev pub its_own : ℕ → ℕ
its_own n = n

pub own_differ : IsOneToOne its_own
own_differ a b same = same

pub own_event : (e : Event) → renumbered_event its_own e ≡ e
own_event (KernelAlloc order) = refl
own_event e = refl

own_claim : (claim : Option Claim) → option_map (renumbered_claim its_own) claim ≡ claim
own_claim None = refl
own_claim (Some claim) = refl

own_rows : (rows : List Row) → map (renumbered_row its_own) rows ≡ rows
own_rows [] = refl
own_rows (row ∷ rows) = rw (own_claim row.claim, own_rows rows)

pub own_memory : (s : Memory) → renumbered its_own s ≡ s
own_memory s = rw (own_rows s.blocks.rows)

-- ---- equal with other numbers

claims_equal : (f : ℕ → ℕ) → IsOneToOne f → (a b : Option Claim)
    → option_map (renumbered_claim f) a ≡ option_map (renumbered_claim f) b → a ≡ b
claims_equal f one None None same = refl
claims_equal f one (Some a) (Some b) same =
    let claim : renumbered_claim f a ≡ renumbered_claim f b =
    same_Some (renumbered_claim f a) (renumbered_claim f b) same in
    ap (λ (op : ℕ). Some (record { op = op; wish = a.wish })) (one a.op b.op (ap (λ (c : Claim). c.op) claim))
    ∙ ap (λ (wish : Wish). Some (record { op = b.op; wish = wish })) (ap (λ (c : Claim). c.wish) claim)
claims_equal f one a b same = absurd cc

rows_equal : (f : ℕ → ℕ) → IsOneToOne f → (xs ys : List Row)
    → map (renumbered_row f) xs ≡ map (renumbered_row f) ys → xs ≡ ys
rows_equal f one [] [] same = refl
rows_equal f one (x ∷ xs) (y ∷ ys) same =
    let first : renumbered_row f x ≡ renumbered_row f y = cc in
    let rest : map (renumbered_row f) xs ≡ map (renumbered_row f) ys = cc in
    let claim = claims_equal f one x.claim y.claim (ap (λ (r : Row). r.claim) first) in
    let row : made x.state x.zone x.claim ≡ made y.state y.zone y.claim =
    cc (ap (λ (r : Row). r.state) first, ap (λ (r : Row). r.zone) first, claim) in
    ap (λ (r : Row). r ∷ xs) row ∙ ap (λ (rs : List Row). y ∷ rs) (rows_equal f one xs ys rest)
  where
    made : State → Option Zone → Option Claim → Row
    made state zone claim = record { state = state; zone = zone; claim = claim }
rows_equal f one xs ys same = absurd cc

-- states that are equal with other numbers are equal
pub memories_equal : (f : ℕ → ℕ) → IsOneToOne f → (s t : Memory) → renumbered f s ≡ renumbered f t → s ≡ t
memories_equal f one s t same =
    let kernel = ap (λ (m : Memory). m.kernel) same in
    let rows = rows_equal f one s.blocks.rows t.blocks.rows (ap (λ (m : Memory). m.blocks.rows) same) in
    let whole : made s.free s.pages s.kernel s.blocks.rows s.blocks.auto
    ≡ made t.free t.pages t.kernel t.blocks.rows s.blocks.auto =
    cc (ap (λ (m : Memory). m.free) same, ap (λ (m : Memory). m.pages) same, kernel, rows) in
    whole ∙ ap (made t.free t.pages t.kernel t.blocks.rows) (ap (λ (m : Memory). m.blocks.auto) same)
  where
    made : FreeFrames → Pages → List (Option ℕ) → List Row → Auto → Memory
    made free pages kernel rows auto = record {
      free = free;
      pages = pages;
      kernel = kernel;
      blocks = record { rows = rows; auto = auto };
    }
