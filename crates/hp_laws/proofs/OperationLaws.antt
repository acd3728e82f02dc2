-- The laws of operations, over whole histories.
use Rattle.std.proofs.Common.{◌≡◌, ℕ, suc, ◌+◌, ◌-◌, List, [], ◌∷◌, ◌++◌, length, take, map, Bool, true, false, cond, Option, Some, None, slice_get, refl, ap, sym, subst, ◌∙◌, arith, ◌⊎◌, inl, inr}
use Rattle.std.proofs.lemmas.Bool.{both_ways}
use Rattle.hp_units.specs.declared.plans.Item.{Item}
use Rattle.hp_units.specs.LayoutParts.{LayoutParts, IsLayout}
use Rattle.hp_units.specs.Memory.{Memory, row_of}
use Rattle.hp_units.specs.Marks.{sole_at, tag_of}
use Rattle.hp_units.specs.Rows.{claimed_row, commit_blocks, release_blocks}
use Rattle.hp_units.specs.Step.{step}
use Rattle.hp_units.specs.History.{Acts, Follows, IsLegal, cancel_reply, effect_of, goes_back, is_refused, net_of, net_with, net_with_effect, run, value_of}
use Rattle.hp_units.specs.Placement.{IsWellPlaced}
use Rattle.hp_laws.specs.Operations.{BeginsAt, IsOpenBehind, RowsAre, state_before, state_behind, wished_row}
use Rattle.hp_laws.proofs.Names.{Record, Reply, Begin, Commit, Cancel, Restored}
use Rattle.hp_laws.proofs.Lists.{take_next}
use Rattle.hp_laws.proofs.Net.{net-push}
use Rattle.hp_laws.proofs.Earlier.{Rooted, numbered_net, rooted_net}
use Rattle.hp_laws.proofs.LawProofs.{front_legal, last_follows, restored}
use Rattle.hp_laws.proofs.Steps.{steps}
use Rattle.hp_laws.proofs.EventSteps.{value-placed}
use Rattle.hp_laws.proofs.Records.{IsStep, net_good, record_cases, reply_at, with_good}
use Rattle.hp_laws.proofs.OperationPhases.{AreBegun, IsEndOf, HoldsOrIsOver, IsBeginOf, IsBegun, cancel-gives_back, cancel-good, commit-good, commit-grants, each_both, each_map, live_holds}
use Rattle.hp_laws.proofs.OperationNets.{begin_in, begun_in, held_in, phase_in}

-- ---- the states around a Begin of the net

-- the state just before the Begin at a place, and the one just after it
abbrev pub old_at : LayoutParts → Memory → List Record → ℕ → Memory
old_at l base h place = run l base (take place (net_of h))

abbrev pub new_at : LayoutParts → Memory → List Record → ℕ → Memory
new_at l base h place = run l base (take (suc place) (net_of h))

-- what is known of a Begin in the net
pub record IsBegin (l : LayoutParts) (base : Memory) (before : ℕ) (h : List Record) (place : ℕ) (b : Record)
    (plan : List Item) : Type 0 where
  pub opens : IsBeginOf l (old_at l base h place) (new_at l base h place) b.serial plan
  pub was : state_before l base before h b ≡ old_at l base h place
  pub is : state_behind l base before h b ≡ new_at l base h place

begin_opens : (l : LayoutParts) (base : Memory) (before : ℕ) (h : List Record) (place : ℕ) (b : Record)
    (plan : List Item)
    → IsLegal l base before h → BeginsAt (net_of h) place b plan
    → IsBeginOf l (old_at l base h place) (new_at l base h place) b.serial plan
begin_opens l base before h place b plan legal at =
    begin_in l base _ place b plan (net_good l base before h legal) at

-- the Begin's own reply isn't a refusal
begin_reply : (l : LayoutParts) (base : Memory) (before : ℕ) (g : List Record) (b : Record) (plan : List Item)
    → Follows l base before g b → b.event ≡ Begin plan
    → is_refused (step l (value_of l base g) b.serial b.cpu b.event).reply ≡ false
    → net_with (net_of g) b ≡ net_of g ++ b ∷ []
begin_reply l base before g b plan follows opens good =
    let acts : effect_of b.event ≡ Acts = rw opens in
    let same : b.reply ≡ (step l (value_of l base g) b.serial b.cpu b.event).reply =
    rw (reply_at l base before g b follows, acts) in
    with_good _ b (ap is_refused same ∙ good) ∙ ap (net_with_effect (net_of g) b) acts

pub is_begin : (l : LayoutParts) (base : Memory) (before : ℕ) (h : List Record) (place : ℕ) (b : Record)
    (plan : List Item)
    → IsLegal l base before h → BeginsAt (net_of h) place b plan
    → IsBegin l base before h place b plan
unfolding value_of
is_begin l base before h place b plan legal at =
    let roots : Rooted before h (net_of h) = rooted_net l base before h legal in
    let m : ℕ = b.serial - before - 1 in
    let stands : slice_get h m ≡ Some b = roots.stands place b at.here in
    let comes : take place (net_of h) ≡ net_of (take m h) = roots.comes place b at.here in
    let next : b.serial - before ≡ suc m = omega (arith, roots.over place b at.here) in
    let good : is_refused (step l (value_of l base (take m h)) b.serial b.cpu b.event).reply ≡ false =
    rw (← comes) (net_good l base before h legal place b at.here) in
    record {
      opens = begin_opens l base before h place b plan legal at;
      was = ap (run l base) (sym comes);
      is =
          rw (next, take_next h m b stands, net-push _ b)
          (rw (begin_reply l base before _ b plan (legal m b stands) at.opens good, ← comes)
          (rw (← take_next _ place b at.here)));
    }

-- ---- the laws

module _ (l : LayoutParts) (base : Memory) (before : ℕ) (h : List Record) (place : ℕ) (b : Record)
    (plan : List Item) (layout : IsLayout l) (p : IsWellPlaced l base) (legal : IsLegal l base before h)
    (here : BeginsAt (net_of h) place b plan) where
  -- the Begin claimed the blocks of its plan
  new_begun : AreBegun b.serial (old_at l base h place) (new_at l base h place) plan
  new_begun = begun_in l base (net_of h) place b plan layout p (net_good l base before h legal) here

  pub claimed : RowsAre (state_behind l base before h b) plan
      (λ item. claimed_row (row_of (state_before l base before h b).blocks item.block) b.serial item.wish)
  claimed =
      let begin : IsBegin l base before h place b plan = is_begin l base before h place b plan legal here in
      rw (begin.is, begin.was)
      (each_map (IsBegun b.serial (old_at l base h place) (new_at l base h place)) (λ item. row_of (new_at l
      base h place).blocks item.block ≡ claimed_row (row_of (old_at l base h place).blocks item.block)
      b.serial item.wish) (λ item is. is.held) plan new_begun)

  -- rows that are held now are those that the Begin left
  as_left : (s : Memory) → AreBegun b.serial (old_at l base h place) s plan
      → RowsAre s plan (λ item. row_of (state_behind l base before h b).blocks item.block)
  as_left s begun =
      rw ((is_begin l base before h place b plan legal here).is) (each_both
      (IsBegun b.serial (old_at l base h place) s) _
      (λ item. row_of s.blocks item.block ≡ row_of (new_at l base h place).blocks item.block)
      (λ item now left. now.held ∙ sym left.held) plan begun new_begun)

  pub held : IsOpenBehind b.serial place (net_of h)
      → RowsAre (value_of l base h) plan (λ item. row_of (state_behind l base before h b).blocks item.block)
  unfolding value_of
  held stays =
      as_left (value_of l base h)
      (held_in l base (net_of h) place b plan layout p (net_good l base before h legal) here stays)

  -- the operation holds its rows or is over, after all steps
  phase : HoldsOrIsOver b.serial (old_at l base h place) (value_of l base h) plan
  unfolding value_of
  phase =
      phase_in l base before (before + length h) (net_of h) place b plan layout p
      (numbered_net l base before h legal) (net_good l base before h legal) here

-- a Commit that isn't refused is a step, of an operation that is live
pub commit_ends : (l : LayoutParts) (base : Memory) (before : ℕ) (h : List Record) (r : Record) (op : ℕ)
    → IsLegal l base before (h ++ r ∷ []) → r.event ≡ Commit op → is_refused r.reply ≡ false
    → IsEndOf (value_of l base h) (value_of l base (h ++ r ∷ [])) (commit_blocks l (value_of l base h) op) op
commit_ends l base before h r op legal is good =
    let follows : Follows l base before h r = last_follows l base before h r legal in
    let same : r.reply ≡ (step l (value_of l base h) r.serial r.cpu r.event).reply =
    rw (reply_at l base before h r follows, ap effect_of is) in
    elim (record_cases l base before h r follows good) [
      | inl back ↦
          absurd (both_ways (goes_back r.reply) (ap goes_back same ∙ (steps l _ _ r.cpu r.event).onward) back)
      | inr stepped ↦ (
          let closes : IsEndOf (value_of l base h) (step l (value_of l base h) r.serial r.cpu
          (Commit op)).memory (commit_blocks l (value_of l base h) op) op =
          commit-good l _ _ r.cpu op (rw (← is, ← same) good) in
          record {
            memory = rw (stepped.memory, is) closes.memory;
            live = closes.live;
          })
    ]

-- so it holds its rows
module _ (l : LayoutParts) (base : Memory) (before : ℕ) (h : List Record) (r : Record) (place : ℕ)
    (b : Record)
    (plan : List Item) (layout : IsLayout l) (p : IsWellPlaced l base)
    (legal : IsLegal l base before (h ++ r ∷ [])) (here : BeginsAt (net_of h) place b plan)
    (is : r.event ≡ Commit b.serial) (good : is_refused r.reply ≡ false) where
  commit_begun : AreBegun b.serial (old_at l base h place) (value_of l base h) plan
  commit_begun =
      live_holds b.serial _ _ plan (commit_ends l base before h r b.serial legal is good).live
      (phase l base before h place b plan layout p (front_legal l base before h r legal) here)

  pub commit_held : RowsAre (value_of l base h) plan
      (λ item. row_of (state_behind l base before h b).blocks item.block)
  commit_held =
      as_left l base before h place b plan layout p (front_legal l base before h r legal) here
      (value_of l base h) commit_begun

  pub commit_granted : RowsAre (value_of l base (h ++ r ∷ [])) plan (λ item. wished_row item.wish)
  commit_granted =
      rw ((commit_ends l base before h r b.serial legal is good).memory)
      (commit-grants l _ b.serial _ plan (value-placed l base h layout p) commit_begun)

-- a Cancel that goes back was answered Restored
back_restored : (reply answer : Reply) (o : Option ℕ) → reply ≡ cancel_reply answer o
    → is_refused reply ≡ false → goes_back answer ≡ false → goes_back reply ≡ true → reply ≡ Restored
back_restored reply answer None e good onward back =
    absurd (both_ways (goes_back reply) (rw (e, onward)) back)
back_restored reply answer (Some place) e good onward back = by_refusal _ refl e
  where
    by_refusal : (b : Bool) → is_refused answer ≡ b → reply ≡ cond b answer Restored → reply ≡ Restored
    by_refusal true bad f = absurd (both_ways (is_refused reply) good (rw (f, bad)))
    by_refusal false bad f = f

-- a Cancel that isn't refused restores, or is a step of an operation that is live
pub cancel_ends : (l : LayoutParts) (base : Memory) (before : ℕ) (h : List Record) (r : Record) (op : ℕ)
    → IsLegal l base before (h ++ r ∷ []) → r.event ≡ Cancel op → is_refused r.reply ≡ false
    → (r.reply ≡ Restored)
    ⊎ IsEndOf (value_of l base h) (value_of l base (h ++ r ∷ [])) (release_blocks l (value_of l base h) op) op
cancel_ends l base before h r op legal is good =
    elim (record_cases l base before h r follows good) [
      | inl back ↦ inl (back_restored r.reply _ _ answers good (steps l _ _ r.cpu _).onward back)
      | inr stepped ↦ inr (by_release stepped)
    ]
  where
    follows : Follows l base before h r
    follows = last_follows l base before h r legal

    answers : r.reply ≡ cancel_reply (step l (value_of l base h) r.serial r.cpu r.event).reply
        (sole_at op (map tag_of (net_of h)))
    answers = rw (reply_at l base before h r follows, is)

    by_release : IsStep l base h r
        → IsEndOf (value_of l base h) (value_of l base (h ++ r ∷ []))
        (release_blocks l (value_of l base h) op) op
    by_release stepped =
        let s : Memory = value_of l base h in
        let closes : IsEndOf s (step l s r.serial r.cpu (Cancel op)).memory (release_blocks l s op) op =
        cancel-good l s _ r.cpu op (rw (← is, ← stepped.reply) good) in
        record {
          memory = rw (stepped.memory, is) closes.memory;
          live = closes.live;
        }

-- rows are what they are
pub each_same : (s : Memory) (items : List Item) → RowsAre s items (λ item. row_of s.blocks item.block)
each_same s [] = tt
each_same s (item ∷ items) = (refl, each_same s items)

pub given_back : (l : LayoutParts) (base : Memory) (before : ℕ) (h : List Record) (r : Record) (place : ℕ)
    (b : Record) (plan : List Item)
    → IsLayout l → IsWellPlaced l base → IsLegal l base before (h ++ r ∷ [])
    → BeginsAt (net_of h) place b plan → r.event ≡ Cancel b.serial → is_refused r.reply ≡ false
    → RowsAre (value_of l base (h ++ r ∷ [])) plan
    (λ item. row_of (state_before l base before h b).blocks item.block)
given_back l base before h r place b plan layout p legal at is good =
    elim (cancel_ends l base before h r _ legal is good)
    [ inl back ↦ by_restore back | inr ends ↦ by_release ends ]
  where
    by_restore : r.reply ≡ Restored
        → RowsAre (value_of l base (h ++ r ∷ [])) plan
        (λ item. row_of (state_before l base before h b).blocks item.block)
    by_restore back =
        let whole = restored l base before _ h r legal is back in
        subst (λ (s : Memory). RowsAre s plan (λ item. row_of (state_before l base before h b).blocks
        item.block)) (sym whole.5) (each_same (state_before l base before h b) plan)

    by_release : IsEndOf (value_of l base h) (value_of l base (h ++ r ∷ []))
        (release_blocks l (value_of l base h) b.serial) b.serial
        → RowsAre (value_of l base (h ++ r ∷ [])) plan
        (λ item. row_of (state_before l base before h b).blocks item.block)
    by_release ends =
        let s : Memory = value_of l base h in
        let front : IsLegal l base before h = front_legal l base before h r legal in
        rw (ends.memory, (is_begin l base before h place b plan front at).was) (cancel-gives_back l s _
        _ plan (value-placed l base h layout p) (live_holds _
        _ s plan ends.live (phase l base before h place b plan layout p front at)))
