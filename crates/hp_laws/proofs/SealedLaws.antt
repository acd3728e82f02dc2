-- The laws of operations over histories that follow one another.
use Rattle.std.proofs.Common.{◌≡◌, ℕ, ◌+◌, List, [], ◌∷◌, ◌++◌, length, true, false, Some, slice_get, sym, subst, ◌∙◌, arith, inl, inr}
use Rattle.std.proofs.lemmas.Bool.{cases_lt}
use Rattle.hp_units.specs.LayoutParts.{LayoutParts, IsLayout}
use Rattle.hp_units.specs.Memory.{Memory, row_of}
use Rattle.hp_units.specs.Rows.{claimed_row, commit_blocks, is_live, release_blocks}
use Rattle.hp_units.specs.History.{is_refused, value_of}
use Rattle.hp_units.specs.Placement.{IsWellPlaced}
use Rattle.hp_laws.specs.Operations.{BeginsAt, IsOpenBehind, RowsAre, wished_row}
use Rattle.hp_laws.specs.Seals.{AreLegal, net_of_all, state_just_after, state_just_before, value_of_all}
use Rattle.hp_laws.proofs.Names.{Record, Item, Commit, Cancel, Restored}
use Rattle.hp_laws.proofs.Net.{Numbered}
use Rattle.hp_laws.proofs.EventSteps.{value-placed}
use Rattle.hp_laws.proofs.LawProofs.{IsCutAt, restored_cut}
use Rattle.hp_laws.proofs.OperationLaws.{cancel_ends, commit_ends, each_same}
use Rattle.hp_laws.proofs.OperationNets.{begun_in, held_in, new_in, old_in, phase_in}
use Rattle.hp_laws.proofs.OperationPhases.{AreBegun, IsBegun, IsEndOf, cancel-gives_back, commit-grants, each_both, each_map, live_holds}
use Rattle.hp_laws.proofs.SealedNets.{IsLast, begin_of_all, front_of_all, get_right, last_legal, net-last, others_legal, placed_of_all, run_past, steps_of_all, value-last}

-- the states around the step at a place of all steps
abbrev old_of : LayoutParts → Memory → List (List Record) → ℕ → Memory
old_of l base hs place = old_in l base (net_of_all hs) place

abbrev new_of : LayoutParts → Memory → List (List Record) → ℕ → Memory
new_of l base hs place = new_in l base (net_of_all hs) place

module _ (l : LayoutParts) (base : Memory) (before : ℕ) (hs : List (List Record)) (place : ℕ) (b : Record)
    (plan : List Item) (layout : IsLayout l) (p : IsWellPlaced l base) (legal : AreLegal l base before hs)
    (here : BeginsAt (net_of_all hs) place b plan) where
  -- a Begin claimed the blocks of its plan
  new_begun : AreBegun b.serial (old_of l base hs place) (new_of l base hs place) plan
  new_begun =
      begun_in l base (net_of_all hs) place b plan layout p (steps_of_all l base before hs legal).good here

  pub claimed_in_all : RowsAre (state_just_after l base before hs b) plan (λ item. claimed_row
      (row_of (state_just_before l base before hs b).blocks item.block) b.serial item.wish)
  claimed_in_all =
      let begin = begin_of_all l base before hs place b plan legal here in
      rw (begin.is, begin.was)
      (each_map (IsBegun b.serial (old_of l base hs place) (new_of l base hs place)) (λ item. row_of (new_of l
      base hs place).blocks item.block ≡ claimed_row (row_of (old_of l base hs place).blocks item.block)
      b.serial item.wish) (λ item is. is.held) plan new_begun)

  -- rows that are held now are those that the Begin left
  as_left : (s : Memory) → AreBegun b.serial (old_of l base hs place) s plan
      → RowsAre s plan (λ item. row_of (state_just_after l base before hs b).blocks item.block)
  as_left s begun =
      rw ((begin_of_all l base before hs place b plan legal here).is) (each_both _ _
      (λ item. row_of s.blocks item.block ≡ row_of (new_of l base hs place).blocks item.block)
      (λ item now left. now.held ∙ sym left.held) plan begun new_begun)

  pub held_in_all : IsOpenBehind b.serial place (net_of_all hs)
      → RowsAre (value_of_all l base hs) plan
      (λ item. row_of (state_just_after l base before hs b).blocks item.block)
  held_in_all stays =
      let steps = steps_of_all l base before hs legal in
      as_left (value_of_all l base hs)
      (rw steps.value (held_in l base (net_of_all hs) place b plan layout p steps.good here stays))

-- ---- the end of an operation, in the last of them

-- where the operation is live it holds its rows
live_begun : (l : LayoutParts) (base : Memory) (before : ℕ) (hs : List (List Record)) (h : List Record)
    (place : ℕ) (b : Record) (plan : List Item)
    → IsLayout l → IsWellPlaced l base → AreLegal l base before (hs ++ h ∷ [])
    → BeginsAt (net_of_all (hs ++ h ∷ [])) place b plan
    → is_live (value_of l (value_of_all l base hs) h).blocks b.serial ≡ true
    → AreBegun b.serial (old_of l base (hs ++ h ∷ []) place) (value_of l (value_of_all l base hs) h) plan
live_begun l base before hs h place b plan layout p legal at live =
    let all : List (List Record) = hs ++ h ∷ [] in
    let steps = steps_of_all l base before all legal in
    live_holds _ _ _ plan live (rw (← value-last l base hs h, steps.value) (phase_in l base before _
    _ place b plan layout p steps.numbered steps.good at))

module _ (l : LayoutParts) (base : Memory) (before : ℕ) (hs : List (List Record)) (h : List Record)
    (r : Record) (place : ℕ) (b : Record) (plan : List Item) (layout : IsLayout l) (p : IsWellPlaced l base)
    (legal : AreLegal l base before (hs ++ (h ++ r ∷ []) ∷ []))
    (here : BeginsAt (net_of_all (hs ++ h ∷ [])) place b plan) (is : r.event ≡ Commit b.serial)
    (good : is_refused r.reply ≡ false) where
  -- a Commit ends the operation, which held its rows
  commit_end : IsEndOf (value_of l (value_of_all l base hs) h)
      (value_of l (value_of_all l base hs) (h ++ r ∷ []))
      (commit_blocks l (value_of l (value_of_all l base hs) h) b.serial) b.serial
  commit_end =
      let last : IsLast l base before hs (h ++ r ∷ []) = last_legal l base before hs (h ++ r ∷ []) legal in
      commit_ends l (value_of_all l base hs) last.earlier h r b.serial last.legal is good

  commit_begun : AreBegun b.serial (old_of l base (hs ++ h ∷ []) place)
      (value_of l (value_of_all l base hs) h) plan
  commit_begun =
      live_begun l base before hs h place b plan layout p (front_of_all l base before hs h r legal) here
      commit_end.live

  pub commit_held_in_all : RowsAre (value_of_all l base (hs ++ h ∷ [])) plan
      (λ item. row_of (state_just_after l base before (hs ++ h ∷ []) b).blocks item.block)
  commit_held_in_all =
      rw (value-last l base hs h) (as_left l base before _ place b plan layout p
      (front_of_all l base before hs h r legal) here _ commit_begun)

  pub commit_granted_in_all : RowsAre (value_of_all l base (hs ++ (h ++ r ∷ []) ∷ [])) plan
      (λ item. wished_row item.wish)
  commit_granted_in_all =
      rw (value-last l base hs (h ++ r ∷ []), commit_end.memory) (commit-grants l _ _ _ plan
      (value-placed l (value_of_all l base hs) h layout (placed_of_all l base hs layout p)) commit_begun)

-- steps with one serial stand at one place
one_place : (before last : ℕ) (n : List Record) (i j : ℕ) (q r : Record) → Numbered before last n
    → slice_get n i ≡ Some q → slice_get n j ≡ Some r → q.serial ≡ r.serial → i ≡ j
one_place before last n i j q r ok e f same = elim (cases_lt i j) [
  | inl less ↦ absurd (omega (arith, same, ok.rising i j q r less e f))
  | inr ge ↦ elim (cases_lt j i) [
    | inl more ↦ absurd (omega (arith, same, ok.rising j i r q more f e))
    | inr le ↦ omega (arith, ge, le)
  ]
]

-- a Cancel that restores leads back to the state before the Begin
cut_of_all : (l : LayoutParts) (base : Memory) (before : ℕ) (hs : List (List Record)) (h : List Record)
    (r : Record) (place : ℕ) (b : Record) (plan : List Item)
    → AreLegal l base before (hs ++ h ∷ []) → BeginsAt (net_of_all (hs ++ h ∷ [])) place b plan
    → IsCutAt l (value_of_all l base hs) b.serial h r
    → value_of l (value_of_all l base hs) (h ++ r ∷ []) ≡ old_of l base (hs ++ h ∷ []) place
cut_of_all l base before hs h r place b plan legal at cut =
    let all : List (List Record) = hs ++ h ∷ [] in
    let first : List Record = net_of_all hs in
    let there : slice_get (net_of_all all) (length first + cut.place) ≡ Some cut.begin =
    rw (net-last hs h, get_right first _ _) cut.here in
    let same : place ≡ length first + cut.place =
    one_place before _ _ place _ b _
    (steps_of_all l base before all legal).numbered at.here there (sym cut.serial) in
    rw (cut.value, (steps_of_all l base before hs (others_legal l base before hs h legal)).value)
    (rw (← run_past l base first _ place _ same, ← net-last hs h))

pub given_back_in_all : (l : LayoutParts) (base : Memory) (before : ℕ) (hs : List (List Record))
    (h : List Record) (r : Record) (place : ℕ) (b : Record) (plan : List Item)
    → IsLayout l → IsWellPlaced l base → AreLegal l base before (hs ++ (h ++ r ∷ []) ∷ [])
    → BeginsAt (net_of_all (hs ++ h ∷ [])) place b plan → r.event ≡ Cancel b.serial
    → is_refused r.reply ≡ false
    → RowsAre (value_of_all l base (hs ++ (h ++ r ∷ []) ∷ [])) plan
    (λ item. row_of (state_just_before l base before (hs ++ h ∷ []) b).blocks item.block)
given_back_in_all l base before hs h r place b plan layout p legal at is good =
    rw (value-last l base hs _) (rw ((begin_of_all l base before _ place b plan front
    at).was) (elim (cancel_ends l s _ h r _ last.legal is good)
    [ inl back ↦ by_restore back | inr ends ↦ by_release ends ]))
  where
    s : Memory
    s = value_of_all l base hs

    old : Memory
    old = old_of l base (hs ++ h ∷ []) place

    front : AreLegal l base before (hs ++ h ∷ [])
    front = front_of_all l base before hs h r legal

    last : IsLast l base before hs (h ++ r ∷ [])
    last = last_legal l base before hs _ legal

    by_restore : r.reply ≡ Restored
        → RowsAre (value_of l s (h ++ r ∷ [])) plan (λ item. row_of old.blocks item.block)
    by_restore back =
        subst (λ (t : Memory). RowsAre t plan (λ item. row_of old.blocks item.block))
        (sym (cut_of_all l base before hs h r place b plan front at
        (restored_cut l s _ _ h r last.legal is back))) (each_same old plan)

    by_release : IsEndOf (value_of l s h) (value_of l s (h ++ r ∷ [])) (release_blocks l (value_of l s h)
        b.serial) b.serial
        → RowsAre (value_of l s (h ++ r ∷ [])) plan (λ item. row_of old.blocks item.block)
    by_release ends =
        rw ends.memory (cancel-gives_back l _ _ old plan (value-placed l s h layout (placed_of_all l
        base hs layout p)) (live_begun l base before hs h place b plan layout p front at ends.live))
