-- Deltas that lead from one state back to an earlier one: one list after another, and a list that is split.
use Rattle.std.proofs.Common.{◌≡◌, ℕ, ◌≤◌, ◌-◌, List, [], ◌∷◌, ◌++◌, drop, length, take, ap, sym, subst, ◌∙◌, arith}
use Rattle.std.specs.List.{AllByRecursion, slice_range}
use Rattle.std.proofs.lemmas.List.{drop-append-le, length-drop, length-take-le, take-append-drop}
use Rattle.hp_units.specs.LayoutParts.{LayoutParts}
use Rattle.hp_units.specs.Memory.{Memory}
use Rattle.hp_units.specs.Placement.{IsWellPlaced}
use Rattle.hp_tape.specs.declared.deltas.Delta.{Delta}
use Rattle.hp_tape.specs.Deltas.{AllFit, Fits, IsDeltaOf, frame_view_of, undo, undo_all}
use Rattle.hp_tape.specs.Tapes.{LeadBack}
use Rattle.hp_tape.proofs.Leads.{all-append, lead_back-append, lead_back-none, undo_all-append}
use Rattle.hp_memory.specs.Memory.{LeadsBack}

-- ---- the earlier of two lists, from the state that the later leads to

all-left : {X : Type 0} (P : X → Type 0) (xs ys : List X) → AllByRecursion P (xs ++ ys) → AllByRecursion P xs
all-left P [] ys all = tt
all-left P (x ∷ xs) ys all = (all.0, all-left P xs ys all.1)

all_fit-left : {S : Type 0} (Fit : Delta → S → Type 0) (one : Delta → S → S) (ds es : List Delta) (v : S)
    → AllFit Fit one (ds ++ es) v → AllFit Fit one ds (undo_all one es v)
all_fit-left Fit one [] es v fit = tt
all_fit-left Fit one (d ∷ ds) es v fit =
    (all_fit-left Fit one ds es v fit.0, subst (λ w. Fit d w) (undo_all-append one ds es v) fit.1)

lead_back-left : {S : Type 0} {one : Delta → S → S} {es : List Delta} {last between first : S}
    (Fit : Delta → S → Type 0) (ds : List Delta)
    → LeadBack Fit one (ds ++ es) last first → LeadBack Fit one es last between
    → LeadBack Fit one ds between first
lead_back-left {one = one} {es = es} {last = last} Fit ds whole later = record {
  fit = subst (λ w. AllFit Fit one ds w) later.back (all_fit-left Fit one ds es last whole.fit);
  back = ap (undo_all one ds) (sym later.back) ∙ (sym (undo_all-append one ds es last) ∙ whole.back);
}

-- ---- between states

-- no deltas lead back to the same state
pub leads-none : {l : LayoutParts} {s : Memory} → IsWellPlaced l s → LeadsBack l [] s s
leads-none {l = l} {s = s} placed =
    record { placed = placed; numbers = tt; lead = lead_back-none Fits undo (frame_view_of l s) }

-- deltas of two parts of a history
pub leads-append : {l : LayoutParts} {ds es : List Delta} {last between first : Memory}
    → LeadsBack l ds between first → LeadsBack l es last between → LeadsBack l (ds ++ es) last first
leads-append {l = l} {ds = ds} {es = es} {last = last} {between = between} {first = first} earlier later =
    record {
      placed = earlier.placed;
      numbers = all-append (IsDeltaOf l) ds es earlier.numbers later.numbers;
      lead =
          lead_back-append Fits undo ds es (frame_view_of l last) (frame_view_of l between)
          (frame_view_of l first)
          earlier.lead later.lead;
    }

-- the deltas of the earlier part
pub leads-left : {l : LayoutParts} {es : List Delta} {last between first : Memory} (ds : List Delta)
    → LeadsBack l (ds ++ es) last first → LeadsBack l es last between → LeadsBack l ds between first
leads-left {l = l} {es = es} {last = last} {between = between} {first = first} ds whole later = record {
  placed = whole.placed;
  numbers = all-left (IsDeltaOf l) ds es whole.numbers;
  lead = lead_back-left Fits ds whole.lead later.lead;
}

-- ---- parts of a tape

-- what stands past a place, split at a later one
pub past-split : (a b : ℕ) (ds : List Delta) → a ≤ b → b ≤ length ds
    → drop a ds ≡ drop a (take b ds) ++ drop b ds
past-split a b ds le within =
    let reach : a ≤ length (take b ds) = omega (arith, le, length-take-le b ds within) in
    ap (λ (xs : List Delta). drop a xs) (sym (take-append-drop b ds))
    ∙ drop-append-le a (take b ds) (drop b ds) reach

-- how many stand between two places
pub between-length : (a b : ℕ) (ds : List Delta) → a ≤ b → b ≤ length ds → length (slice_range ds a b) ≡ b - a
between-length a b ds le within = grind (arith, length-drop, length-take-le)
