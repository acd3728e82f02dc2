-- Deltas of several calls, one after another.
use Rattle.std.proofs.Common.{◌≡◌, ℕ, ◌≤◌, ◌+◌, List, [], ◌∷◌, ◌++◌, refl, sym, ap, subst, ◌∙◌, arith}
use Rattle.std.proofs.lemmas.List.{append_assoc, append-nil, length-append}
use Rattle.std.specs.List.{AllByRecursion}
use Rattle.hp_units.specs.LayoutParts.{LayoutParts}
use Rattle.hp_tape.specs.declared.deltas.Delta.{Delta}
use Rattle.hp_tape.specs.Deltas.{undo_all, AllFit, IsDeltaOf}
use Rattle.hp_tape.specs.Tapes.{TapeValue, LeadBack, Notes}

-- the opposites of two lists of deltas, the later list first
pub undo_all-append : {S : Type 0} (one : Delta → S → S) (ds es : List Delta) (v : S)
    → undo_all one (ds ++ es) v ≡ undo_all one ds (undo_all one es v)
undo_all-append one [] es v = refl
undo_all-append one (d ∷ ds) es v = ap (one d) (undo_all-append one ds es v)

-- deltas of which each fits, after others of which each fits
pub all_fit-append : {S : Type 0} (Fit : Delta → S → Type 0) (one : Delta → S → S) (ds es : List Delta)
    (v : S)
    → AllFit Fit one es v → AllFit Fit one ds (undo_all one es v)
    → AllFit Fit one (ds ++ es) v
all_fit-append Fit one [] es v later earlier = later
all_fit-append Fit one (d ∷ ds) es v later earlier = (
  all_fit-append Fit one ds es v later earlier.0,
  subst (λ w. Fit d w) (sym (undo_all-append one ds es v)) earlier.1,
)

-- deltas that lead back over two calls
pub lead_back-append : {S : Type 0} (Fit : Delta → S → Type 0) (one : Delta → S → S) (ds es : List Delta)
    (last between first : S)
    → LeadBack Fit one ds between first → LeadBack Fit one es last between
    → LeadBack Fit one (ds ++ es) last first
lead_back-append Fit one ds es last between first earlier later = record {
  fit =
      all_fit-append Fit one ds es last later.fit
      (subst (λ w. AllFit Fit one ds w) (sym later.back) earlier.fit);
  back = undo_all-append one ds es last ∙ (ap (undo_all one ds) later.back ∙ earlier.back);
}

-- no deltas lead back to the same state
pub lead_back-none : {S : Type 0} (Fit : Delta → S → Type 0) (one : Delta → S → S) (s : S)
    → LeadBack Fit one [] s s
lead_back-none Fit one s = record { fit = tt; back = refl }

-- of all of two lists
pub all-append : {X : Type 0} (P : X → Type 0) (xs ys : List X) → AllByRecursion P xs → AllByRecursion P ys
    → AllByRecursion P (xs ++ ys)
all-append P [] ys h k = k
all-append P (x ∷ xs) ys h k = (h.0, all-append P xs ys h.1 k)

-- a call that notes nothing and changes nothing
pub notes-none : {S : Type 0} (Own : Delta → Type 0) (Fit : Delta → S → Type 0) (one : Delta → S → S)
    (l : LayoutParts) (most : ℕ) (tape : TapeValue) (s : S)
    → Notes Own Fit one l most tape tape s s
notes-none Own Fit one l most tape s = record {
  deltas = [];
  tape = ap (λ (ds : List Delta). record { room = tape.room; deltas = ds }) (sym (append-nil tape.deltas));
  few = omega arith;
  own = tt;
  numbers = tt;
  lead = lead_back-none Fit one s;
}

-- two calls, one after another
pub notes-append : {S : Type 0} (Own : Delta → Type 0) (Fit : Delta → S → Type 0) (one : Delta → S → S)
    (l : LayoutParts) (most more : ℕ) (was mid now : TapeValue) (last between first : S)
    → Notes Own Fit one l most was mid between first → Notes Own Fit one l more mid now last between
    → Notes Own Fit one l (most + more) was now last first
notes-append Own Fit one l most more was mid now last between first a b = record {
  deltas = a.deltas ++ b.deltas;
  tape = b.tape ∙ (ap (λ (t : TapeValue). record { room = t.room; deltas = t.deltas ++ b.deltas }) a.tape
      ∙ ap (λ (ds : List Delta). record { room = was.room; deltas = ds })
      (append_assoc was.deltas a.deltas b.deltas));
  few = omega (arith, a.few, b.few, length-append a.deltas b.deltas);
  own = all-append Own a.deltas b.deltas a.own b.own;
  numbers = all-append (IsDeltaOf l) a.deltas b.deltas a.numbers b.numbers;
  lead = lead_back-append Fit one a.deltas b.deltas last between first a.lead b.lead;
}

-- a call's bound may be greater
pub notes-more : {S : Type 0} (Own : Delta → Type 0) (Fit : Delta → S → Type 0) (one : Delta → S → S)
    (l : LayoutParts) (most more : ℕ) (was now : TapeValue) (later earlier : S)
    → most ≤ more → Notes Own Fit one l most was now later earlier
    → Notes Own Fit one l more was now later earlier
notes-more Own Fit one l most more was now later earlier le a = record {
  deltas = a.deltas;
  tape = a.tape;
  few = omega (arith, le, a.few);
  own = a.own;
  numbers = a.numbers;
  lead = a.lead;
}

-- the latest of many fits, and each other does once it is undone
pub all_fit-latest : {S : Type 0} (Fit : Delta → S → Type 0) (one : Delta → S → S) (ds : List Delta)
    (d : Delta) (v : S)
    → AllFit Fit one (ds ++ d ∷ []) v → Fit d v × AllFit Fit one ds (one d v)
all_fit-latest Fit one [] d v fit = (fit.1, tt)
all_fit-latest Fit one (e ∷ ds) d v fit =
    let rest = all_fit-latest Fit one ds d v fit.0 in
    (rest.0, (rest.1, subst (λ w. Fit e w) (undo_all-append one ds (d ∷ []) v) fit.1))

-- of all of a list, and of its last
pub all-latest : {X : Type 0} (P : X → Type 0) (xs : List X) (x : X) → AllByRecursion P (xs ++ x ∷ [])
    → P x × AllByRecursion P xs
all-latest P [] x all = (all.0, tt)
all-latest P (y ∷ xs) x all = let rest = all-latest P xs x all.1 in (rest.0, (all.0, rest.1))
