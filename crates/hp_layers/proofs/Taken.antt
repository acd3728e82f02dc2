-- Blocks that are taken, straight from the areas or by a processor's list, and from several sources
-- in turn.
use Rattle.std.proofs.Common.{◌≡◌, ℕ, ◌+◌, ◌≤◌, List, [], ◌∷◌, Option, Some, None, refl, sym, ◌∙◌, ap, subst, arith, IfSome}
use Rattle.std.specs.Prelude.{MatchOption}
use Rattle.std.specs.Option.{option_or}
use Rattle.hp_units.specs.declared.rows.Pool.{Pool}
use Rattle.hp_units.specs.LayoutParts.{LayoutParts, IsLayout}
use Rattle.hp_units.specs.Memory.{FreeFrames, cached_list}
use Rattle.hp_units.specs.FreeAreas.{Taken}
use Rattle.hp_units.specs.Placement.{free_places}
use Rattle.hp_units.specs.ProcessorLists.{Handed, handed_from, pop_cached, pop_from, refilled_from, take_one}
use Rattle.hp_tape.specs.Bounds.{batch_bound, take_one_bound, take_one_from, steal_bound}
use Rattle.hp_tape.specs.Tapes.{TapeValue, HasRoom, NotesAreas, NotesFree}
use Rattle.hp_tape.specs.Deltas.{FitsFree, IsOfFree, free_undo}
use Rattle.hp_tape.proofs.Leads.{notes-more}
use Rattle.hp_buddy.specs.Buddy.{BuddyValue, AreApart, MayBeGiven, HasBlockMore}
use Rattle.hp_buddy.specs.Cpus.{CpusValue, AreTogether, frames_of}
use Rattle.std.proofs.Math.Nat.{mul-le-mul_right}
use Rattle.hp_buddy.proofs.Besides.{notes-beside, nothing-noted}
use Rattle.hp_buddy.proofs.Undoes.{take-few}
use Rattle.hp_layers.specs.declared.frames.Frames.{Frames}
use Rattle.hp_layers.specs.Frames.{HandsOut, IsTaken, IsTidy, free_of}

-- ---- straight from the areas

-- fewer frames in the areas are still in one place
pub tidy-less : (c : CpusValue) (b e : BuddyValue) → AreTogether c b → e.layout ≡ b.layout
    → AreApart e.layout e.areas → ((o : ℕ) → free_places e.areas o ≤ free_places b.areas o)
    → AreTogether c e
tidy-less c b e h same apart less = record {
  layout = same ∙ h.layout;
  lists = h.lists;
  areas = subst (λ (l : LayoutParts). AreApart l e.areas) (same ∙ h.layout) apart;
  within = h.within;
  once = λ o. omega (arith, h.once o, less o);
}

-- the frames with other areas
abbrev pub with_buddy : Frames → BuddyValue → Frames
with_buddy f b = record { buddy = b; cpus = f.cpus }

-- what a call of the areas ensures
pub record IsAreaTaken (wanted : Option Taken) (order most : ℕ) (b e : BuddyValue) (was now : TapeValue)
    (answer : Option ℕ) : Type 0 where
  pub taken : MatchOption answer (wanted ≡ None)
      (λ frame. wanted ≡ Some (record { areas = e.areas; frame = frame }))
  pub none : MatchOption answer ((e ≡ b) × (now ≡ was)) (λ _. Unit {0})
  pub layout : e.layout ≡ b.layout
  pub notes : NotesAreas b.layout most was now e.areas b.areas
  pub apart : AreApart e.layout e.areas
  pub block : IfSome answer (MayBeGiven e.layout e.areas order)
  pub places : IfSome answer (HasBlockMore b.areas e.areas order)

area-taken-one : (f : Frames) (e : BuddyValue) (wanted : Option Taken) (order most : ℕ) (was now : TapeValue)
    (answer : Option ℕ)
    → IsTidy f → IsAreaTaken wanted order most f.buddy e was now answer
    → NotesFree f.cpus.layout most was now (frames_of e.areas f.cpus) (free_of f)
    → IsTaken (handed_from (free_of f) wanted) order most f (with_buddy f e) was now answer
area-taken-one f e wanted order most was now None h t notes = record {
  handed = rw t.taken (refl, ap (λ (b : BuddyValue). frames_of b.areas f.cpus) t.none.0);
  none = λ is. (ap (with_buddy f) t.none.0, t.none.1);
  layout = refl;
  tidy = subst (λ (b : BuddyValue). AreTogether f.cpus b) (sym t.none.0) h;
  block = tt;
  notes = notes;
}
area-taken-one f e wanted order most was now (Some frame) h t notes = record {
  handed = rw t.taken (refl, refl);
  none = λ is. absurd cc;
  layout = refl;
  tidy = tidy-less f.cpus f.buddy e h t.layout t.apart (λ o. omega (arith, t.places o));
  block = record {
    within = rw (← h.layout, ← t.layout) t.block.within;
    places = λ o. omega (arith, t.places o);
  };
  notes = notes;
}

-- a call of the areas, beside the processors' lists, by a rule of the layout
pub area-taken : (rule : LayoutParts → Option Taken) (bound : LayoutParts → ℕ) (f : Frames) (e : BuddyValue)
    (order : ℕ) (was now : TapeValue) (answer : Option ℕ)
    → IsTidy f
    → IsAreaTaken (rule f.buddy.layout) order (bound f.buddy.layout) f.buddy e was now answer
    → IsTaken (handed_from (free_of f) (rule f.cpus.layout)) order (bound f.cpus.layout) f (with_buddy f e)
    was now answer
area-taken rule bound f e order was now answer h t =
    subst (λ (l : LayoutParts).
    IsTaken (handed_from (free_of f) (rule l)) order (bound l) f (with_buddy f e) was now answer) h.layout
    (area-taken-one f e (rule f.buddy.layout) order (bound f.buddy.layout) was now answer h t
    (notes-beside f.cpus.layout (bound f.buddy.layout) was now f.cpus.cached e.areas f.buddy.areas
    (subst (λ (l : LayoutParts). NotesAreas l (bound f.buddy.layout) was now e.areas f.buddy.areas) h.layout
    t.notes)))

-- ---- by a processor's list

-- a list that has a frame hands one out
list-hands : (fs : FreeFrames) (cpu : ℕ) (pool : Pool) (frame : ℕ) (frames xs : List ℕ) → xs ≡ frame ∷ frames
    → pop_from fs cpu pool xs ≡ None → ⊥
list-hands fs cpu pool frame frames xs is none = let h = rw is at none in cc

empty_from : (l : LayoutParts) (fs : FreeFrames) (cpu : ℕ) (pool : Pool) (xs : List ℕ)
    → cached_list fs cpu pool ≡ xs → pop_cached (refilled_from l fs cpu pool xs) cpu pool ≡ None
    → take_one_from l xs ≡ batch_bound l
empty_from l fs cpu pool [] is none = refl
empty_from l fs cpu pool (frame ∷ frames) is none =
    absurd (list-hands fs cpu pool frame frames (cached_list fs cpu pool) is none)

-- only an empty list hands none out
pub empty-bound : (l : LayoutParts) (fs : FreeFrames) (cpu : ℕ) (pool : Pool) → take_one l fs cpu pool ≡ None
    → take_one_bound l fs cpu pool ≡ batch_bound l
unfolding take_one
empty-bound l fs cpu pool none = empty_from l fs cpu pool (cached_list fs cpu pool) refl none

-- ---- from several sources in turn

-- a rule that hands none out
wanted-none : (wanted : Option Handed) (old new : FreeFrames) → HandsOut wanted old new None → wanted ≡ None
wanted-none None old new h = refl
wanted-none (Some handed) old new h = absurd (let e = h.0 in cc)

-- the first rule hands none out, and the second does or doesn't
pub then-taken : (wanted : Option Handed) (other : Frames → Option Handed) (order most : ℕ)
    (bound : Frames → ℕ) (old mid new : Frames) (was between now : TapeValue) (more : ℕ) (answer : Option ℕ)
    → bound old ≤ more → IsTaken wanted order most old mid was between None
    → IsTaken (other mid) order (bound mid) mid new between now answer
    → IsTaken (option_or wanted (other old)) order more old new was now answer
then-taken wanted other order most bound old mid new was between now more answer le first second =
    let same = first.none refl in
    let here : IsTaken (other old) order (bound old) old new was now answer =
    rw (← same.1, ← same.0) second in
    let none : wanted ≡ None = wanted-none wanted (free_of old) (free_of mid) first.handed in
    rw none (record {
      handed = here.handed;
      none = here.none;
      layout = here.layout;
      tidy = here.tidy;
      block = here.block;
      notes =
          notes-more IsOfFree FitsFree free_undo old.cpus.layout (bound old) more was now (free_of new)
          (free_of old) le here.notes;
    })

-- ---- a processor's list that hands none out

-- the list was empty, and nothing changed
pub record IsListEmpty (f mid : Frames) (was between : TapeValue) (cpu : ℕ) (pool : Pool) : Type 0 where
  pub first : (most : ℕ) → IsTaken (take_one f.cpus.layout (free_of f) cpu pool) 0 most f mid was between None
  pub same : mid ≡ f
  pub tape : between ≡ was
  pub bound : take_one_bound f.cpus.layout (free_of f) cpu pool ≡ batch_bound f.cpus.layout

-- a rule that handed none out noted no deltas
pub list-empty : {f mid : Frames} {was between : TapeValue} {cpu : ℕ} {pool : Pool} {most : ℕ}
    {answer : Option ℕ}
    → answer ≡ None
    → IsTaken (take_one f.cpus.layout (free_of f) cpu pool) 0 most f mid was between answer
    → IsListEmpty f mid was between cpu pool
list-empty {f} {mid} {was} {between} {cpu} {pool} {most} none t =
    let h = rw none at t in
    let is = h.none refl in
    record {
      first = λ more. record {
        handed = h.handed;
        none = h.none;
        layout = h.layout;
        tidy = h.tidy;
        block = tt;
        notes = rw (is.0, is.1) (nothing-noted f.cpus.layout more was (free_of f));
      };
      same = is.0;
      tape = is.1;
      bound =
          empty-bound f.cpus.layout (free_of f) cpu pool
          (wanted-none (take_one f.cpus.layout (free_of f) cpu pool) (free_of f) (free_of mid) h.handed);
    }

-- a steal notes no more than a batch
pub steal-few : (l : LayoutParts) → IsLayout l → steal_bound l ≤ batch_bound l
steal-few l layout =
    let more = mul-le-mul_right {m = 1} {n = l.batch} (l.order + 2) layout.some_batch in omega (arith, more)

-- so there is still room for a steal, and for another list
pub steal-room : {f mid : Frames} {was between : TapeValue} {cpu : ℕ} {pool : Pool} → IsLayout f.cpus.layout
    → IsListEmpty f mid was between cpu pool
    → HasRoom was (take_one_bound f.cpus.layout (free_of f) cpu pool)
    → HasRoom between (steal_bound mid.cpus.layout)
steal-room {f = f} {between = between} layout e room =
    rw (e.same, e.tape) (let few = steal-few f.cpus.layout layout in omega (arith, few, room, e.bound))

pub list-room : (f mid : Frames) (was between : TapeValue) (cpu : ℕ) (pool other : Pool)
    → IsListEmpty f mid was between cpu pool
    → HasRoom was (take_one_bound f.cpus.layout (free_of f) cpu pool)
    → HasRoom between (take_one_bound mid.cpus.layout (free_of mid) cpu other)
list-room f mid was between cpu pool other e room =
    rw (e.same, e.tape)
    (let few = take-few f.cpus.layout (free_of f) cpu other in omega (arith, few, room, e.bound))
