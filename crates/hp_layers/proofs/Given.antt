-- Blocks that come back.
use Rattle.std.proofs.Common.{◌≡◌, ℕ, suc, ◌+◌, ◌*◌, ◌^◌, ◌<◌, ◌≤◌, refl, sym, ◌∙◌, ap, subst, arith, inl, inr}
use Rattle.std.proofs.lemmas.Bool.{cases_lt}
use Rattle.std.proofs.Math.Nat.{mul-le-mul_right, mul-mod_left, mul_assoc, suc-mul}
use Rattle.hp_units.specs.Arithmetic.{frame_count, pageblock_count}
use Rattle.std.specs.List.{fold, range_with_len}
use Rattle.hp_plain.proofs.Ranges.{fold-range_more}
use Rattle.hp_units.specs.LayoutParts.{LayoutParts}
use Rattle.hp_units.specs.Memory.{FreeAreas, FreeFrames}
use Rattle.hp_units.specs.Placement.{free_places, covered}
use Rattle.hp_tape.specs.Tapes.{NotesAreas, TapeValue}
use Rattle.hp_buddy.specs.Buddy.{AreApart, BuddyValue, HasBlockMore, MayBeGiven}
use Rattle.hp_units.proofs.Places.{covered-in, covered-out}
use Rattle.hp_buddy.specs.Cpus.{frames_of}
use Rattle.hp_buddy.proofs.Besides.{notes-beside, notes-then}
use Rattle.hp_buddy.proofs.Rooms.{one_done}
use Rattle.hp_layers.specs.declared.frames.Frames.{Frames}
use Rattle.hp_layers.specs.Frames.{IsGiven, IsTidy, MayReturn, free_of, places_of}
use Rattle.hp_layers.proofs.Taken.{tidy-less, with_buddy}

-- a block that may come back may be given to the areas
pub may-give : (f : Frames) (order first : ℕ) → IsTidy f → MayReturn f order first
    → MayBeGiven f.buddy.layout f.buddy.areas order first
may-give f order first h r =
    rw h.layout (record {
      in_order = r.in_order;
      aligned = r.aligned;
      within = r.within;
      unfree = λ o low high. omega (arith, r.nowhere o low high);
    })

-- then each frame of the block is in that one place only, and no other frame is in two
once-more : (f : Frames) (order first o : ℕ) → IsTidy f → MayReturn f order first
    → places_of f o + covered o order first ≤ 1
once-more f order first o h r = elim (cases_lt o first) [
  | inl below ↦ omega (arith, h.once o, covered-out o order first (inl below))
  | inr low ↦ elim (cases_lt o (first + 2 ^ order)) [
    | inl high ↦ omega (arith, r.nowhere o low high, covered-in o order first low high)
    | inr above ↦ omega (arith, h.once o, covered-out o order first (inr above))
  ]
]

-- what a call of the areas ensures
pub record IsAreaGiven (given : FreeAreas) (order first most : ℕ) (b e : BuddyValue)
    (was now : TapeValue) : Type 0 where
  pub given_is : e.areas ≡ given
  pub layout : e.layout ≡ b.layout
  pub notes : NotesAreas b.layout most was now e.areas b.areas
  pub apart : AreApart e.layout e.areas
  pub places : HasBlockMore e.areas b.areas order first

-- a call of the areas, beside the processors' lists, by a rule of the layout
pub area-given : (rule : LayoutParts → FreeAreas) (bound : LayoutParts → ℕ) (f : Frames) (e : BuddyValue)
    (order first : ℕ) (was now : TapeValue)
    → IsTidy f → MayReturn f order first
    → IsAreaGiven (rule f.buddy.layout) order first (bound f.buddy.layout) f.buddy e was now
    → IsGiven (record (free_of f) { areas = rule f.cpus.layout }) (bound f.cpus.layout) f (with_buddy f e) was
    now
area-given rule bound f e order first was now h r g =
    subst (λ (l : LayoutParts).
    IsGiven (record (free_of f) { areas = rule l }) (bound l) f (with_buddy f e) was now) h.layout (record {
      given = ap (λ (a : FreeAreas). frames_of a f.cpus) g.given_is;
      layout = refl;
      tidy = record {
        layout = g.layout ∙ h.layout;
        lists = h.lists;
        areas = subst (λ (l : LayoutParts). AreApart l e.areas) (g.layout ∙ h.layout) g.apart;
        within = h.within;
        once = λ o. omega (arith, once-more f order first o h r, g.places o);
      };
      notes = notes-beside f.cpus.layout (bound f.buddy.layout) was now f.cpus.cached e.areas f.buddy.areas
          (subst (λ (l : LayoutParts). NotesAreas l (bound f.buddy.layout) was now e.areas f.buddy.areas)
          h.layout g.notes);
    })

-- ---- pageblocks that change their class

-- what a call of the areas ensures if it brings no frame to a free block
pub record IsAreaMoved (moved : FreeAreas) (most : ℕ) (b e : BuddyValue) (was now : TapeValue) : Type 0 where
  pub moved_is : e.areas ≡ moved
  pub layout : e.layout ≡ b.layout
  pub notes : NotesAreas b.layout most was now e.areas b.areas
  pub apart : AreApart e.layout e.areas
  pub places : (frame : ℕ) → free_places e.areas frame ≤ free_places b.areas frame

pub area-moved : (rule : LayoutParts → FreeAreas) (bound : LayoutParts → ℕ) (f : Frames) (e : BuddyValue)
    (was now : TapeValue)
    → IsTidy f
    → IsAreaMoved (rule f.buddy.layout) (bound f.buddy.layout) f.buddy e was now
    → IsGiven (record (free_of f) { areas = rule f.cpus.layout }) (bound f.cpus.layout) f (with_buddy f e) was
    now
area-moved rule bound f e was now h g =
    subst (λ (l : LayoutParts).
    IsGiven (record (free_of f) { areas = rule l }) (bound l) f (with_buddy f e) was now) h.layout (record {
      given = ap (λ (a : FreeAreas). frames_of a f.cpus) g.moved_is;
      layout = refl;
      tidy = tidy-less f.cpus f.buddy e h g.layout g.apart (λ o. omega (arith, g.places o));
      notes = notes-beside f.cpus.layout (bound f.buddy.layout) was now f.cpus.cached e.areas f.buddy.areas
          (subst (λ (l : LayoutParts). NotesAreas l (bound f.buddy.layout) was now e.areas f.buddy.areas)
          h.layout g.notes);
    })

-- ---- many calls

-- one more call, which changes the areas by a rule of the layout
pub given-then : (l : LayoutParts) (rule : LayoutParts → FreeAreas → FreeAreas) (bound : LayoutParts → ℕ)
    (areas : FreeAreas) (done total : ℕ) (f g h : Frames) (was mid now : TapeValue)
    → f.cpus.layout ≡ l → done + bound l ≤ total
    → IsGiven (record (free_of f) { areas = areas }) done f g was mid
    → IsGiven (record (free_of g) { areas = rule g.cpus.layout g.buddy.areas }) (bound g.cpus.layout) g h mid
    now
    → IsGiven (record (free_of f) { areas = rule l areas }) total f h was now
given-then l rule bound areas done total f g h was mid now same le a b =
    let layout : g.cpus.layout ≡ l = a.layout ∙ same in
    let c =
    subst (λ (k : LayoutParts).
    IsGiven (record (free_of g) { areas = rule k g.buddy.areas }) (bound k) g h mid now) layout b in
    record {
      given = c.given ∙ ap (λ (fs : FreeFrames). record fs { areas = rule l fs.areas }) a.given;
      layout = c.layout ∙ a.layout;
      tidy = c.tidy;
      notes =
          notes-then f.cpus.layout g.cpus.layout done (bound l) total was mid now (free_of f) (free_of g)
          (free_of h) a.layout le a.notes c.notes;
    }

-- one pageblock further in a memory block
pub given-further : (l : LayoutParts) (rule : LayoutParts → FreeAreas → ℕ → FreeAreas) (bound : LayoutParts
    → ℕ) (areas : FreeAreas) (first number at : ℕ) (f g h : Frames) (was mid now : TapeValue)
    → f.cpus.layout ≡ l → at ≡ first + number
    → IsGiven (record (free_of f) { areas = fold (rule l) areas (range_with_len first number) })
    (number * bound l) f g was mid
    → IsGiven (record (free_of g) { areas = rule g.cpus.layout g.buddy.areas at }) (bound g.cpus.layout) g h
    mid now
    → IsGiven (record (free_of f) { areas = fold (rule l) areas (range_with_len first (number + 1)) })
    ((number + 1) * bound l) f h was now
given-further l rule bound areas first number at f g h was mid now same here a b =
    rw (fold-range_more (rule l) areas first number, ← here) (given-then l (λ k a. rule k a at) bound
    (fold (rule l) areas (range_with_len first number)) (number * bound l) ((number + 1) * bound l) f g h was
    mid now same (let e = one_done number (bound l) in omega (arith, e)) a b)

-- ---- pageblocks that are added

-- the block of a whole pageblock may come back
pub pageblock-returns : (l : LayoutParts) (f : Frames) (pageblock : ℕ) → f.cpus.layout ≡ l
    → pageblock < pageblock_count l
    → ((o : ℕ) → pageblock * 2 ^ l.order ≤ o → o < pageblock * 2 ^ l.order + 2 ^ l.order → places_of f o ≡ 0)
    → MayReturn f l.order (pageblock * 2 ^ l.order)
pageblock-returns l f pageblock same low nowhere = record {
  in_order = subst (λ (k : LayoutParts). l.order ≤ k.order) (sym same) (omega arith);
  aligned = mul-mod_left pageblock (2 ^ l.order);
  within = subst (λ (k : LayoutParts). pageblock * 2 ^ l.order + 2 ^ l.order ≤ frame_count k) (sym same)
      (let more = mul-le-mul_right {m = suc pageblock} {n = l.blocks * l.pageblocks} (2 ^ l.order) low in
      omega (arith, more, suc-mul pageblock (2 ^ l.order), mul_assoc l.blocks l.pageblocks (2 ^ l.order)));
  nowhere = nowhere;
}

pub area-added : (l : LayoutParts) (rule : LayoutParts → FreeAreas) (f : Frames) (e : BuddyValue)
    (pageblock : ℕ) (was now : TapeValue)
    → IsTidy f → f.cpus.layout ≡ l → pageblock < pageblock_count l
    → ((o : ℕ) → pageblock * 2 ^ l.order ≤ o → o < pageblock * 2 ^ l.order + 2 ^ l.order → places_of f o ≡ 0)
    → IsAreaGiven (rule f.buddy.layout) l.order (pageblock * 2 ^ l.order) 1 f.buddy e was now
    → IsGiven (record (free_of f) { areas = rule f.cpus.layout }) 1 f (with_buddy f e) was now
area-added l rule f e pageblock was now h same low nowhere g =
    area-given rule (λ k. 1) f e l.order (pageblock * 2 ^ l.order) was now h
    (pageblock-returns l f pageblock same low nowhere) g
