-- One turn of a refill, a spill and a drain: a frame moves between the free areas and a processor's
-- list.
use Rattle.std.proofs.Common.{◌≡◌, ℕ, ◌+◌, ◌*◌, ◌<◌, ◌≤◌, [], ◌∷◌, ◌++◌, Some, refl, sym, ◌∙◌, ap, subst, arith}
use Rattle.std.proofs.Math.Nat.{mul-le-mul_right}
use Rattle.hp_units.specs.declared.rows.Class.{Class}
use Rattle.hp_units.specs.declared.rows.Pool.{Pool}
use Rattle.hp_units.specs.declared.rows.Zone.{Zone}
use Rattle.hp_units.specs.LayoutParts.{LayoutParts}
use Rattle.hp_units.specs.Memory.{FreeAreas, FreeFrames, class_of_pool, zone_of_pool}
use Rattle.hp_units.specs.FreeAreas.{take_block, give_block}
use Rattle.hp_tape.specs.Bounds.{take_bound, give_bound}
use Rattle.hp_tape.specs.Tapes.{TapeValue, HasRoom, NotesAreas, NotesFree}
use Rattle.hp_tape.proofs.Leads.{notes-more}
use Rattle.hp_buddy.specs.Buddy.{BuddyValue}
use Rattle.hp_buddy.specs.Cpus.{CpusValue, AreTogether, frames_of, list_of, with_list_of, places_among, one_at}
use Rattle.hp_buddy.proofs.CpuCounts.{times-push}
use Rattle.hp_buddy.proofs.Together.{IsOut, IsIn, list-in}
use Rattle.hp_buddy.proofs.Besides.{notes-beside, notes-then, room_left}
use Rattle.hp_buddy.proofs.Rooms.{room_for_one, one_done}
use Rattle.hp_buddy.proofs.Spills.{given}

-- what a turn keeps, and what it notes
pub record IsTurn (l : LayoutParts) (c d : CpusValue) (b e : BuddyValue) (was now : TapeValue) : Type 0 where
  pub layout : d.layout ≡ l
  pub together : AreTogether d e
  pub notes : NotesFree l (l.order + 2) was now (frames_of e.areas d) (frames_of b.areas c)
  pub places : (o : ℕ) → places_among e.areas d o ≡ places_among b.areas c o

-- ---- a frame is taken

-- what taking one frame ensures
pub record IsTaken (l : LayoutParts) (class : Class) (b e : BuddyValue) (f : ℕ)
    (was now : TapeValue) : Type 0 where
  pub taken : take_block l b.areas class 0 ≡ Some (record { areas = e.areas; frame = f })
  pub layout : e.layout ≡ l
  pub notes : NotesAreas l (take_bound l) was now e.areas b.areas

-- the same, by the processors' layout
pub taken_as : (l : LayoutParts) (class known : Class) (b e : BuddyValue) (f : ℕ) (was now : TapeValue)
    → b.layout ≡ l → class ≡ known
    → take_block b.layout b.areas class 0 ≡ Some (record { areas = e.areas; frame = f }) → e.layout ≡ b.layout
    → NotesAreas b.layout (take_bound b.layout) was now e.areas b.areas
    → IsTaken l known b e f was now
taken_as l class known b e f was now same class_is taken layout notes = grind arith

-- a frame that was taken came to the back of a list
pub taken-turn : (l : LayoutParts) (c d : CpusValue) (b e : BuddyValue) (cpu : ℕ) (pool : Pool) (f : ℕ)
    (was mid now : TapeValue)
    → c.layout ≡ l → cpu < l.cpus
    → IsTaken l (class_of_pool pool) b e f was mid → IsOut c c b e f
    → d ≡ with_list_of c cpu pool (list_of c cpu pool ++ f ∷ [])
    → NotesFree c.layout 1 mid now (frames_of e.areas d) (frames_of e.areas c) → IsTurn l c d b e was now
taken-turn l c d b e cpu pool f was mid now same low taken out is notes =
    let put : IsIn c d e e f =
    list-in _ _ _ _ _ _ _ out.together out.frame (subst (λ (k : LayoutParts). cpu < k.cpus) (sym same) low) is
    (λ o. times-push o f (list_of c cpu pool)) in
    record {
      layout = ap (λ (w : CpusValue). w.layout) is ∙ same;
      together = put.together;
      notes =
          notes-then _ _ _ _ _ _ _ _ _ _ _ same (omega arith) (notes-beside _ _ _ _ _ _ _ taken.notes) notes;
      places = λ o. omega (arith, put.places o, out.places o);
    }

-- ---- a frame is given

-- a frame left a list, which keeps the others, and was given
pub given-turn : (l : LayoutParts) (c d : CpusValue) (b e : BuddyValue) (f : ℕ) (was mid now : TapeValue)
    → c.layout ≡ l → d.layout ≡ c.layout
    → IsOut c d b b f → AreTogether d e
    → ((o : ℕ) → places_among e.areas d o ≡ places_among b.areas d o + one_at f o)
    → NotesFree c.layout 1 was mid (frames_of b.areas d) (frames_of b.areas c)
    → NotesFree d.layout (give_bound d.layout) mid now (frames_of e.areas d) (frames_of b.areas d)
    → IsTurn l c d b e was now
given-turn l c d b e f was mid now same kept out together places first then = record {
  layout = kept ∙ same;
  together = together;
  notes =
      notes-then l l 1 (give_bound l) (l.order + 2) was mid now (frames_of b.areas c) (frames_of b.areas d)
      (frames_of e.areas d) refl (omega arith)
      (rw (← same) first)
      (subst (λ (k : LayoutParts).
      NotesFree k (give_bound k) mid now (frames_of e.areas d) (frames_of b.areas d)) (kept ∙ same) then);
  places = λ o. omega (arith, places o, out.places o);
}

-- the lists and the areas after that
pub given_is : (l : LayoutParts) (c d : CpusValue) (b e : BuddyValue) (cpu : ℕ) (pool : Pool) (zone : Zone)
    (f : ℕ)
    → d.layout ≡ l → zone ≡ zone_of_pool pool
    → d ≡ with_list_of c cpu pool (list_of d cpu pool) → e.areas ≡ give_block d.layout b.areas zone f 0
    → frames_of e.areas d ≡ given l (frames_of b.areas c) cpu pool f (list_of d cpu pool)
given_is l c d b e cpu pool zone f same zone_is is gave = cc

-- ---- many turns

-- one more turn
pub notes-turn : (l : LayoutParts) (done : ℕ) (was mid now : TapeValue) (c d e : CpusValue)
    (a b g : FreeAreas)
    → NotesFree l (done * (l.order + 2)) was mid (frames_of b d) (frames_of a c)
    → NotesFree l (l.order + 2) mid now (frames_of g e) (frames_of b d)
    → NotesFree l ((done + 1) * (l.order + 2)) was now (frames_of g e) (frames_of a c)
notes-turn l done was mid now c d e a b g before turn = grind (arith, notes-then, one_done)

-- there is room for one more turn
pub turn_room : (l : LayoutParts) (done all : ℕ) (was now : TapeValue) (c d : CpusValue) (a b : FreeAreas)
    → done < all → HasRoom was (all * (l.order + 2))
    → NotesFree l (done * (l.order + 2)) was now (frames_of b d) (frames_of a c) → HasRoom now (l.order + 2)
turn_room l done all was now c d a b below room notes =
    room_left _ _ _ _ _ _ _ notes (omega (arith, room, room_for_one done all (l.order + 2) below))

-- the turns done note at most as much as all turns
pub few_turns : (l : LayoutParts) (done all : ℕ) (was now : TapeValue) (later earlier : FreeFrames)
    → done ≤ all → NotesFree l (done * (l.order + 2)) was now later earlier
    → NotesFree l (all * (l.order + 2)) was now later earlier
few_turns l done all was now later earlier le notes = grind (arith, notes-more, mul-le-mul_right)
