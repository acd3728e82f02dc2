-- What each small change of a processor's list notes: its delta fits the lists that it left, and
-- leads back to those that it found.
use Rattle.std.proofs.Common.{◌≡◌, ℕ, ◌+◌, ◌*◌, ◌<◌, List, [], ◌∷◌, ◌++◌, length, get_or, true, false, not, Option, None, refl, ◌∙◌, ap, subst, arith, eq-eqb}
use Rattle.std.specs.List.{list_all}
use Rattle.std.proofs.lemmas.List.{get_or-set_same, length-map, length-set, set-set, set-get_or}
use Rattle.hp_units.specs.declared.rows.Pool.{Pool}
use Rattle.hp_units.specs.LayoutParts.{LayoutParts}
use Rattle.hp_units.specs.Arithmetic.{frame_count}
use Rattle.hp_units.specs.Memory.{FreeAreas, FreeFrames, pool_index}
use Rattle.hp_units.specs.FreeAreas.{is_on, without}
use Rattle.hp_tape.specs.declared.deltas.Delta.{Delta}
use Rattle.hp_tape.specs.declared.deltas.Delta.TheVariants.{Link, Unlink}
use Rattle.hp_tape.specs.declared.deltas.ListId.TheVariants.{Cpu as CpuList}
use Rattle.hp_tape.specs.Deltas.{FitsFree, IsDeltaOf, IsOfFree, free_undo, is_behind}
use Rattle.hp_tape.specs.Tapes.{TapeValue, NotesFree}
use Rattle.hp_buddy.specs.LinkedLists.{LinkedLists, list_at, with_list, off_lists, IsListed, last, without as without_first}
use Rattle.hp_units.proofs.Pools.{pool_index-lt}
use Rattle.hp_buddy.proofs.Linked.{contains_on, on_contains, off_list, off_all, without-same, put_behind-same, AreDistinct, behind-last, without-front, without-back}
use Rattle.hp_buddy.proofs.Notes.{IsUnlinked, after-on, both}
use Rattle.hp_buddy.specs.Cpus.{CpusValue, IsCpusOf, frames_of, list_of, with_list_of}
use Rattle.hp_buddy.proofs.CpuCounts.{list_in}

-- what contracts see of the table
abbrev pub cpus_of : LayoutParts → LinkedLists → CpusValue
cpus_of l links = record { layout = l; cached = links.lists }

-- the number of a processor's list
abbrev pub number : ℕ → Pool → ℕ
number cpu pool = 3 * cpu + pool_index pool

-- what contracts see of the table, which is that of the layout
pub record Seen (v : CpusValue) (l : LayoutParts) (links : LinkedLists) : Type 0 where
  pub is : cpus_of l links ≡ v
  pub kept : IsCpusOf l links

-- one delta
pub notes-one : (l : LayoutParts) (delta : Delta) (was now : TapeValue) (later earlier : FreeFrames)
    → now.room ≡ was.room → now.deltas ≡ was.deltas ++ delta ∷ []
    → IsOfFree delta → IsDeltaOf l delta → FitsFree delta later → free_undo delta later ≡ earlier
    → NotesFree l 1 was now later earlier
notes-one l delta was now later earlier room noted own numbers fits back = grind arith

-- the number is in the table
number_in : (l : LayoutParts) (links : LinkedLists) (cpu : ℕ) (pool : Pool) → IsCpusOf l links → cpu < l.cpus
    → number cpu pool < length links.lists
number_in l links cpu pool kept low = list_in l.cpus cpu (length links.lists) pool low kept.list_count

-- ---- what calls of the table need

-- a processor of the layout has a small number
pub cpu-small : {v : CpusValue} {l : LayoutParts} {links : LinkedLists} {cpu : ℕ} → IsCpusOf l links
    → cpus_of l links ≡ v → cpu < v.layout.cpus → cpu < 64
cpu-small {v} {l} kept is low = grind arith

-- the processor's list is in the table, and so is a frame of the layout
pub list-there : {v : CpusValue} {l : LayoutParts} {links : LinkedLists} {cpu n : ℕ} (pool : Pool)
    → IsCpusOf l links → cpus_of l links ≡ v → cpu < v.layout.cpus → n ≡ number cpu pool
    → n < length links.lists
list-there {v} {l} pool kept is low place = grind (arith, pool_index-lt)

pub frame-there : {v : CpusValue} {l : LayoutParts} {links : LinkedLists} {f : ℕ} → IsCpusOf l links
    → cpus_of l links ≡ v → f < frame_count v.layout → f < links.frame_count
frame-there {f = f} kept is low = rw (kept.frame_count ∙ ap (λ (w : CpusValue). frame_count w.layout) is) low

-- the table is that of the layout with another list in it, and with a frame on no list
pub kept-with : {l : LayoutParts} {links new : LinkedLists} (n : ℕ) (frames : List ℕ) → IsCpusOf l links
    → new ≡ with_list links n frames → IsCpusOf l new
kept-with {links = links} n frames kept is = grind (arith, length-set)

pub kept-off : {l : LayoutParts} {links new : LinkedLists} (f : ℕ) → IsCpusOf l links
    → new ≡ off_lists f links → IsCpusOf l new
kept-off {links = links} f kept is = grind (arith, length-map)

-- ---- a frame leaves its list

-- a frame that is to leave is on a list
pub seen-listed : (v : CpusValue) (l : LayoutParts) (links : LinkedLists) (cpu : ℕ) (pool : Pool) (f : ℕ)
    → Seen v l links → is_on f (list_of v cpu pool) ≡ true → IsListed links f
seen-listed v l links cpu pool f s on = grind (arith, on_contains)

-- the lists without the frame
pub unlink-cached : (l : LayoutParts) (links new : LinkedLists) (cpu : ℕ) (pool : Pool) (f : ℕ)
    (after : Option ℕ)
    → IsCpusOf l links → cpu < l.cpus
    → is_on f (list_of (cpus_of l links) cpu pool) ≡ true → IsUnlinked links new f after
    → cpus_of l new ≡ with_list_of (cpus_of l links) cpu pool (without f (list_of (cpus_of l links) cpu pool))
unlink-cached l links new cpu pool f after kept low on u =
    let n : ℕ = number cpu pool in
    let xs : List ℕ = get_or links.lists n [] in
    let is : new ≡ with_list links n (without_first f xs) = u.one_list n (on_contains f xs on) in
    let here : get_or new.lists n [] ≡ without_first f xs = grind (arith, get_or-set_same, number_in) in
    rw (is, without-same f xs (rw (← here) (off_list new f n u.free)))

-- and the delta of the unlink
pub unlink-notes : (l : LayoutParts) (links new : LinkedLists) (cpu : ℕ) (pool : Pool) (f : ℕ)
    (after : Option ℕ) (was now : TapeValue) (delta : Delta)
    → cpu < l.cpus → f < frame_count l
    → is_on f (list_of (cpus_of l links) cpu pool) ≡ true → IsUnlinked links new f after
    → now.room ≡ was.room → now.deltas ≡ was.deltas ++ delta ∷ [] → delta ≡ Unlink (CpuList pool cpu) f after
    → (areas : FreeAreas)
    → NotesFree l 1 was now (frames_of areas (cpus_of l new)) (frames_of areas (cpus_of l links))
unlink-notes l links new cpu pool f after was now delta low frame on u room noted is areas =
    let there = on_contains f (get_or links.lists (number cpu pool) []) on in
    let off : list_all (λ other. not (is_on f other)) new.lists ≡ true = grind (arith, off_all, off_list) in
    grind (arith, after-on, contains_on, notes-one, both, put_behind-same)

-- both for the value that contracts see
pub record UnlinkSeen (v new : CpusValue) (cpu : ℕ) (pool : Pool) (f : ℕ) (was now : TapeValue) : Type 0 where
  pub cached : new ≡ with_list_of v cpu pool (without f (list_of v cpu pool))
  pub notes : (areas : FreeAreas) → NotesFree v.layout 1 was now (frames_of areas new) (frames_of areas v)

pub seen-unlink : (v : CpusValue) (l : LayoutParts) (links new : LinkedLists) (cpu : ℕ) (pool : Pool) (f : ℕ)
    (after : Option ℕ) (was now : TapeValue) (delta : Delta)
    → Seen v l links
    → cpu < v.layout.cpus → f < frame_count v.layout → is_on f (list_of v cpu pool) ≡ true
    → IsUnlinked links new f after
    → now.room ≡ was.room → now.deltas ≡ was.deltas ++ delta ∷ [] → delta ≡ Unlink (CpuList pool cpu) f after
    → UnlinkSeen v (cpus_of l new) cpu pool f was now
seen-unlink v l links new cpu pool f after was now delta s low frame on u room noted is =
    subst (λ (w : CpusValue). cpu < w.layout.cpus → f < frame_count w.layout
    → is_on f (list_of w cpu pool) ≡ true → UnlinkSeen w (cpus_of l new) cpu pool f was now) s.is
    (λ low frame on. record {
      cached = unlink-cached l links new cpu pool f after s.kept low on u;
      notes = unlink-notes l links new cpu pool f after was now delta low frame on u room noted is;
    }) low frame on

-- ---- a frame comes to a list

-- a frame comes to a list of the table, and its leaving undoes that
link-notes : (l : LayoutParts) (links : LinkedLists) (cpu : ℕ) (pool : Pool) (f : ℕ) (frames : List ℕ)
    (after : Option ℕ) (was now : TapeValue) (delta : Delta)
    → IsCpusOf l links → cpu < l.cpus → f < frame_count l → is_behind after f frames ≡ true
    → without f frames ≡ list_of (cpus_of l links) cpu pool
    → now.room ≡ was.room → now.deltas ≡ was.deltas ++ delta ∷ [] → delta ≡ Link (CpuList pool cpu) f after
    → (areas : FreeAreas)
    → NotesFree l 1 was now (frames_of areas (with_list_of (cpus_of l links) cpu pool frames))
    (frames_of areas (cpus_of l links))
link-notes l links cpu pool f frames after was now delta kept low frame behind leaves room noted is areas =
    grind (arith, get_or-set_same, number_in, notes-one, set-set, set-get_or)

-- the value that contracts see, and what was noted
pub record LinkSeen (v new : CpusValue) (cpu : ℕ) (pool : Pool) (frames : List ℕ)
    (was now : TapeValue) : Type 0 where
  pub cached : new ≡ with_list_of v cpu pool frames
  pub notes : (areas : FreeAreas) → NotesFree v.layout 1 was now (frames_of areas new) (frames_of areas v)

-- the same, for one value
linked : (v new : CpusValue) (cpu : ℕ) (pool : Pool) (frames : List ℕ) (was now : TapeValue)
    → new ≡ with_list_of v cpu pool frames
    → ((areas : FreeAreas)
    → NotesFree v.layout 1 was now (frames_of areas (with_list_of v cpu pool frames)) (frames_of areas v))
    → LinkSeen v new cpu pool frames was now
linked v new cpu pool frames was now is notes = record {
  cached = is;
  notes =
      λ areas. rw is (notes areas);
}

-- in front
pub seen-front : (v : CpusValue) (l : LayoutParts) (links new : LinkedLists) (cpu : ℕ) (pool : Pool) (f n : ℕ)
    (was now : TapeValue) (delta : Delta)
    → Seen v l links
    → cpu < v.layout.cpus → f < frame_count v.layout → is_on f (list_of v cpu pool) ≡ false
    → n ≡ 3 * cpu + pool_index pool → new ≡ with_list links n (f ∷ list_at links n)
    → now.room ≡ was.room → now.deltas ≡ was.deltas ++ delta ∷ [] → delta ≡ Link (CpuList pool cpu) f None
    → LinkSeen v (cpus_of l new) cpu pool (f ∷ list_of v cpu pool) was now
seen-front v l links new cpu pool f n was now delta s low frame off place pushed room noted is =
    subst (λ (w : CpusValue). cpu < w.layout.cpus → f < frame_count w.layout → is_on f (list_of w cpu pool)
    ≡ false → LinkSeen w (cpus_of l new) cpu pool (f ∷ list_of w cpu pool) was now) s.is
    (λ low frame off.
    let xs : List ℕ = list_of (cpus_of l links) cpu pool in
    linked (cpus_of l links) (cpus_of l new) cpu pool (f ∷ xs) was now
    (rw (pushed, place))
    (link-notes l links cpu pool f (f ∷ xs) None was now delta s.kept low frame (eq-eqb f f refl)
    (without-front f xs off) room noted is)) low frame off

-- at the back
pub seen-back : (v : CpusValue) (l : LayoutParts) (links new : LinkedLists) (cpu : ℕ) (pool : Pool)
    (f n m : ℕ) (after : Option ℕ) (was now : TapeValue) (delta : Delta)
    → Seen v l links
    → cpu < v.layout.cpus → f < frame_count v.layout → is_on f (list_of v cpu pool) ≡ false
    → AreDistinct (list_of v cpu pool)
    → m ≡ 3 * cpu + pool_index pool → after ≡ last (list_at links m)
    → n ≡ 3 * cpu + pool_index pool → new ≡ with_list links n (list_at links n ++ f ∷ [])
    → now.room ≡ was.room → now.deltas ≡ was.deltas ++ delta ∷ [] → delta ≡ Link (CpuList pool cpu) f after
    → LinkSeen v (cpus_of l new) cpu pool (list_of v cpu pool ++ f ∷ []) was now
seen-back v l links new cpu pool f n m after was now delta s low frame off apart found after_is place pushed
    room noted is =
    subst (λ (w : CpusValue). cpu < w.layout.cpus → f < frame_count w.layout
    → is_on f (list_of w cpu pool) ≡ false → AreDistinct (list_of w cpu pool)
    → LinkSeen w (cpus_of l new) cpu pool (list_of w cpu pool ++ f ∷ []) was now) s.is
    (λ low frame off apart.
    let xs : List ℕ = list_of (cpus_of l links) cpu pool in
    linked (cpus_of l links) (cpus_of l new) cpu pool (xs ++ f ∷ []) was now
    (rw (pushed, place))
    (link-notes l links cpu pool f (xs ++ f ∷ []) after was now delta s.kept low frame
    (rw (after_is, found) (behind-last f xs apart))
    (without-back f xs off) room noted is)) low frame off apart
