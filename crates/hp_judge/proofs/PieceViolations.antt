-- Which law an alloc or a free breaks first, by the tables.
use Rattle.std.proofs.Common.{◌≡◌, ℕ, ◌^◌, Bool, true, false, ◌&&◌, Option, Some, None, refl, arith, ◌⊎◌, inl, inr}
use Rattle.hp_judge.specs.Names.{Alloc, Free, Law, Once, InUse, Present, Movable, FrameSince}
use Rattle.hp_judge.specs.Events.{block_of, is_piece, lies_within}
use Rattle.hp_judge.specs.Laws.{IsPlace}
use Rattle.hp_judge.specs.Tables.{Tables, in_use_since, free_since, frame_at, block_at, IsLowest}
use Rattle.hp_judge.specs.Verdicts.{ComesBefore, violation_in, NoViolation, IsFirstViolation}
use Rattle.hp_judge.proofs.Lawful.{no_violation}
use Rattle.hp_judge.proofs.Pieces.{NoneInUse, covered, covers_its, covers_none_before, covers_start, in_piece, piece_parts}

-- ---- allocs
abbrev pub gone_at : Tables → ℕ → Option ℕ
gone_at t f = (block_at t.blocks (block_of t.size f)).gone

abbrev pub movable_at : Tables → ℕ → Option ℕ
movable_at t f = (block_at t.blocks (block_of t.size f)).movable

alloc_once : (t : Tables) (start order f : ℕ) (movable : Bool) → NoneInUse t start (2 ^ order)
    → violation_in t (Alloc start order movable) Once f ≡ None
alloc_once t start order f movable h =
    no_violation _ _ (λ e. let c = covered t.size start order f e in h f c.low c.high)

alloc_present : (t : Tables) (start order f : ℕ) (movable : Bool) → gone_at t start ≡ None
    → violation_in t (Alloc start order movable) Present f ≡ None
alloc_present t start order f movable h =
    no_violation (is_piece t.size start order && lies_within start _ f) (gone_at t f)
    (λ e. rw ((covered t.size start order f e).block_is, gone_at) h)

alloc_movable : (t : Tables) (start order f : ℕ) (movable : Bool)
    → (movable ≡ true) ⊎ (movable_at t start ≡ None)
    → violation_in t (Alloc start order movable) Movable f ≡ None
alloc_movable t start order f true h = refl
alloc_movable t start order f false (inl h) = cc
alloc_movable t start order f false (inr h) =
    no_violation (is_piece t.size start order && lies_within start _ f) (movable_at t f)
    (λ e. rw ((covered t.size start order f e).block_is, movable_at) h)

-- an alloc that breaks no law
pub alloc_none : (t : Tables) (start order : ℕ) (movable : Bool) → NoneInUse t start (2 ^ order)
    → gone_at t start ≡ None → (movable ≡ true) ⊎ (movable_at t start ≡ None)
    → NoViolation t.size (violation_in t (Alloc start order movable))
alloc_none t start order movable h g v Once f inside = alloc_once t start order f movable h
alloc_none t start order movable h g v Present f inside = alloc_present t start order f movable g
alloc_none t start order movable h g v Movable f inside = alloc_movable t start order f movable v
alloc_none t start order movable h g v _ f inside = refl

-- an alloc of a frame that is in use
pub alloc_once_first : (t : Tables) (start order : ℕ) (movable : Bool) (found : FrameSince)
    → is_piece t.size start order ≡ true
    → IsLowest (λ f. in_use_since (frame_at t.frames f)) start (2 ^ order) found
    → IsFirstViolation t.size (violation_in t (Alloc start order movable))
    (record { law = Once; place = found.frame; since = found.since })
alloc_once_first t start order movable found piece low = record {
  is_place = (in_piece t.size start order _ piece low.low low.high).frame_in;
  shows = rw (covers_its t.size start order _ piece low.low low.high) low.since_is;
  is_first = first;
}
  where
    first : (law : Law) (f : ℕ) → IsPlace t.size law f → ComesBefore law f Once found.frame
        → violation_in t (Alloc start order movable) law f ≡ None
    first Once f inside (inl less) = absurd (omega arith)
    first Once f inside (inr both) =
        no_violation _ _ (λ e. low.none_below f (covered t.size start order f e).low both.1)
    first Present f inside (inl less) = absurd (omega arith)
    first Present f inside (inr both) = absurd (cc both.0)
    first Movable f inside (inl less) = absurd (omega arith)
    first Movable f inside (inr both) = absurd (cc both.0)
    first _ f inside b = refl

-- an alloc from a block that is gone
pub alloc_present_first : (t : Tables) (start order place since : ℕ) (movable : Bool)
    → is_piece t.size start order ≡ true → NoneInUse t start (2 ^ order) → gone_at t start ≡ Some since
    → place ≡ start
    → IsFirstViolation t.size (violation_in t (Alloc start order movable))
    (record { law = Present; place = place; since = since })
alloc_present_first t start order place since movable piece h g same =
    rw same (record {
      is_place = (piece_parts t.size start order piece).start_in;
      shows = rw (covers_start t.size start order piece) g;
      is_first = first;
    })
  where
    first : (law : Law) (f : ℕ) → IsPlace t.size law f → ComesBefore law f Present start
        → violation_in t (Alloc start order movable) law f ≡ None
    first Once f inside b = alloc_once t start order f movable h
    first Present f inside (inl less) = absurd (omega arith)
    first Present f inside (inr both) = rw (covers_none_before t.size start order f both.1) refl
    first Movable f inside (inl less) = absurd (omega arith)
    first Movable f inside (inr both) = absurd (cc both.0)
    first _ f inside b = refl

-- a free of a frame that is free
pub free_first : (t : Tables) (start order : ℕ) (found : FrameSince) → is_piece t.size start order ≡ true
    → IsLowest (λ f. free_since (frame_at t.frames f)) start (2 ^ order) found
    → IsFirstViolation t.size (violation_in t (Free start order))
    (record { law = InUse; place = found.frame; since = found.since })
free_first t start order found piece low = record {
  is_place = (in_piece t.size start order _ piece low.low low.high).frame_in;
  shows = rw (covers_its t.size start order _ piece low.low low.high) low.since_is;
  is_first = first;
}
  where
    first : (law : Law) (f : ℕ) → IsPlace t.size law f → ComesBefore law f InUse found.frame
        → violation_in t (Free start order) law f ≡ None
    first InUse f inside (inl less) = absurd (omega arith)
    first InUse f inside (inr both) =
        no_violation _ _ (λ e. low.none_below f (covered t.size start order f e).low both.1)
    first _ f inside b = refl

-- an unmovable alloc in zone Movable
pub alloc_movable_first : (t : Tables) (start order place since : ℕ) → is_piece t.size start order ≡ true
    → NoneInUse t start (2 ^ order) → gone_at t start ≡ None → movable_at t start ≡ Some since
    → place ≡ start
    → IsFirstViolation t.size (violation_in t (Alloc start order false))
    (record { law = Movable; place = place; since = since })
alloc_movable_first t start order place since piece h g v same =
    rw same (record {
      is_place = (piece_parts t.size start order piece).start_in;
      shows = rw (covers_start t.size start order piece) v;
      is_first = first;
    })
  where
    first : (law : Law) (f : ℕ) → IsPlace t.size law f → ComesBefore law f Movable start
        → violation_in t (Alloc start order false) law f ≡ None
    first Once f inside b = alloc_once t start order f false h
    first Present f inside b = alloc_present t start order f false g
    first Movable f inside (inl less) = absurd (omega arith)
    first Movable f inside (inr both) = rw (covers_none_before t.size start order f both.1) refl
    first _ f inside b = refl
