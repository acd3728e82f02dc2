-- What the calls make of their turns: the definitions' outcomes, and the bounds of what is noted.
use Rattle.std.proofs.Common.{◌≡◌, ◌≢◌, ℕ, ◌+◌, ◌*◌, ◌<◌, List, [], ◌∷◌, length, true, false, cond, Option, Some, None, IfSome, MatchOption, nat_le, ap, arith}
use Rattle.std.proofs.lemmas.Bool.{cond-true, cond-false, lt-leb}
use Rattle.std.proofs.Math.Nat.{add-mul}
use Rattle.std.proofs.lemmas.List.{nil_from_length, get_or-set_other}
use Rattle.hp_units.specs.declared.rows.Kind.{Kind}
use Rattle.hp_units.specs.declared.rows.Pool.{Pool}
use Rattle.hp_units.specs.declared.rows.Pool.TheVariants.{Nu, Nm, Mm}
use Rattle.hp_units.specs.declared.rows.Zone.{Zone}
use Rattle.hp_units.specs.LayoutParts.{LayoutParts}
use Rattle.hp_units.specs.Arithmetic.{pageblock_of}
use Rattle.hp_units.specs.Memory.{FreeFrames, cached_list, with_cached_list, kind_of, pool_index, pool_of}
use Rattle.hp_units.specs.FreeAreas.{give_block}
use Rattle.hp_units.specs.ProcessorLists.{refilled, take_one, put_one, spilled, drain_pool, drain_lists}
use Rattle.hp_tape.specs.Bounds.{batch_bound, take_one_from}
use Rattle.hp_buddy.specs.Buddy.{BuddyValue}
use Rattle.hp_buddy.specs.Cpus.{CpusValue, AreTogether, MayBePut, list_of, with_list_of, places_among, one_at}
use Rattle.hp_buddy.proofs.Together.{IsOut, list-out, front-times}
use Rattle.hp_buddy.proofs.Refills.{taken-some, taken-none}

-- ---- one frame out

-- what a front frame that was taken, or none, makes of the frames
pub record IsPopped (c d : CpusValue) (b : BuddyValue) (o : Option ℕ) : Type 0 where
  pub together : AreTogether d b
  pub frame : IfSome o (MayBePut d b)
  pub places : IfSome o
      (λ f. (other : ℕ) → places_among b.areas c other ≡ places_among b.areas d other + one_at f other)

-- the same, by what a list gave
pub popped : (c d : CpusValue) (b : BuddyValue) (cpu : ℕ) (pool : Pool) (o : Option ℕ) (P : Type 0)
    → AreTogether c b → cpu < c.layout.cpus
    → MatchOption o (list_of c cpu pool ≡ []) (λ f. list_of c cpu pool ≡ f ∷ list_of d cpu pool)
    → MatchOption o ((d ≡ c) × P) (λ _. Unit {0})
    → d ≡ with_list_of c cpu pool (list_of d cpu pool) → IsPopped c d b o
popped c d b cpu pool None P h low split none is = grind arith
popped c d b cpu pool (Some f) P h low split none is =
    let out : IsOut c d b b f =
    list-out c d b cpu pool f (list_of d cpu pool) h low is
    (front-times (list_of c cpu pool) (list_of d cpu pool) f split) in
    record { together = out.together; frame = out.frame; places = out.places }

-- the definition's frame is the one that the list gave
pub taken_one : (l : LayoutParts) (fs gs new : FreeFrames) (cpu : ℕ) (pool : Pool) (o : Option ℕ)
    (rest : List ℕ)
    → gs ≡ refilled l fs cpu pool
    → MatchOption o (cached_list gs cpu pool ≡ []) (λ f. cached_list gs cpu pool ≡ f ∷ rest)
    → new ≡ with_cached_list gs cpu pool rest
    → MatchOption o (take_one l fs cpu pool ≡ None)
    (λ f. take_one l fs cpu pool ≡ Some (record { free = new; frame = f }))
taken_one l fs gs new cpu pool None rest is split popped = taken-none l fs gs cpu pool is split
taken_one l fs gs new cpu pool (Some f) rest is split popped =
    taken-some l fs gs new cpu pool f rest is split popped

-- the same places counted in another way
pub same_places : (o : Option ℕ) (p q r : ℕ → ℕ) → ((other : ℕ) → p other ≡ q other)
    → IfSome o (λ f. (other : ℕ) → p other ≡ r other + one_at f other)
    → IfSome o (λ f. (other : ℕ) → q other ≡ r other + one_at f other)
same_places o p q r same h = grind arith

-- the bound if the list has a frame, and if it is empty
pub bound-some : (l : LayoutParts) (xs : List ℕ) → 0 < length xs → take_one_from l xs ≡ 1
bound-some l xs some = grind arith

pub bound-none : (l : LayoutParts) (xs : List ℕ) → length xs ≡ 0 → take_one_from l xs ≡ batch_bound l
bound-none l xs none = ap (λ (ys : List ℕ). take_one_from l ys) (nil_from_length xs none)

-- ---- one frame back

-- a frame of an isolated pageblock goes to the areas
pub put_one-isolated : (l : LayoutParts) (fs : FreeFrames) (cpu : ℕ) (zone : Zone) (f at : ℕ) (kind : Kind)
    → at ≡ pageblock_of l f → kind ≡ kind_of fs.areas at → kind.isolated ≡ true
    → put_one l fs cpu zone f ≡ record fs { areas = give_block l fs.areas zone f 0 }
unfolding put_one
put_one-isolated l fs cpu zone f at kind at_is is isolated = grind (arith, cond-true)

-- any other frame goes to its list
pub put_one-cached : (l : LayoutParts) (fs : FreeFrames) (cpu : ℕ) (zone : Zone) (f at : ℕ) (kind : Kind)
    (pool : Pool)
    → at ≡ pageblock_of l f → kind ≡ kind_of fs.areas at → kind.isolated ≡ false
    → pool ≡ pool_of zone kind.mobility
    → put_one l fs cpu zone f
    ≡ spilled l (with_cached_list fs cpu pool (f ∷ cached_list fs cpu pool)) cpu pool
unfolding put_one
put_one-cached l fs cpu zone f at kind pool at_is is cached pool_is = grind (arith, cond-false)

-- the bound of a list that is past its mark with one more
pub put_bound : (l : LayoutParts) (size : ℕ) → l.high < size + 1
    → cond (nat_le (size + 1) l.high) 1 (batch_bound l) ≡ batch_bound l
put_bound l size past = grind (arith, cond-false, lt-leb)

-- ---- a drain

-- a list of another pool stays
pub other_list : (l : LayoutParts) (fs gs : FreeFrames) (cpu : ℕ) (pool other : Pool)
    → gs ≡ drain_pool l cpu fs pool → pool_index other ≢ pool_index pool
    → cached_list gs cpu other ≡ cached_list fs cpu other
other_list l fs gs cpu pool other is apart = grind (arith, get_or-set_other)

-- the three lists one after another
pub drained : (l m n : LayoutParts) (fs gs hs js : FreeFrames) (cpu : ℕ) → m ≡ l → n ≡ l
    → gs ≡ drain_pool l cpu fs Nu → hs ≡ drain_pool m cpu gs Nm → js ≡ drain_pool n cpu hs Mm
    → js ≡ drain_lists l fs cpu
unfolding drain_lists
drained l m n fs gs hs js cpu same other first second third = rw (third, other, second, same, first)

-- `each` deltas for each frame of three lists
pub three_lists : (nu nm mm each : ℕ) → nu * each + nm * each + mm * each ≡ (nu + nm + mm) * each
three_lists nu nm mm each = rw (← add-mul nu nm each, ← add-mul (nu + nm) mm each)
