-- Frames that move between the free areas and the processors' lists stay in at most one place.
use Rattle.std.proofs.Common.{◌≡◌, ◌≢◌, ℕ, ◌+◌, ◌*◌, ◌<◌, ◌≤◌, List, [], ◌∷◌, ◌++◌, true, false, refl, sym, ◌∙◌, ap, subst, arith, inl, inr, ◌==◌, ne_eqb}
use Rattle.std.specs.Prelude.{replicate, sum_by}
use Rattle.std.proofs.lemmas.List.{length-replicate}
use Rattle.std.proofs.lemmas.List.Folds.{sum_by-replicate}
use Rattle.std.proofs.lemmas.Bool.{cases_lt, cases_eq, cond-false, false_from_ne_true}
use Rattle.hp_units.specs.declared.rows.Pool.{Pool}
use Rattle.hp_units.specs.LayoutParts.{LayoutParts}
use Rattle.hp_units.specs.Arithmetic.{frame_count}
use Rattle.hp_units.specs.FreeAreas.{is_on}
use Rattle.hp_units.specs.Placement.{covered}
use Rattle.hp_buddy.specs.Buddy.{BuddyValue, AreApart, MayBeGiven, HasBlockMore}
use Rattle.hp_units.proofs.Places.{covered-in, covered-out}
use Rattle.hp_buddy.proofs.Linked.{AreDistinct}
use Rattle.hp_buddy.specs.Cpus.{CpusValue, AreTogether, MayBePut, list_of, with_list_of, places_in, places_among, one_at}
use Rattle.hp_buddy.proofs.CpuCounts.{HasLists, times, times-on, times-cons, times-push, one-self, distinct, list_of-le, with_list_of-places, with_list_of-size}

-- ---- one frame

-- a frame isn't another one
pub one-other : (f o : ℕ) → f ≢ o → one_at f o ≡ 0
one-other f o ne = cond-false (f == o) 1 0 (ne_eqb f o ne)

-- a single frame is a block of order 0
pub covered-one : (o f : ℕ) → covered o 0 f ≡ one_at f o
covered-one o f = grind (arith, cases_lt, covered-out, one-other, covered-in, one-self)

-- ---- a frame less, and a frame more

-- a frame left its place, and may be put elsewhere
pub record IsOut (c d : CpusValue) (b e : BuddyValue) (f : ℕ) : Type 0 where
  pub together : AreTogether d e
  pub frame : MayBePut d e f
  pub places : (o : ℕ) → places_among b.areas c o ≡ places_among e.areas d o + one_at f o

-- a frame came to a place
pub record IsIn (c d : CpusValue) (b e : BuddyValue) (f : ℕ) : Type 0 where
  pub together : AreTogether d e
  pub places : (o : ℕ) → places_among e.areas d o ≡ places_among b.areas c o + one_at f o

-- the frame left a processor's list
pub list-out : (c d : CpusValue) (b : BuddyValue) (cpu : ℕ) (pool : Pool) (f : ℕ) (xs : List ℕ)
    → AreTogether c b → cpu < c.layout.cpus → d ≡ with_list_of c cpu pool xs
    → ((o : ℕ) → times o (list_of c cpu pool) ≡ times o xs + one_at f o) → IsOut c d b b f
list-out c d b cpu pool f xs h low is parts =
    let fewer : (o : ℕ) → places_in c o ≡ places_in (with_list_of c cpu pool xs) o + one_at f o =
    λ o. omega (arith, with_list_of-places c cpu pool xs o low h.lists, parts o) in
    rw is (record {
      together = grind (arith, with_list_of-size);
      frame =
          record {
            within = inside c b f h (omega (arith, fewer f, one-self f f refl));
            nowhere = omega (arith, h.once f, fewer f, one-self f f refl);
          };
      places = λ o. omega (arith, fewer o);
    })
  where
    inside : (c : CpusValue) (b : BuddyValue) (f : ℕ) → AreTogether c b → 1 ≤ places_in c f
        → f < frame_count c.layout
    inside c b f h some = grind (arith, cases_lt)

-- a frame that was nowhere and comes to a place is in at most one
once-more : (places : ℕ → ℕ) (f o : ℕ) → places f ≡ 0 → places o ≤ 1 → places o + one_at f o ≤ 1
once-more places f o none few = grind (arith, cases_eq, one-self, one-other)

-- the frame came to a processor's list
pub list-in : (c d : CpusValue) (b : BuddyValue) (cpu : ℕ) (pool : Pool) (f : ℕ) (xs : List ℕ)
    → AreTogether c b → MayBePut c b f → cpu < c.layout.cpus → d ≡ with_list_of c cpu pool xs
    → ((o : ℕ) → times o xs ≡ times o (list_of c cpu pool) + one_at f o) → IsIn c d b b f
list-in c d b cpu pool f xs h may low is parts =
    let more : (o : ℕ) → places_in (with_list_of c cpu pool xs) o ≡ places_in c o + one_at f o =
    λ o. omega (arith, with_list_of-places c cpu pool xs o low h.lists, parts o) in
    grind (arith, with_list_of-size, one-other, once-more)

-- the frame left the free areas
pub area-out : (c : CpusValue) (b e : BuddyValue) (f : ℕ) → AreTogether c b → e.layout ≡ b.layout
    → AreApart e.layout e.areas → MayBeGiven e.layout e.areas 0 f → HasBlockMore b.areas e.areas 0 f
    → IsOut c c b e f
area-out c b e f h same apart block more = grind (arith, covered-one, one-self)

-- ---- what calls need

-- the free areas of one layout
pub areas-apart : (c : CpusValue) (b : BuddyValue) → AreTogether c b → AreApart b.layout b.areas
areas-apart c b h = subst (λ (l : LayoutParts). AreApart l b.areas) (sym h.layout) h.areas

-- no frame is on two lists
pub listed_once : (c : CpusValue) (b : BuddyValue) → AreTogether c b → (o : ℕ) → places_in c o ≤ 1
listed_once c b h o = omega (arith, h.once o)

-- a frame that is nowhere is not on this list
pub off_list_of : (c : CpusValue) (cpu : ℕ) (pool : Pool) (f : ℕ) → HasLists c → cpu < c.layout.cpus
    → places_in c f ≡ 0 → is_on f (list_of c cpu pool) ≡ false
off_list_of c cpu pool f size low none = grind (arith, false_from_ne_true, times-on, list_of-le)

-- a list has no frame twice
pub distinct_list_of : (c : CpusValue) (cpu : ℕ) (pool : Pool) → HasLists c → cpu < c.layout.cpus
    → ((o : ℕ) → places_in c o ≤ 1) → AreDistinct (list_of c cpu pool)
distinct_list_of c cpu pool size low once =
    distinct (list_of c cpu pool) (λ o. omega (arith, once o, list_of-le c cpu pool o low size))

-- a frame on a list is one of the layout
pub frame_of_list : (c : CpusValue) (cpu : ℕ) (pool : Pool) (f : ℕ) → HasLists c → cpu < c.layout.cpus
    → ((o : ℕ) → frame_count c.layout ≤ o → places_in c o ≡ 0)
    → is_on f (list_of c cpu pool) ≡ true → f < frame_count c.layout
frame_of_list c cpu pool f size low within on = elim (cases_lt f (frame_count c.layout)) [
  | inl inside ↦ inside
  | inr past ↦
      absurd
      (omega (arith, within f past, times-on f (list_of c cpu pool) on, list_of-le c cpu pool f low size))
]

-- how often frames are on a list with one more in front, or at the back
pub front-times : (xs ys : List ℕ) (f : ℕ) → xs ≡ f ∷ ys → (o : ℕ) → times o xs ≡ times o ys + one_at f o
front-times xs ys f is o = ap (λ (zs : List ℕ). times o zs) is ∙ omega (arith, times-cons o f ys)

pub back-times : (xs ys : List ℕ) (f : ℕ) → xs ≡ ys ++ f ∷ [] → (o : ℕ) → times o xs ≡ times o ys + one_at f o
back-times xs ys f is o = ap (λ (zs : List ℕ). times o zs) is ∙ times-push o f ys

-- ---- nothing is cached

-- empty lists have no frame
none-places : (count f : ℕ) → sum_by (λ (xs : List ℕ). times f xs) (replicate count []) ≡ 0
none-places count f = sum_by-replicate (λ (xs : List ℕ). times f xs) count [] ∙ omega arith

-- empty lists beside any free areas of the layout
pub empty-together : (l : LayoutParts) (cached : List (List ℕ)) → cached ≡ replicate (3 * l.cpus) []
    → (b : BuddyValue) → b.layout ≡ l → AreApart b.layout b.areas
    → AreTogether (record { layout = l; cached = cached }) b
empty-together l cached is b same apart =
    rw is (record {
      layout = same;
      lists = length-replicate (3 * l.cpus) [];
      areas = subst (λ (k : LayoutParts). AreApart k b.areas) same apart;
      within = λ f past. none-places (3 * l.cpus) f;
      once = λ f. omega (arith, none-places (3 * l.cpus) f, apart.once f);
    })
