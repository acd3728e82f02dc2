-- Free frames with nothing on the processors' lists are within their layout if their areas are.
use Rattle.std.proofs.Common.{◌≡◌, ℕ, ◌+◌, ◌*◌, List, [], length, get_or, replicate, true, ◌∙◌, ap, subst}
use Rattle.std.proofs.lemmas.List.{length-replicate}
use Rattle.std.proofs.lemmas.Bool.{false≢true}
use Rattle.hp_units.specs.LayoutParts.{LayoutParts}
use Rattle.hp_units.specs.declared.rows.Kind.{Kind}
use Rattle.hp_units.specs.Arithmetic.{pageblock_count}
use Rattle.hp_units.specs.Memory.{FreeAreas, FreeFrames, class_index, plain_kind, pool_index}
use Rattle.hp_units.specs.FreeAreas.{is_on}
use Rattle.hp_units.specs.Boot.{empty_areas, empty_cached}
use Rattle.hp_units.specs.InLayout.{AreFreeAreasOf, AreFreeFramesOf}
use Rattle.hp_units.proofs.Lists.{at_replicate}

-- areas of these lists and these kinds
abbrev pub made : List (List ℕ) → List Kind → FreeAreas
made lists kinds = record { lists = lists; kinds = kinds }

-- areas of equal lists and equal kinds are equal
pub empty-areas_are : (l : LayoutParts) (lists : List (List ℕ)) (kinds : List Kind)
    → lists ≡ replicate (5 * (l.order + 1)) [] → kinds ≡ replicate (pageblock_count l) plain_kind
    → made lists kinds ≡ empty_areas l
empty-areas_are l lists kinds e f = rw (e, f)

-- areas with nothing free are within their layout
pub empty-areas_of : (l : LayoutParts) → AreFreeAreasOf l (empty_areas l)
empty-areas_of l = record {
  lists = length-replicate (5 * (l.order + 1)) [];
  kinds = length-replicate (pageblock_count l) plain_kind;
  free = λ class order first on. absurd (false≢true (subst (λ (xs : List ℕ). is_on first xs ≡ true)
      (at_replicate (5 * (l.order + 1)) (5 * order + class_index class) []) on));
}

-- free frames with areas within the layout and its processors' empty lists are within the layout
pub empty_of : (l : LayoutParts) (fs : FreeFrames) → AreFreeAreasOf l fs.areas → fs.cached ≡ empty_cached l
    → AreFreeFramesOf l fs
empty_of l fs areas cached = record {
  areas = areas;
  lists = ap (λ (lists : List (List ℕ)). length lists) cached ∙ length-replicate (3 * l.cpus) [];
  cached = λ cpu pool frame on. absurd (false≢true (subst (λ (xs : List ℕ). is_on frame xs ≡ true)
      (ap (λ (lists : List (List ℕ)). get_or lists (3 * cpu + pool_index pool) []) cached
      ∙ at_replicate (3 * l.cpus) (3 * cpu + pool_index pool) []) on));
}
