use Rattle.std.proofs.Common.{◌≡◌, ℕ, ◌+◌, ◌*◌, List, [], ◌∷◌, slice_get, refl, ap}
use Rattle.hp_units.specs.Memory.{class_index, free_list}
use Rattle.hp_buddy.specs.LinkedLists.{first, list_at}
use Rattle.hp_buddy.specs.Buddy.{BuddyValue}
use Rattle.hp_buddy.proofs.buddy.Buddy.front.Goals as goal

first-at : (xs : List ℕ) → first xs ≡ slice_get xs 0
first-at [] = refl
first-at (x ∷ xs) = refl

pub returns : goal.returns
returns c =
    rw (c.front.ensures, c.area_list.ensures)
    (rw (first-at (list_at c.self.inside.links (5 * c.args.order + class_index c.args.class)))
    (ap (λ (v : BuddyValue). slice_get (free_list v.areas c.args.class c.args.order) 0) c.self.view_is))
