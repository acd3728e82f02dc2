use Rattle.std.proofs.Common.{◌≡◌, ℕ, ◌+◌, ◌*◌, List, [], ◌∷◌, slice_get, refl, ap}
use Rattle.hp_units.specs.Memory.{pool_index}
use Rattle.hp_buddy.specs.LinkedLists.{first, list_at}
use Rattle.hp_buddy.specs.Cpus.{CpusValue, list_of}
use Rattle.hp_buddy.proofs.cpus.Cpus.front.Goals as goal

first-at : (xs : List ℕ) → first xs ≡ slice_get xs 0
first-at [] = refl
first-at (x ∷ xs) = refl

pub returns : goal.returns
returns c =
    rw (c.front.ensures, c.cpu_list.ensures)
    (rw (first-at (list_at c.self.inside.links (3 * c.args.cpu + pool_index c.args.pool)))
    (ap (λ (v : CpusValue). slice_get (list_of v c.args.cpu c.args.pool) 0) c.self.view_is))
