-- One more step in the checks of a commit and the search of a migration.
use Rattle.std.proofs.Common.{◌≡◌, ℕ, suc, ◌+◌, ◌<◌, List, length, get_or, drop, Bool, true, false, cond, ◌&&◌, Option, refl, sym, ◌∙◌, ap, add-one}
use Rattle.std.specs.List.{find, flat_map, list_all}
use Rattle.std.specs.Option.{option_or}
use Rattle.std.proofs.Math.Seq.{drop-cons}
use Rattle.hp_plain.proofs.Scans.{find-flat_step}

-- a test of all entries that are left
pub all-step : {X : Type 0} (p : X → Bool) (xs : List X) (i : ℕ) (d : X) (holds : Bool) → i < length xs
    → p (get_or xs i d) ≡ holds
    → list_all p (drop i xs) ≡ cond holds (list_all p (drop (i + 1) xs)) false
all-step {X} p xs i d holds h e =
    ap (list_all p) (drop-cons xs i d h) ∙ and_cond (p (get_or xs i d)) holds (list_all p (drop (suc i) xs)) e
    ∙ ap (λ (k : ℕ). cond holds (list_all p (drop k xs)) false) (sym (add-one i))
  where
    and_cond : (x y rest : Bool) → x ≡ y → (x && rest) ≡ cond y rest false
    and_cond true true rest f = refl
    and_cond false false rest f = refl
    and_cond true false rest f = absurd cc
    and_cond false true rest f = absurd cc

-- the first number that passes a test among those of the blocks that are left, by the result for
-- the first of these blocks
pub find-flat_item : (p : ℕ → Bool) (f : ℕ → List ℕ) (xs : List ℕ) (i d : ℕ) (found : Option ℕ)
    → i < length xs → d ≡ get_or xs i d → found ≡ find p (f d)
    → find p (flat_map f (drop i xs)) ≡ option_or found (find p (flat_map f (drop (i + 1) xs)))
find-flat_item p f xs i d found h item e =
    rw (find-flat_step p f xs i d h, ← item, ← e)
