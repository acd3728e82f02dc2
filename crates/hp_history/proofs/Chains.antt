-- One volume more of a list of which each follows those before it, and the histories of such a list.
use Rattle.std.proofs.Common.{◌≡◌, ℕ, suc, ◌+◌, ◌≤◌, ◌<◌, List, [], ◌∷◌, ◌++◌, length, take, Some, slice_get, refl, subst, ◌∙◌, arith, inl, inr}
use Rattle.std.specs.Prelude.{fold}
use Rattle.std.proofs.lemmas.List.{take-append-le, take_all}
use Rattle.std.proofs.lemmas.List.Folds.{fold-map}
use Rattle.std.proofs.lemmas.List.Sums.{fold-append, sum_by-append, sum_by-cons}
use Rattle.std.proofs.lemmas.Option.{slice_get_within}
use Rattle.hp_units.specs.Boot.{boot_memory}
use Rattle.hp_units.specs.Memory.{Memory}
use Rattle.hp_units.specs.LayoutParts.{LayoutParts}
use Rattle.hp_units.specs.History.{IsLegal, value_of}
use Rattle.hp_laws.specs.Seals.{AreLegal, value_of_all}
use Rattle.hp_laws.proofs.Lists.{get_push_cases}
use Rattle.hp_laws.proofs.SealedNets.{count_of_all}
use Rattle.hp_history.specs.Volumes.{FollowsVolumes, IsChain, histories_of, records_in, state_after}
use Rattle.hp_history.specs.declared.volumes.Volume.{Volume}
use Rattle.hp_history.proofs.Names.{Record}

-- ---- one volume more

pub count_more : (volumes : List Volume) (v : Volume)
    → records_in (volumes ++ v ∷ []) ≡ records_in volumes + length v.records
count_more volumes v = grind (arith, sum_by-append, sum_by-cons)

pub state_more : (l : LayoutParts) (volumes : List Volume) (v : Volume)
    → state_after l (volumes ++ v ∷ []) ≡ value_of l (state_after l volumes) v.records
state_more l volumes v = grind (arith, fold-append)

pub chain_more : (l : LayoutParts) (volumes : List Volume) (v : Volume) → IsChain l volumes
    → FollowsVolumes l volumes v → IsChain l (volumes ++ v ∷ [])
chain_more l volumes v chain next at x e =
    elim (get_push_cases volumes v x at e) [
      | inl there ↦ (let lt : at < length volumes = slice_get_within volumes at x there in
          let le : at ≤ length volumes = omega arith in
          rw (take-append-le at volumes (v ∷ []) le) (chain at x there))
      | inr last ↦ (let le : at ≤ length volumes = omega arith in
          let whole : take at (volumes ++ v ∷ []) ≡ volumes =
          take-append-le at volumes (v ∷ []) le ∙ take_all at volumes (omega arith) in
          rw (whole, ← last.1) next)
    ]

-- ---- the histories of volumes

-- volumes of which each stands over the state that those before it lead to
histories_from : (l : LayoutParts) (s : Memory) (before : ℕ) (volumes : List Volume)
    → ((at : ℕ) (v : Volume) → slice_get volumes at ≡ Some v
    → IsLegal l (fold (λ t x. value_of l t x.records) s (take at volumes))
    (before + records_in (take at volumes)) v.records)
    → AreLegal l s before (histories_of volumes)
histories_from l s before [] each = tt
histories_from l s before (v ∷ volumes) each =
    let nothing : records_in [] ≡ 0 = refl in
    let none : before + records_in [] ≡ before = omega (arith, nothing) in (
      subst (λ (n : ℕ). IsLegal l s n v.records) none (each 0 v refl),
      histories_from l (value_of l s v.records) (before + length v.records) volumes
          (λ at x e. let sum : before + records_in (v ∷ take at volumes)
          ≡ (before + length v.records) + records_in (take at volumes) =
          omega (arith, sum_by-cons (λ (y : Volume). length y.records) v (take at volumes)) in
          rw (← sum) (each (suc at) x e)),
    )

-- those of a chain are legal one after another
pub chain_legal : (l : LayoutParts) (volumes : List Volume) → IsChain l volumes
    → AreLegal l (boot_memory l) 0 (histories_of volumes)
chain_legal l volumes chain =
    histories_from l (boot_memory l) 0 volumes (λ at v e. let none : records_in (take at volumes)
    ≡ 0 + records_in (take at volumes) = omega arith in
    subst (λ (n : ℕ). IsLegal l (state_after l (take at volumes)) n v.records) none (chain at v e).legal)

-- they lead to the same state, and have as many records
pub histories_value : (l : LayoutParts) (volumes : List Volume)
    → value_of_all l (boot_memory l) (histories_of volumes) ≡ state_after l volumes
histories_value l volumes = grind (arith, fold-map, Record)

pub histories_count : (volumes : List Volume) → count_of_all (histories_of volumes) ≡ records_in volumes
histories_count [] = refl
histories_count (v ∷ volumes) =
    rw (histories_count volumes, ← (sum_by-cons (λ (x : Volume). length x.records) v volumes))
