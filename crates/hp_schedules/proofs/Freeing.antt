-- Lines that free no frame of an earlier KernelAlloc.
use Rattle.std.proofs.Common.{◌≡◌, ℕ, zero, suc, true, List, [], ◌∷◌, ◌++◌, take, drop, ap, refl, sym, arith}
use Rattle.std.specs.List.{list_all}
use Rattle.std.specs.Prelude.{flat_map}
use Rattle.std.proofs.lemmas.List.{take_all}
use Rattle.hp_schedules.specs.Cursors.{frames_named}
use Rattle.hp_schedules.specs.Scripts.{names_no_frame}
use Rattle.hp_schedules.specs.declared.scripts.OwnWork.TheVariants.{Latest, Free}
use Rattle.hp_schedules.specs.declared.scripts.Step.{Step}
use Rattle.hp_schedules.specs.declared.scripts.Step.TheVariants.{Own}
use Rattle.hp_schedules.proofs.Agreeing.{drop_passes}

named_none : (frames : List ℕ) (lines : List Step) → list_all names_no_frame lines ≡ true
    → flat_map (frames_named frames) lines ≡ []
named_none frames [] none = refl
named_none frames (Own (Free nth) ∷ lines) none = absurd cc
named_none frames (Own (Latest work) ∷ lines) none = named_none frames lines none
named_none frames (line ∷ lines) none = named_none frames lines none

-- so the numbers are those of the lines before
pub named_within : (frames : List ℕ) (n k : ℕ) (lines : List Step)
    → list_all names_no_frame (drop n lines) ≡ true
    → flat_map (frames_named frames) (drop k (take n lines)) ≡ flat_map (frames_named frames) (drop k lines)
named_within frames n k [] none = rw (take_all {A = Step} n [] (omega arith))
named_within frames zero zero (line ∷ lines) none = sym (named_none frames (line ∷ lines) none)
named_within frames zero (suc k) (line ∷ lines) none =
    sym (named_none frames (drop k lines) (drop_passes names_no_frame (suc k) (line ∷ lines) none))
named_within frames (suc n) zero (line ∷ lines) none =
    ap (λ (ns : List ℕ). frames_named frames line ++ ns) (named_within frames n zero lines none)
named_within frames (suc n) (suc k) (line ∷ lines) none = named_within frames n k lines none
