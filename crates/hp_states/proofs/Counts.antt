-- The counts of ends, as a list.
use Rattle.std.proofs.Common.{◌≡◌, ℕ, zero, suc, ◌≤◌, List, [], ◌∷◌, length, get_or, Some, slice_get, ap, arith}
use Rattle.std.proofs.lemmas.List.{get_or_past, length-map}
use Rattle.std.proofs.lemmas.Option.{same_Some}
use Rattle.hp_schedules.specs.Shares.{AreSince}
use Rattle.hp_states.specs.Frames.{counts_of}
use Rattle.hp_schedules.specs.declared.tally.Ending.{Ending}

pub count_read : (ends : List Ending) (k : ℕ) (e : Ending) → slice_get ends k ≡ Some e
    → get_or (counts_of ends) k 0 ≡ e.count
count_read [] k e h = absurd cc
count_read (f ∷ ends) zero e h = ap (λ (g : Ending). g.count) (same_Some f e h)
count_read (f ∷ ends) (suc k) e h = count_read ends k e h

pub counts_many : (ends : List Ending) → length (counts_of ends) ≡ length ends
counts_many ends = length-map ends (λ (e : Ending). e.count)

pub count_past : (ends : List Ending) (k : ℕ) → length ends ≤ k → get_or (counts_of ends) k 0 ≡ 0
count_past ends k past = get_or_past (counts_of ends) k 0 (omega (arith, past, counts_many ends))

-- nothing is counted since now
pub since_now : (ends : List Ending) → AreSince (counts_of ends) ends []
since_now ends = grind (arith, count_read)
