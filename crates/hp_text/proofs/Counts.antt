-- The counts of one order more.
use Rattle.std.proofs.Common.{◌≡◌, ℕ, ◌+◌, List, ◌++◌, sym, ap, ◌∙◌, add-one, append_assoc}
use Rattle.hp_units.specs.Memory.{FreeAreas}
use Rattle.hp_text.specs.Names.{Zone}
use Rattle.hp_text.specs.Zones.{count_text, counts_below, zone_count}

-- the counts so far and the next one are the counts of one order more
pub counts_more : (a : FreeAreas) (zone : Zone) (order count : ℕ) (old before after : List ℕ)
    → before ≡ old ++ counts_below a zone order → count ≡ zone_count a zone order
    → after ≡ before ++ count_text count → after ≡ old ++ counts_below a zone (order + 1)
counts_more a zone order count old before after so_far counted wrote =
    wrote ∙ ap (λ (bytes : List ℕ). bytes ++ count_text count) so_far
    ∙ ap (λ (n : ℕ). (old ++ counts_below a zone order) ++ count_text n) counted
    ∙ append_assoc old (counts_below a zone order) (count_text (zone_count a zone order))
    ∙ ap (λ (n : ℕ). old ++ counts_below a zone n) (sym (add-one order))
