-- A row or a text that is read from its buffer.
use Rattle.std.proofs.Common.{◌≡◌, ◌⊎◌, inl, inr, ℕ, ◌<◌, ◌≤◌, List, length, get_or, Option, None, Some, slice_get, arith}
use Rattle.std.specs.List.{PartBy}
use Rattle.std.specs.Option.{IfNone, IfSome}
use Rattle.hp_states.specs.Texts.{AreTextsFrom, start_of, texts_from}
use Rattle.hp_states.proofs.Joined.{LiesWithin, lies_within, text_at}

-- the part of the list that is read there is the row
pub row_shown : {X R : Type 0} (now : R → List X) (o : Option R) (rows : List (List X)) (place start : ℕ)
    (all numbers : List X) (ends shown : List ℕ)
    → texts_from all 0 ends ≡ rows → numbers ≡ all → shown ≡ ends → place < length shown
    → start ≡ start_of 0 shown place → PartBy now numbers start (get_or shown place 0) o
    → IfSome o (λ row. slice_get rows place ≡ Some (now row))
row_shown now None rows place start all numbers ends shown rows_are all_is ends_are within start_is part = tt
row_shown now (Some row) rows place start all numbers ends shown rows_are all_is ends_are within start_is
    part =
    rw (← rows_are, ← all_is, ← ends_are, part.0.2, start_is) (text_at numbers 0 shown place within)

-- and there is such a part
pub row_there : {X R : Type 0} (now : R → List X) (o : Option R) (count place start : ℕ)
    (all numbers : List X) (ends shown : List ℕ)
    → AreTextsFrom (length all) 0 ends → numbers ≡ all → shown ≡ ends → place < length shown
    → start ≡ start_of 0 shown place → PartBy now numbers start (get_or shown place 0) o
    → IfNone o (count ≤ place)
row_there now (Some row) count place start all numbers ends shown are all_is ends_are within start_is part =
    tt
row_there now None count place start all numbers ends shown are all_is ends_are within start_is part =
    absurd (outside part.0)
  where
    lies : LiesWithin (length numbers) start (get_or shown place 0)
    lies =
        rw (start_is, all_is)
        (lies_within (length all) 0 shown place (rw ends_are are) within)

    outside : (get_or shown place 0 < start) ⊎ (length numbers < get_or shown place 0) → ⊥
    outside (inl back) = omega (arith, lies.ordered)
    outside (inr past) = omega (arith, lies.within)
