-- How many lines there are, one byte further.
use Rattle.std.proofs.Common.{◌≡◌, ℕ, ◌+◌, ◌<◌, ◌≤◌, Bool, true, false, List, length, get_or, take, count_by, slice_get, Some, arith}
use Rattle.std.proofs.lemmas.List.Sums.{count_by_more_no, count_by_more_yes}
use Rattle.std.proofs.lemmas.Option.{slice_get-get_or}
use Rattle.hp_check.specs.JsonPositions.{AreSignLines, KeepSignLines, is_newline, is_space, line_after}

pub line_counted : (input : List ℕ) (place byte line new : ℕ) → place < length input
    → byte ≡ get_or input place 0 → line ≡ 1 + count_by is_newline (take place input)
    → new ≡ line_after line byte
    → new ≡ 1 + count_by is_newline (take (place + 1) input)
line_counted input place byte line new lt here counted is = grind (arith, count_by_more_yes, count_by_more_no)

pub bound_more : (line byte place new : ℕ) → line ≤ place + 1 → new ≡ line_after line byte
    → new ≤ place + 1 + 1
bound_more line byte place new so_far is = grind arith

-- the lines that are noted have more than white space
pub signs_more : (input old new : List ℕ) (line i b : ℕ) (is_noted : Bool)
    → i < length input → b ≡ get_or input i 0 → line ≡ 1 + count_by is_newline (take i input)
    → AreSignLines input old → (is_noted ≡ true → is_space b ≡ false) → KeepSignLines is_noted line old new
    → AreSignLines input new
signs_more input old new line i b is_noted lt at counted so_far sign keeps =
    let here : slice_get input i ≡ Some b = rw at (slice_get-get_or input i 0 lt) in
    keeps input so_far (λ noted.
    record { at = i; byte = b; here = here; sign = sign noted; counted = counted })
