-- The lines of parts, one more after another.
use Rattle.std.proofs.Common.{◌≡◌, ℕ, ◌+◌, ◌<◌, List, [], ◌∷◌, ◌++◌, length, get_or, drop, ap, sym, ◌∙◌, append_assoc, append-nil, add-zero, arith}
use Rattle.std.proofs.lemmas.List.{drop_more}
use Rattle.hp_schedules.specs.declared.tally.Ending.{Ending}
use Rattle.hp_schedules.specs.Schedules.{Setting}
use Rattle.hp_text.specs.State.{newline}
use Rattle.hp_parts.specs.Heads.{SearchValue, head_line}
use Rattle.hp_parts.specs.Texts.{begun_lines, end_line, end_lines}

-- an end more after others
pub end_lines_push : (names : List (List ℕ)) (g : Setting) (number : ℕ) (ends : List Ending) (e : Ending)
    → end_lines names g number (ends ++ e ∷ [])
    ≡ end_lines names g number ends ++ (end_line names g (number + length ends) e ++ newline)
end_lines_push names g number [] e = rw (append-nil, add-zero)
end_lines_push names g number (x ∷ ends) e =
    let next : number + 1 + length ends ≡ number + length (x ∷ ends) = omega arith in
    ap (λ (l : List ℕ). (end_line names g number x ++ newline) ++ l)
    (end_lines_push names g (number + 1) ends e)
    ∙ (sym (append_assoc (end_line names g number x ++ newline) (end_lines names g (number + 1) ends)
    (end_line names g (number + 1 + length ends) e ++ newline))
    ∙ ap (λ (n : ℕ). ((end_line names g number x ++ newline) ++ end_lines names g (number + 1) ends)
    ++ (end_line names g n e ++ newline)) next)

-- an end is written, and others are still to be
pub end_written : (names : List (List ℕ)) (g : Setting) (ends : List Ending) (index : ℕ) (e : Ending)
    (now new whole : List ℕ)
    → index < length ends → e ≡ get_or ends index e
    → now ++ end_lines names g (index + 1) (drop index ends) ≡ whole
    → new ≡ now ++ (end_line names g (index + 1) e ++ newline)
    → new ++ end_lines names g (index + 1 + 1) (drop (index + 1) ends) ≡ whole
end_written names g ends index e now new whole lt is so_far more =
    rw (more, append_assoc now) (rw (drop_more ends index e lt, ← is) at so_far)

-- an end more in a part
pub begun_lines_push : (names : List (List ℕ)) (g : Setting) (s : SearchValue) (number named : ℕ)
    (ends : List Ending) (e : Ending)
    → begun_lines names g s number named (ends ++ e ∷ [])
    ≡ begun_lines names g s number named ends ++ (end_line names g (length ends + 1) e ++ newline)
begun_lines_push names g s number named ends e =
    let head : List ℕ = head_line s number named ++ newline in
    let next : 1 + length ends ≡ length ends + 1 = omega arith in
    rw (end_lines_push names g 1 ends e, next) (sym (append_assoc head (end_lines names g 1 ends) _))
