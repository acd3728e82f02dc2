use Rattle.std.proofs.Common.{◌≡◌, ℕ, ◌+◌, ◌<◌, List, [], ◌∷◌, ◌++◌, length, get_or, take, ap, ◌∙◌, append_assoc, append-nil}
use Rattle.std.specs.List.{flat_map}
use Rattle.std.proofs.lemmas.Grind.{flat_map-append}
use Rattle.std.proofs.lemmas.List.{take_more}
use Rattle.std.proofs.lemmas.List.Concat.{flat_map-cons}
use Rattle.hp_shared.specs.declared.lines.LineEnd.{LineEnd}
use Rattle.hp_commands.specs.Runs.{line_end_text}
use Rattle.hp_commands.proofs.runs.write_processor.Goals as goal

-- the text of one more end of those that were read
ends_more : (xs ys : List LineEnd) (i : ℕ) (x : LineEnd) (before old new : List ℕ)
    → ys ≡ xs → i < length ys → x ≡ get_or ys i x → old ≡ before ++ flat_map line_end_text (take i xs)
    → new ≡ old ++ line_end_text x → new ≡ before ++ flat_map line_end_text (take (i + 1) xs)
ends_more xs ys i x before old new same inside is so_far next =
    let one : flat_map line_end_text (take (i + 1) ys)
    ≡ flat_map line_end_text (take i ys) ++ line_end_text x =
    rw (take_more ys i x inside, ← is, flat_map-append line_end_text (take i ys) (x ∷ []))
    (ap (λ (t : List ℕ). flat_map line_end_text (take i ys) ++ t)
    (flat_map-cons line_end_text x [] ∙ append-nil (line_end_text x))) in
    rw (next, so_far, ← same, one)
    (append_assoc before (flat_map line_end_text (take i ys)) (line_end_text x))

pub loop-end-preserved : goal.loop-end-preserved
loop-end-preserved c =
    ends_more c.args.ends.now c.as_slice-end-items.result.now c.loop-end.end-index _ _ _ _
    c.as_slice-end-items.ensures c.loop-end-test.true c.end-item.is c.loop-end.invariant
    c.in_ok-write_line_end.ensures
