-- The runs of cells cover them.
use Rattle.std.proofs.Common.{◌≡◌, ℕ, zero, suc, ◌+◌, ◌<◌, ◌==◌, if◌then◌else◌, List, inl, inr, [], ◌∷◌, ◌++◌, drop, replicate, take, refl, sym, ap, subst, add-one, arith}
use Rattle.std.proofs.lemmas.Bool.{cases_Bool, eqb-true}
use Rattle.std.proofs.lemmas.List.{drop_at, length-replicate, take_at}
use Rattle.hp_svg.specs.Runs.{Covers}
use Rattle.hp_svg.specs.declared.runs.Run.{Run}

-- a run of one cell, and one that a further cell belongs to
abbrev pub new_run : (at mark : ℕ) → Run
new_run at mark = record { at = at; count = 1; mark = mark }

abbrev pub longer : Run → Run
longer run = record run { count = run.count + 1 }

-- a run that has begun, and the runs of the cells after it
abbrev pub runs_after : Run → List ℕ → List Run
runs_after run [] = run ∷ []
runs_after run (mark ∷ cells) =
    if mark == run.mark then runs_after (longer run) cells
    else run ∷ runs_after (new_run (run.at + run.count) mark) cells

abbrev pub runs_from : List ℕ → List Run
runs_from [] = []
runs_from (mark ∷ cells) = runs_after (new_run 0 mark) cells

-- n of one character, and others
take_same : (n mark : ℕ) (cells : List ℕ) → take n (replicate n mark ++ cells) ≡ replicate n mark
take_same n mark cells = take_at (replicate n mark) cells n (length-replicate n mark)

drop_same : (n mark : ℕ) (cells : List ℕ) → drop n (replicate n mark ++ cells) ≡ cells
drop_same n mark cells = drop_at (replicate n mark) cells n (length-replicate n mark)

one_more : (n mark : ℕ) (cells : List ℕ) → replicate n mark ++ mark ∷ cells ≡ replicate (suc n) mark ++ cells
one_more zero mark cells = refl
one_more (suc n) mark cells = ap (λ (xs : List ℕ). mark ∷ xs) (one_more n mark cells)

-- a run that has begun
run_covers : (run : Run) (cells : List ℕ) → 0 < run.count
    → Covers run.at (runs_after run cells) (replicate run.count run.mark ++ cells)
run_covers run [] some = (refl, some, take_same run.count run.mark [], drop_same run.count run.mark [])
run_covers run (mark ∷ cells) some = elim (cases_Bool (mark == run.mark)) [
  | inl same ↦
      let is : mark ≡ run.mark = eqb-true mark run.mark same in
      let text : replicate (run.count + 1) run.mark ++ cells ≡ replicate run.count run.mark ++ mark ∷ cells =
      rw (add-one run.count, is, one_more run.count run.mark cells) in
      rw (same, ← text) (run_covers (longer run) cells (omega arith))
  | inr other ↦ rw other (
    refl,
    some,
    take_same run.count run.mark (mark ∷ cells),
    rw (drop_same run.count run.mark (mark ∷ cells))
        (run_covers (new_run (run.at + run.count) mark) cells (omega arith)),
  )
]

pub cells_covered : (cells : List ℕ) → Covers 0 (runs_from cells) cells
cells_covered [] = refl
cells_covered (mark ∷ cells) = run_covers (new_run 0 mark) cells (omega arith)

-- runs that are these cover the cells
pub covered_by : (runs : List Run) (cells : List ℕ) → runs ≡ runs_from cells → Covers 0 runs cells
covered_by runs cells same = subst (λ (rs : List Run). Covers 0 rs cells) (sym same) (cells_covered cells)
