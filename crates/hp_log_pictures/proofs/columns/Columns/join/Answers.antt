use Rattle.std.proofs.Common.{◌≡◌, ℕ, ◌*◌, ◌/◌, ◌<◌, ◌≤◌, List, length, get_or, ap, arith, subst, ◌∙◌}
use Rattle.hp_log_pictures.specs.Columns.{Sampled}
use Rattle.hp_log_pictures.proofs.Sampling.{at_joined}
use Rattle.hp_log_pictures.proofs.columns.Columns.join.Goals as goal

pub returns-clause-kept : goal.returns-clause-kept
returns-clause-kept c =
    let many : length c.self.inside.peaks.items ≡ 1024 =
    ap (λ (s : Sampled). length s.peaks) c.self.view_is ∙ c.requires.many in
    let whole : length c.self.inside.peaks.items * c.self.inside.width ≡ 1024 * c.self.inside.width =
    ap (λ (n : ℕ). n * c.self.inside.width) many in
    let kept : (k : ℕ) → k < 1024
    → get_or c.self.inside.peaks.items k 0 ≤ get_or c.in_ok-peaks.peaks.items (k / 2) 0 =
    subst
    (λ (xs : List ℕ). (k : ℕ) → k < 1024 → get_or xs k 0 ≤ get_or c.in_ok-peaks.peaks.items (k / 2) 0)
    c.as_slice-2.ensures.value c.in_ok-peaks.ensures.kept in
    rw (← c.self.view_is) (λ e low. at_joined c.self.inside.peaks.items c.in_ok-peaks.peaks.items
    c.self.inside.width e 1024 (omega (arith, c.self.invariant.1))
    (omega (arith, c.self.invariant.0, whole)) kept)
