use Rattle.std.proofs.Common.{◌≡◌, ℕ, ◌+◌, ◌-◌, ◌/◌, ◌<◌, ◌≤◌, length, get_or, set, arith, subst, sym}
use Rattle.hp_log_pictures.specs.Columns.{Sampled}
use Rattle.hp_log_pictures.proofs.Sampling.{at_raise}
use Rattle.hp_log_pictures.proofs.columns.Columns.raise_last.Goals as goal

pub returns-clause-held : goal.returns-clause-held
returns-clause-held c =
    let some : 0 < c.self.inside.room =
    subst (λ (s : Sampled). 0 < s.room) (sym c.self.view_is) c.requires.room in
    let last : c.len-last.result - 1 ≡ length c.self.inside.peaks.items - 1 =
    omega (arith, c.len-last.ensures, c.self.inside.peaks.ok.0) in
    subst
    (λ (s : Sampled). (e : ℕ) → s.events ≤ e → e < c.self.inside.events + c.min-added.result
    → s.count ≤ get_or (set c.self.inside.peaks.items (c.len-last.result - 1) c.max-peak.result)
    (e / c.self.inside.width) 0) c.self.view_is
    (λ e low high.
    at_raise c.self.inside.peaks.items (c.len-last.result - 1) c.self.inside.count c.max-peak.result
    c.self.inside.width e c.self.inside.events c.self.inside.room c.self.invariant.0 c.self.invariant.1 last
    (omega (arith, c.max-peak.ensures)) low (omega (arith, c.min-added.ensures)) some)
