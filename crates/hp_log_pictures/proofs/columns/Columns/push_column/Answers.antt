use Rattle.std.proofs.Common.{◌≡◌, ℕ, ◌+◌, ◌/◌, ◌<◌, ◌≤◌, List, [], ◌∷◌, ◌++◌, get_or, ap, arith, subst, sym, refl, ◌∙◌}
use Rattle.std.proofs.lemmas.Slice.{pushed}
use Rattle.hp_log_pictures.specs.Columns.{Sampled}
use Rattle.hp_log_pictures.proofs.Sampling.{at_push}
use Rattle.hp_log_pictures.proofs.columns.Columns.push_column.Goals as goal

pub returns-clause-held : goal.returns-clause-held
returns-clause-held c =
    let full : c.self.inside.room ≡ 0 = ap (λ (s : Sampled). s.room) c.self.view_is ∙ c.requires.full in
    let more : c.push-2.new.self.items ≡ c.self.inside.peaks.items ++ c.self.inside.count ∷ [] =
    pushed (c.self.inside.count ∷ []) refl c.in_ok-push-2.was c.push-2.ensures.items in
    subst
    (λ (s : Sampled). (e : ℕ) → s.events ≤ e → e < c.self.inside.events + c.min-added.result
    → s.count ≤ get_or c.push-2.new.self.items (e / c.self.inside.width) 0) c.self.view_is
    (λ e low high.
    subst (λ (xs : List ℕ). c.self.inside.count ≤ get_or xs (e / c.self.inside.width) 0) (sym more)
    (at_push c.self.inside.peaks.items c.self.inside.count c.self.inside.width e
    (omega (arith, c.self.invariant.0)) (omega (arith, c.self.invariant.0, c.min-added.ensures))))
