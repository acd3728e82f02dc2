use Rattle.std.proofs.Common.{◌≡◌, ℕ, ◌*◌, List, [], replicate, ◌∙◌, ap}
use Rattle.hp_units.specs.Boot.{empty_cached}
use Rattle.hp_plain.proofs.EmptyFrames.{empty_of}
use Rattle.hp_plain.proofs.frames.FreeFrames.empty.Goals as goal

pub returns-clause-value : goal.returns-clause-value
returns-clause-value c =
    let cached : c.in_ok-cached.cached.items ≡ empty_cached c.args.layout.now =
    c.in_ok-cached.ensures ∙ ap (λ (n : ℕ). replicate {A = List ℕ} (3 * n) []) c.cpus.ensures.is in
    rw (c.in_ok-areas.ensures.value, cached)

pub returns-clause-layout : goal.returns-clause-layout
returns-clause-layout c =
    let cached : c.in_ok-cached.cached.items ≡ empty_cached c.args.layout.now =
    c.in_ok-cached.ensures ∙ ap (λ (n : ℕ). replicate {A = List ℕ} (3 * n) []) c.cpus.ensures.is in
    empty_of c.args.layout.now _ c.in_ok-areas.ensures.layout cached
