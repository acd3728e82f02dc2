use Rattle.std.proofs.Common.{◌≡◌, true, List, ℕ, ap, sym, ◌∙◌, arith}
use Rattle.std.specs.List.{position}
use Rattle.std.specs.Str.{bytes_eq}
use Rattle.hp_scenario.proofs.KnownNames.{stands_first}
use Rattle.hp_scenario.proofs.names.known_index.Goals as goal

pub returns-then-eq-clause-is : goal.returns-then-eq-clause-is
returns-then-eq-clause-is c =
    let name = c.args.name.now in
    let equal : bytes_eq name c.index-known-index.result ≡ true = cc in
    ap (λ (names : List (List ℕ)). position (bytes_eq name) names) (sym c.as_slice-known.ensures.keys)
    ∙ stands_first c.as_slice-known.result.now name c.loop-index.index c.index-known-index.result
    (omega (arith, c.loop-index-test.true)) c.loop-index.invariant c.index-known-index.is equal
