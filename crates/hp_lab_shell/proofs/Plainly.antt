-- What is shown of a scenario is of the one with plain numbers.
use Rattle.std.proofs.Common.{◌≡◌, ℕ, List, subst, sym}
use Rattle.hp_scenario.specs.Scenario.{ScenarioValue}
use Rattle.hp_lab_shell.specs.Shown.{InPlain}

-- what holds of the scenario that was read holds in the bytes
pub in_plain : (P : ScenarioValue → Type 0) (input : List ℕ) (s : ScenarioValue)
    → InPlain input (λ x. x ≡ s) → P s → InPlain input P
in_plain P input s h holds = record {
  named = h.named;
  read = h.read;
  plain = h.plain;
  resolved = h.resolved;
  holds = subst P (sym h.holds) holds;
}
