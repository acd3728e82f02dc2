-- The latest way leads back over the latest record.
use Rattle.std.proofs.Common.{◌≡◌, ◌∷◌, ◌++◌, [], length, ap, arith, sym, ◌∙◌, reverse, refl}
use Rattle.hp_units.specs.declared.replies.Record.{Record}
use Rattle.hp_explore.specs.Paths.{IsPath, IsWayBack}
use Rattle.hp_schedules.specs.Schedules.{Setting}
use Rattle.std.proofs.lemmas.List.{length_push, nil_from_length, reverse-append}
use Rattle.hp_explore.proofs.turns.step_back.Goals as goal
use Rattle.hp_explore.proofs.turns.step_back.Goals.{In-Some}
use Rattle.hp_memory.specs.Steps.{StepsValue}

popped : (c : In-Some) → c.args.turns.now.items ≡ c.pop.new.self.items ++ c.in-Some.turn ∷ []
popped c = rw (c.pop.ensures.items, c.in-Some.is)

over : (c : In-Some) (g : Setting)
    → IsPath g c.args.here.now c.args.positions.now.cursors.items c.args.turns.now.items
    → IsWayBack g c.args.here.now c.args.positions.now.cursors.items
    (c.in-Some.turn ∷ reverse c.pop.new.self.items)
over c g path =
    rw (ap reverse (popped c) ∙ reverse-append c.pop.new.self.items (c.in-Some.turn ∷ [])) at path.back

pub latest-requires : goal.latest-requires
latest-requires c =
    let back = over (goal.at.latest-requires c).In-Some c.requires.0 c.requires.1 in
    omega (arith, ap length back.3, length_push back.0.records back.1, ap length c.records.ensures)

pub go_back-requires : goal.go_back-requires
go_back-requires c =
    let back = over (goal.at.go_back-requires c).In-Some c.requires.0 c.requires.1 in
    rw (c.latest.ensures back.0.records back.1 (c.records.ensures ∙ back.3)) back.5

pub lead_back-requires : goal.lead_back-requires
lead_back-requires c =
    let back = over (goal.at.lead_back-requires c).In-Some c.requires.0 c.requires.1 in
    (back.0, back.1, back.4)

pub returns-in-Some : goal.returns-in-Some
returns-in-Some c =
    λ g path.
    let back = over (goal.at.returns-in-Some c).In-Some g path in
    let is = c.lead_back.ensures back.0 back.1 back.4 in
    let latest = c.latest.ensures back.0.records back.1 (c.records.ensures ∙ back.3) in
    let own : back.1.cpu ≡ c.latest.result.now.cpu = ap (λ (x : Record). x.cpu) (sym latest) in (
      back.1,
      own,
      back.3 ∙ ap (λ (p : StepsValue). p.records ++ back.1 ∷ []) (sym is),
      rw (is, c.go_back.ensures, ← own) (record { at = back.2; cursors_at = back.6; back = back.7 }),
    )

pub returns-in-None : goal.returns-in-None
returns-in-None c =
    let none = rw c.in-None.is at c.pop.ensures.cases in
    let rest = nil_from_length c.pop.new.self.items (sym c.pop.new.self.ok.0 ∙ none.1) in
    let same : c.args.turns.now.items ≡ [] = rw (c.pop.ensures.items, c.in-None.is, rest) in
    λ g path. (rw same at path.back, refl, rw (rest, ← same) path)
