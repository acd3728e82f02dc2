use Rattle.std.proofs.Common.{◌≡◌, ℕ, not, ◌&&◌, Option, Some, None, sym, ◌∙◌}
use Rattle.std.specs.Prelude.{find}
use Rattle.std.specs.Option.{option_map, option_or}
use Rattle.std.proofs.lemmas.Option.{same_Some}
use Rattle.hp_units.specs.declared.plans.Item.{Item}
use Rattle.hp_units.specs.declared.replies.Refusal.{Refusal}
use Rattle.hp_units.specs.declared.replies.Refusal.TheVariants.{NotOnline}
use Rattle.hp_units.specs.Choices.{first_some}
use Rattle.hp_units.specs.Memory.{row_of}
use Rattle.hp_units.specs.Rows.{is_off, is_online}
use Rattle.hp_plain.specs.Plans.{change_refusals}
use Rattle.hp_layers.specs.Layers.{state_of}
use Rattle.hp_layers.proofs.layers.Layers.state_refusal.Goals as goal

not_online-first : (found : Option Item) (rest : Option Refusal) (block : ℕ)
    → option_map (λ item. item.block) found ≡ Some block
    → Some (NotOnline block) ≡ option_or (option_map (λ item. NotOnline item.block) found) rest
not_online-first None rest block is = absurd cc
not_online-first (Some item) rest block is = rw (← same_Some item.block block is)

pub returns-in-Some : goal.returns-in-Some
returns-in-Some c =
    let m = c.args.self.now in
    not_online-first (find (λ (item : Item).
    is_off item.wish && not (is_online (row_of m.blocks.blocks item.block))) c.args.plan.now)
    (first_some (change_refusals m.layout (state_of m) c.args.plan.now)) c.in-Some.block
    (sym c.first_not_online.ensures ∙ c.in-Some.is)
