use Rattle.std.proofs.Common.{◌≡◌, ◌∷◌, [], false, rules}
use Rattle.hp_map.specs.Rounds.{JoinsTo, goes_on}
use Rattle.hp_map.proofs.RoundsJoined.{next_read}
use Rattle.hp_map.proofs.joiner.RoundJoiner.push.Goals as goal

pub returns : goal.returns
returns c = λ done rows read.
    let last : c.take.result ≡ c.args.self.now.last = search rules in
    let rest : c.replace-rows.result.items ≡ c.args.self.now.rest = search rules in
    let joins : JoinsTo c.args.self.now.last c.args.self.now.rest c.in_ok-gone.field-0.gone
    c.in_ok-gone.field-0.last = search rules in
    let other : goes_on c.args.self.now.rest c.args.row ≡ false = search rules in
    let some : c.args.self.now.rest ≡ [] → ⊥ = search rules in
    let now : c.push-2.new.self.items ≡ c.args.row ∷ [] = search rules in
    rw now (next_read done c.args.self.now.last c.args.self.now.rest rows c.in_ok-gone.field-0.gone
    c.in_ok-gone.field-0.last c.args.row some other joins read)
