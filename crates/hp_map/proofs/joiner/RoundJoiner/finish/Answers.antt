use Rattle.std.proofs.Common.{◌≡◌, [], rules}
use Rattle.hp_map.specs.Rounds.{JoinsTo}
use Rattle.hp_map.proofs.RoundsJoined.{all_read}
use Rattle.hp_map.proofs.joiner.RoundJoiner.finish.Goals as goal

pub returns : goal.returns
returns c = λ done rows read.
    let joins : JoinsTo c.args.self.last c.args.self.rest c.in_ok-gone.field-0.gone
    c.in_ok-gone.field-0.last = search rules in
    let some : c.args.self.rest ≡ [] → ⊥ = search rules in
    all_read done c.args.self.last c.args.self.rest rows c.in_ok-gone.field-0.gone
    c.in_ok-gone.field-0.last some joins read
