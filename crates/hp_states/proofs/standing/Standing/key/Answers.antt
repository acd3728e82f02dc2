-- A key that begins with the numbers of the place gets the parts of all processors.
use Rattle.std.proofs.Common.{ap, arith, subst, sym, ◌*◌, ◌+◌, ◌∙◌}
use Rattle.hp_states.specs.Standing.{StandingValue, plainly}
use Rattle.hp_states.specs.Stops.{AreNumbersAt, AreStopsAt, StopsValue}
use Rattle.hp_states.proofs.Keys.{code_made}
use Rattle.hp_states.proofs.standing.Standing.key.Goals as goal

pub returns : goal.returns
returns c =
    let two = c.in_ok-has.ensures c.if-not-has.false in
    let stops_are = ap (λ (s : StandingValue). s.stops) c.self.view_is in
    λ whole g news at stands. code_made g c.args.self.now news (2 * c.from.result + 2) two.0 two.1
    c.args.processors c.clear.new.self c.number.new.self c.push_numbers.new.code c.push_parts.new.key
    (c.requires.processors ∙ at.many) (omega (arith, c.from.ensures))
    (subst (λ (s : StopsValue). AreNumbersAt (plainly news) g news s two.0 two.1) stops_are
    (two.3 plainly g news (subst (AreStopsAt plainly g news) (sym stops_are) stands.stops)))
    c.clear.ensures c.in_ok-number.ensures two.2 (c.in_ok-push_parts.ensures g news at stands)
