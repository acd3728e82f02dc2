-- What each thread found is the list at its place.
use Rattle.std.proofs.Common.{◌≡◌, None, length, arith}
use Rattle.std.proofs.lemmas.Option.{IfSome_then}
use Rattle.hp_explore.specs.Settings.{setting}
use Rattle.hp_parts.proofs.AllParts.{parts_found, room_found}
use Rattle.hp_parts.proofs.Joining.{items}
use Rattle.hp_parts.proofs.jobs.ends_of_parts.Goals as goal

pub returns-in-Ok-clause-ends : goal.returns-in-Ok-clause-ends
returns-in-Ok-clause-ends g c =
    let many : length c.in-Ok.found.items ≡ c.args.parts = omega (arith, c.in-Ok.ensures.len) in
    IfSome_then c.all_of.result c.all_of.ensures
    (λ lists is. parts_found items (setting c.args.machine.now c.args.scripts.now) c.args.parts c.args.calls
    c.in-Ok.found.items lists.items is many
    (λ k less. (c.in-Ok.ensures.each k None less).1.met.0))

pub returns-in-Ok-clause-room : goal.returns-in-Ok-clause-room
returns-in-Ok-clause-room g c =
    let many : length c.in-Ok.found.items ≡ c.args.parts = omega (arith, c.in-Ok.ensures.len) in
    IfSome_then c.all_of.result c.all_of.ensures
    (λ lists is. room_found (setting c.args.machine.now c.args.scripts.now) c.args.parts c.args.calls
    c.in-Ok.found.items lists.items is many
    (λ k less. (c.in-Ok.ensures.each k None less).1.met.1))
