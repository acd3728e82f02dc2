-- The scripts are those of the lines after the first ones, or a line cannot stand in one.
use Rattle.hp_scripts.proofs.Scripted.{known_there, unscripted}
use Rattle.hp_scripts.proofs.counting.known_after.Goals as goal

pub returns-in_ok-known-in-Ok : goal.returns-in_ok-known-in-Ok
returns-in_ok-known-in-Ok c =
    known_there c.args.cpus c.args.setup c.args.limit c.args.lines.now c.rest_of-after.result.now
    c.in_ok-known-in-Ok.known c.rest_of-after.ensures c.in-Ok.ensures.ok c.in_ok-known-in-Ok.ensures

pub returns-in-Err : goal.returns-in-Err
returns-in-Err c =
    unscripted c.args.cpus c.args.setup _ c.args.lines.now c.rest_of-after.result.now _
    c.rest_of-after.ensures c.in-Err.ensures.err
