use Rattle.std.proofs.Common.{List, take}
use Rattle.json.specs.Token.{Token}
use Rattle.hp_live.specs.Objects.{Adds, TellsCalls}
use Rattle.hp_live.proofs.objects.write_calls.Given as goal

abbrev pub invariant-loop-call : goal.invariant-loop-call
invariant-loop-call l =
    (told : List Token) × TellsCalls (take l.call-index l.calls) told × Adds l.fn.writer l.writer told
