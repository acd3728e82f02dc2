use Rattle.std.proofs.Common.{ap, codes, string_bytes, sym, ◌∙◌}
use Rattle.std.specs.Fmt.{decimal}
use Rattle.std.proofs.lemmas.Result.{on_ok_weaker}
use Rattle.hp_search.specs.Objects.{first_object}
use Rattle.hp_search.proofs.Written.{five, said}
use Rattle.hp_search.proofs.objects.write_first.Goals as goal

pub returns-in-Exactly : goal.returns-in-Exactly
returns-in-Exactly c =
    let text =
    five (codes "{\"first\": ") (decimal c.args.counted) (codes ", \"interleavings\": ")
    (decimal c.in-Exactly.count) (codes "}\n")
    ∙ ap (first_object c.args.counted) (sym c.in-Exactly.is) in
    on_ok_weaker c.writeln.result (said (string_bytes c.args.out.now) _ _ _ text) c.writeln.ensures.bytes

pub returns-in-MoreThanLimit : goal.returns-in-MoreThanLimit
returns-in-MoreThanLimit c =
    let text =
    five (codes "{\"first\": ") (decimal c.args.counted) (codes ", \"interleavings\": ") (codes "null")
    (codes "}\n")
    ∙ ap (first_object c.args.counted) (sym c.in-MoreThanLimit.is) in
    on_ok_weaker c.writeln-in-MoreThanLimit.result (said (string_bytes c.args.out.now) _ _ _ text)
    c.writeln-in-MoreThanLimit.ensures.bytes

pub returns-in-Unknown : goal.returns-in-Unknown
returns-in-Unknown c =
    let text =
    five (codes "{\"first\": ") (decimal c.args.counted) (codes ", \"interleavings\": ") (codes "null")
    (codes "}\n")
    ∙ ap (first_object c.args.counted) (sym c.in-Unknown.is) in
    on_ok_weaker c.writeln-in-Unknown.result (said (string_bytes c.args.out.now) _ _ _ text)
    c.writeln-in-Unknown.ensures.bytes
