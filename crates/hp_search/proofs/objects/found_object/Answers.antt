use Rattle.std.proofs.Common.{List, Bor, [], codes, option_map, ◌++◌, ◌∙◌}
use Rattle.std.specs.Fmt.{decimal}
use Rattle.hp_units.specs.declared.replies.Record.{Record}
use Rattle.hp_search.specs.Objects.{played_list}
use Rattle.hp_search.proofs.Written.{more, three}
use Rattle.hp_search.proofs.objects.found_object.Goals as goal

pub returns : goal.returns
returns c =
    let opening =
    (codes "{\"found\": true, \"changes\": " ++ decimal c.args.changes) ++ codes ", \"first\": [" in
    let played =
    played_list c.args.names.now.keys (option_map (λ (x : Bor (List Record)). x.now) c.args.calls) in
    let head =
    c.in_ok-text.ensures.ok
    ∙ three (codes "{\"found\": true, \"changes\": ") (decimal c.args.changes) (codes ", \"first\": [") in
    more [] _ _ (opening ++ played) (codes "]}\n")
    (more [] _ _ opening played head c.in_ok-write_played.ensures) c.in_ok-push_str.ensures.bytes
