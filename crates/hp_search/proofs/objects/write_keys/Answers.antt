use Rattle.std.proofs.Common.{◌≡◌, List, Bor, codes, option_map, refl, string_bytes, true}
use Rattle.std.specs.Fmt.{decimal}
use Rattle.hp_units.specs.declared.replies.Record.{Record}
use Rattle.hp_text.specs.Separated.{separated}
use Rattle.hp_search.specs.Objects.{answer_list, block_string, played_list}
use Rattle.hp_search.proofs.Written.{chained, five, said}
use Rattle.hp_search.proofs.objects.write_keys.Goals as goal

pub returns : goal.returns
returns c =
    let old = string_bytes c.args.out.now in
    let end = c.args.end.now in
    let answers : separated (codes ", ") answer_list true c.replies-answers.result.now
    ≡ separated (codes ", ") answer_list true end.outcome.replies =
    rw c.replies-answers.ensures refl in
    let rows : separated (codes ", ") block_string true c.blocks-rows.result.now
    ≡ separated (codes ", ") block_string true end.outcome.blocks =
    rw c.blocks-rows.ensures refl in
    chained _ (separated (codes ", ") answer_list true end.outcome.replies) (codes "], \"blocks\": [")
    (separated (codes ", ") block_string true end.outcome.blocks) (codes "], \"first\": [")
    (played_list c.args.names.now.keys (option_map (λ (x : Bor (List Record)). x.now) c.args.calls))
    (codes "]") old _ _ _ _ _ _ _
    (said old _ _ _ (five (codes "{\"end\": ") (decimal c.args.number) (codes ", \"interleavings\": ")
    (decimal end.count) (codes ", \"answers\": [")) c.in_ok-write.ensures.bytes)
    (said _ _ _ _ answers c.in_ok-write_answers.ensures) c.in_ok-push_str.ensures.bytes
    (said _ _ _ _ rows c.in_ok-write_blocks.ensures) c.in_ok-push_str-2.ensures.bytes
    c.in_ok-write_played.ensures c.in_ok-push_str-3.ensures.bytes
