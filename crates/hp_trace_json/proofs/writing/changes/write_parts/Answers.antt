use Rattle.std.proofs.lemmas.Result.{on_ok_weaker}
use Rattle.hp_trace_json.proofs.TokensPut.{some_more}
use Rattle.hp_trace_json.proofs.writing.changes.write_parts.Goals as goal

pub returns : goal.returns
returns c =
    let first = c.args.out.now in
    let second = some_more first _ _ c.in_ok-write_blocks.ensures c.in_ok-write_pageblocks.ensures in
    let third = some_more first _ _ second c.in_ok-write_lists.ensures in
    let fourth = some_more first _ _ third c.in_ok-write_kernel.ensures in
    let fifth = some_more first _ _ fourth c.in_ok-write_pages.ensures in
    let sixth = some_more first _ _ fifth c.in_ok-write_words.ensures in
    on_ok_weaker c.write_settings.result (λ last. some_more first _ _ sixth last) c.write_settings.ensures
