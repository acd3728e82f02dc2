use Rattle.std.proofs.Common.{◌≡◌, List, Bor, codes, option_map, refl, string_bytes, ◌++◌}
use Rattle.std.specs.Fmt.{decimal}
use Rattle.std.proofs.lemmas.Result.{on_ok_weaker}
use Rattle.hp_text.specs.State.{newline}
use Rattle.hp_units.specs.declared.replies.Record.{Record}
use Rattle.hp_search.specs.Words.{blocks_text, played_text, processors_text}
use Rattle.hp_search.proofs.Written.{five, more, said}
use Rattle.hp_search.proofs.words.write_end.Goals as goal

pub returns : goal.returns
returns c =
    let old = string_bytes c.args.out.now in
    let end = c.args.end.now in
    let opening =
    (((codes "\nend " ++ decimal c.args.number) ++ codes "\ninterleavings: ") ++ decimal end.count)
    ++ newline in
    let processors = processors_text c.args.layout.now.cpus end.outcome.replies in
    let blocks = blocks_text c.args.layout.now.blocks end.outcome.blocks in
    let played =
    played_text c.args.names.now.keys (option_map (λ (x : Bor (List Record)). x.now) c.args.calls) in
    let same_processors : processors_text c.cpus.result c.replies-answers.result.now ≡ processors =
    rw (c.cpus.ensures.is, c.replies-answers.ensures) refl in
    let same_blocks : blocks_text c.blocks-blocks.result c.blocks-rows.result.now ≡ blocks =
    rw (c.blocks-blocks.ensures.is, c.blocks-rows.ensures) refl in
    let head =
    said old _ _ _ (five (codes "\nend ") (decimal c.args.number) (codes "\ninterleavings: ")
    (decimal end.count) newline) c.in_ok-writeln.ensures.bytes in
    let answered =
    more old _ _ opening processors head (said _ _ _ _ same_processors c.in_ok-write_processors.ensures) in
    let became =
    more old _ _ (opening ++ processors) blocks answered
    (said _ _ _ _ same_blocks c.in_ok-write_blocks.ensures) in
    let first =
    more old _ _ ((opening ++ processors) ++ blocks) (codes "first:\n") became
    c.in_ok-push_str.ensures.bytes in
    on_ok_weaker c.write_played.result
    (λ last. more old _ _ (((opening ++ processors) ++ blocks) ++ codes "first:\n") played first last)
    c.write_played.ensures
