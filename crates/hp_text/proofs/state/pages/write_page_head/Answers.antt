use Rattle.std.proofs.Common.{codes, rules}
use Rattle.hp_text.proofs.Texts.{head_written}
use Rattle.hp_text.proofs.state.pages.write_page_head.Goals as goal

pub returns : goal.returns
returns c =
    head_written _ _ _ _ _ _ (codes "page ") c.args.name.now (codes " ") (codes " at ") (codes ":") _ _
    c.args.page c.args.frame c.in_ok-push_str.ensures.bytes c.in_ok-push_str-2.ensures.bytes
    c.in_ok-write_word.ensures c.in_ok-write_numbered.ensures c.in_ok-push_str-3.ensures.bytes (search rules)
    (search rules)
