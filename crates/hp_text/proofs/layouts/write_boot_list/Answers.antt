use Rattle.std.proofs.Common.{codes}
use Rattle.hp_text.specs.Layouts.{boot_list_text, boots_text}
use Rattle.hp_text.proofs.Joined.{three}
use Rattle.hp_text.proofs.layouts.write_boot_list.Goals as goal

pub returns : goal.returns
unfolding boot_list_text
returns c =
    three (codes ",\n\"boot\": [") (boots_text c.args.boots.now) (codes "]}") _ _ _ _
    c.in_ok-push_str.ensures.bytes c.in_ok-write_boots.ensures c.in_ok-push_str-2.ensures.bytes
