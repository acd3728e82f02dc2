use Rattle.std.proofs.Common.{◌++◌, flat_map, string_bytes, sym, ap, ◌∙◌, map-id}
use Rattle.std.proofs.lemmas.Iterator.{YieldsList-from_chars}
use Rattle.std.proofs.lemmas.Iterator.Consumers.{YieldsList-end}
use Rattle.hp_text.specs.Escapes.{escaped, escaped_text}
use Rattle.hp_text.proofs.escapes.write_escaped.Goals as goal

pub returns : goal.returns
unfolding escaped_text
returns c =
    let end =
    YieldsList-end (YieldsList-from_chars c.args.text.now c.utf8.text cc) c.loop-c.yielded _
    c.loop-c.yielded_by _ _ c.in-None.is c.next.ensures.steps in
    c.loop-c.invariant
    ∙ ap (λ cs. string_bytes c.args.out.now ++ flat_map (escaped c.args.brackets) cs)
    (sym (map-id c.loop-c.yielded) ∙ end.0)
