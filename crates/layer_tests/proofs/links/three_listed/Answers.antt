use Rattle.std.proofs.Common.{[], ◌∷◌, ◌++◌, ap, ◌∙◌}
use Rattle.hp_buddy.specs.LinkedLists.{LinkedLists, list_at, with_list}
use Rattle.layer_tests.proofs.links.three_listed.Goals as goal

pub returns : goal.returns
returns c =
    c.in_ok-copy.ensures
    ∙ (c.push_front.ensures
    ∙ ap (λ (v : LinkedLists). with_list v 0 (3 ∷ list_at v 0)) (c.push_back-2.ensures
    ∙ ap (λ (v : LinkedLists). with_list v 0 (list_at v 0 ++ 0 ∷ [])) (c.push_back.ensures
    ∙ ap (λ (v : LinkedLists). with_list v 0 (list_at v 0 ++ 2 ∷ [])) c.in_ok-links.ensures)))
