use Rattle.std.proofs.Common.{ap, rules, tests, ◌∙◌}
use Rattle.std.specs.Prelude.{not, ◌==◌}
use Rattle.std.proofs.lemmas.Iterator.{YieldsList-from_slice}
use Rattle.std.proofs.lemmas.Iterator.Consumers.{YieldsList-from_filter, count_from_yields_List}
use Rattle.std.proofs.lemmas.List.Sums.{length-filter}
use Rattle.hp_map.specs.Counts.{frames_in}
use Rattle.hp_map.proofs.counts.frames_in.Goals as goal

pub returns : goal.returns
returns c =
    count_from_yields_List c.filter.result _ c.count.ensures.ran
    (YieldsList-from_filter _ (λ byte. not (byte == 124)) (YieldsList-from_slice c.as_bytes.result.now cc)
    c.filter.ensures.closure (λ x b q k. search (rules, tests)))
    ∙ length-filter (λ byte. not (byte == 124)) c.as_bytes.result.now
    ∙ ap frames_in c.as_bytes.ensures.value
