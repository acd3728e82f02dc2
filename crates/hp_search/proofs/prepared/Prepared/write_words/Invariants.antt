use Rattle.std.proofs.Common.{◌≡◌, ◌++◌, string_bytes}
use Rattle.hp_text.specs.State.{texts_below}
use Rattle.hp_search.specs.Words.{counts_text}
use Rattle.hp_search.specs.Prepared.{names_of, setting_of}
use Rattle.hp_search.specs.Texts.{end_at_text}
use Rattle.hp_search.proofs.prepared.Prepared.write_words.Given as goal

abbrev pub invariant-loop-index : goal.invariant-loop-index
invariant-loop-index l =
    string_bytes l.out ≡ (string_bytes l.fn.out ++ counts_text l.ends l.fn.more)
    ++ texts_below (end_at_text (names_of l.self) (setting_of l.self) l.ends) l.index
