-- What is written so far are the counts of the orders so far.
use Rattle.std.proofs.Common.{◌≡◌, ◌++◌, string_bytes}
use Rattle.hp_text.specs.Zones as means
use Rattle.hp_text.proofs.zones.write_counts.Given as goal

abbrev pub invariant-loop-order : goal.invariant-loop-order
invariant-loop-order l =
    string_bytes l.text
    ≡ string_bytes l.fn.text ++ means.counts_below l.memory.state.free.areas l.zone l.order
