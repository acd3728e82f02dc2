use Rattle.std.proofs.Common.{◌≡◌, ◌-◌, vec_len}
use Rattle.std.specs.Io.KnownBytes.{Consumes}
use Rattle.hp_streams.proofs.reading.read_all.Given as goal

abbrev pub invariant-loop-buffer : goal.invariant-loop-buffer
invariant-loop-buffer g l =
    Consumes (g.R.Source.remaining l.initial.reader) (g.R.Source.remaining l.reader) l.bytes.items
    × (g.R.Source.failures l.reader ≡ g.R.Source.failures l.initial.reader)

-- any number above the limit serves
abbrev pub decreases-loop-buffer : goal.decreases-loop-buffer
decreases-loop-buffer g l = 20000000 - vec_len l.bytes
