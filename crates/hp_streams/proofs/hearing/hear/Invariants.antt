use Rattle.std.proofs.Common.{◌≡◌, List, ℕ, ◌++◌, length}
use Rattle.hp_streams.specs.Talks.{HearsTo, Holds, IsWhole, desk}
use Rattle.hp_streams.proofs.hearing.hear.Given as goal

abbrev pub invariant-loop-front : goal.invariant-loop-front
invariant-loop-front g l = record {
  heard : (line : List ℕ) → IsWhole line → Holds l.initial.held line
      → HearsTo g.T.Talk.replies
      (desk l.initial.talk (g.W.Sink.contents l.initial.writer) l.initial.out.items)
      (line ++ l.fn.block) l.rest (desk l.talk (g.W.Sink.contents l.writer) l.out.items) l.held;
  calm : g.W.Sink.failures l.writer ≡ g.W.Sink.failures l.initial.writer;
}

abbrev pub decreases-loop-front : goal.decreases-loop-front
decreases-loop-front g l = length l.rest
