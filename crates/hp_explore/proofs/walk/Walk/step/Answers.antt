-- The latest place makes its turn; where there is none all is walked.
use Rattle.std.proofs.Common.{◌≡◌, ◌∷◌, arith, reverse, sym, ◌∙◌}
use Rattle.hp_explore.specs.Frames.{IsWalking, frames_of}
use Rattle.std.proofs.lemmas.List.{nil_from_length}
use Rattle.hp_explore.proofs.Framing.{frames_popped, no_frames}
use Rattle.hp_explore.proofs.walk.Walk.step.Goals as goal
use Rattle.hp_explore.proofs.walk.Walk.step.Goals.{In-Some}

-- the latest frame is off the stack
popped : (o : _) (c : In-Some o)
    → frames_of c.args.self.now ≡ c.in-Some.frame ∷ reverse c.pop.new.self.items
popped o c =
    frames_popped c.args.self.now.frames.items c.pop.new.self.items c.pop.result c.in-Some.frame
    c.pop.ensures.items c.in-Some.is

-- the walk is as before without it
off_stack : (o : _) (c : In-Some o)
    → IsWalking (record c.args.self.now { frames = c.pop.new.self })
    (c.in-Some.frame ∷ reverse c.pop.new.self.items)
off_stack o c =
    let was = c.requires.walking in
    record {
      walked = rw (popped o c) at was.walked;
      memo = was.memo;
      way = was.way;
      processors = was.processors;
      few = was.few;
      short = was.short;
    }

pub go_on-requires-clause-kept : goal.go_on-requires-clause-kept
go_on-requires-clause-kept o c = off_stack o (goal.at.go_on-requires-clause-kept o c).In-Some

pub go_back-requires-clause-kept : goal.go_back-requires-clause-kept
go_back-requires-clause-kept o c = off_stack o (goal.at.go_back-requires-clause-kept o c).In-Some

pub is_end-is_end-requires-clause-kept : goal.is_end-is_end-requires-clause-kept
is_end-is_end-requires-clause-kept o c =
    off_stack o (goal.at.is_end-is_end-requires-clause-kept o c).In-Some

pub is_full-requires-clause-walked : goal.is_full-requires-clause-walked
is_full-requires-clause-walked o c =
    let all = (off_stack o (goal.at.is_full-requires-clause-walked o c).In-Some).walked.0 in
    let same : c.in-Some.frame.next ≡ c.args.self.now.processors =
    omega (arith, all.within, c.if-frame-self.false, c.requires.walking.processors) in
    rw same at all.walked

pub returns-in_default-clause-ok : goal.returns-in_default-clause-ok
returns-in_default-clause-ok o c =
    let w = c.args.self.now in
    let none = rw c.in_default.is at c.pop.ensures.cases in
    rw (
      no_frames w.frames.items c.pop.new.self.items c.pop.result c.pop.ensures.items c.in_default.is,
      nil_from_length c.pop.new.self.items (sym c.pop.new.self.ok.0 ∙ none.1),
    ) at c.requires.walking.walked

pub returns-then-frame-self-clause-ok : goal.returns-then-frame-self-clause-ok
returns-then-frame-self-clause-ok o c = (
  c.in_ok-go_on.ensures.kept,
  rw (popped o (goal.at.returns-then-frame-self-clause-ok o c).In-Some) c.in_ok-go_on.ensures.less,
)

pub returns-clause-ok : goal.returns-clause-ok
returns-clause-ok o c = (
  c.in_ok-go_back.ensures.kept,
  rw (popped o (goal.at.returns-clause-ok o c).In-Some) c.in_ok-go_back.ensures.less,
)
