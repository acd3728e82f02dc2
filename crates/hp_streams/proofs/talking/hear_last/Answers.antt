use Rattle.std.proofs.Common.{[], refl}
use Rattle.hp_streams.specs.Talks.{desk}
use Rattle.hp_streams.proofs.Heard.{ended_whole, last_broken, last_quit, last_replied, last_unsent}
use Rattle.hp_streams.proofs.talking.hear_last.Goals as goal

pub returns-then-is_empty-clause-heard : goal.returns-then-is_empty-clause-heard
returns-then-is_empty-clause-heard g c = λ line whole holds input left read end.
    ended_whole g.T.Talk.replies (desk c.args.talk.now (g.W.Sink.contents c.args.writer.now) []) line
    input left read end (c.is_empty.ensures.yes c.if-is_empty.true line holds) refl

pub returns-in-Ok-clause-heard : goal.returns-in-Ok-clause-heard
returns-in-Ok-clause-heard g c = λ line whole holds input left read end.
    let sent = g.W.Sink.contents c.args.writer.now in
    let e = desk c.hear_line.new.talk (g.W.Sink.contents c.hear_line.new.writer) c.hear_line.new.out.items in
    last_replied g.T.Talk.replies (desk c.args.talk.now sent []) e line c.hear_line.new.held input left
    (g.W.Sink.contents c.send.new.writer) read end whole
    (c.is_empty.ensures.no c.if-is_empty.false line holds)
    (rw c.requires.out at (c.in-More.ensures.heard line holds)) c.in-Ok.ensures.ok

pub returns-in-Err-clause-heard : goal.returns-in-Err-clause-heard
returns-in-Err-clause-heard g c = λ line whole holds input left read end.
    let sent = g.W.Sink.contents c.args.writer.now in
    let e = desk c.hear_line.new.talk (g.W.Sink.contents c.hear_line.new.writer) c.hear_line.new.out.items in
    last_unsent g.T.Talk.replies (desk c.args.talk.now sent []) e line c.hear_line.new.held input left
    (g.W.Sink.contents c.send.new.writer) read whole
    (rw c.requires.out at (c.in-More.ensures.heard line holds)) c.in-Err.ensures.err

pub returns-in-Quit-clause-heard : goal.returns-in-Quit-clause-heard
returns-in-Quit-clause-heard g c = λ line whole holds input left read end.
    let sent = g.W.Sink.contents c.args.writer.now in
    let e = desk c.hear_line.new.talk (g.W.Sink.contents c.hear_line.new.writer) c.hear_line.new.out.items in
    last_quit g.T.Talk.replies (desk c.args.talk.now sent []) e line c.hear_line.new.held input left read
    refl
    (rw c.requires.out at (c.in-Quit.ensures.heard line holds))

pub returns-in-Broken-clause-heard : goal.returns-in-Broken-clause-heard
returns-in-Broken-clause-heard g c = λ line whole holds input left read end.
    let sent = g.W.Sink.contents c.args.writer.now in
    let e = desk c.hear_line.new.talk (g.W.Sink.contents c.hear_line.new.writer) c.hear_line.new.out.items in
    last_broken g.T.Talk.replies (desk c.args.talk.now sent []) e line c.hear_line.new.held input left
    read whole
    (rw c.requires.out at (c.in-Broken.ensures.heard line holds))
