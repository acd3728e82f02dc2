use Rattle.std.proofs.Common.{[]}
use Rattle.hp_streams.specs.Talks.{desk}
use Rattle.hp_streams.proofs.Heard.{block_broken, more_broken, quit_broken, quit_sent}
use Rattle.hp_streams.proofs.talking.hear_block.Goals as goal

pub returns-in-Err-clause-heard : goal.returns-in-Err-clause-heard
returns-in-Err-clause-heard g c = λ line whole holds input left read.
    let sent = g.W.Sink.contents c.args.writer.now in
    let e = desk c.hear.new.talk (g.W.Sink.contents c.hear.new.writer) c.hear.new.out.items in
    more_broken g.T.Talk.replies (desk c.args.talk.now sent []) e line c.args.block.now c.hear.new.held
    (g.W.Sink.contents c.send.new.writer) input left read
    (rw (← c.requires.out) (c.in-More.ensures.heard line whole holds)) c.in-Err.ensures.err

pub returns-in-Ok-send-clause-heard : goal.returns-in-Ok-send-clause-heard
returns-in-Ok-send-clause-heard g c = λ line whole holds input left read.
    let sent = g.W.Sink.contents c.args.writer.now in
    let e = desk c.hear.new.talk (g.W.Sink.contents c.hear.new.writer) c.hear.new.out.items in
    quit_sent g.T.Talk.replies (desk c.args.talk.now sent []) e line c.args.block.now c.hear.new.held
    (g.W.Sink.contents c.send-in-Quit.new.writer) input left read
    (rw (← c.requires.out) (c.in-Quit.ensures.heard line whole holds)) c.in-Ok-send.ensures.ok

pub returns-in-Err-send-clause-heard : goal.returns-in-Err-send-clause-heard
returns-in-Err-send-clause-heard g c = λ line whole holds input left read.
    let sent = g.W.Sink.contents c.args.writer.now in
    let e = desk c.hear.new.talk (g.W.Sink.contents c.hear.new.writer) c.hear.new.out.items in
    quit_broken g.T.Talk.replies (desk c.args.talk.now sent []) e line c.args.block.now c.hear.new.held
    (g.W.Sink.contents c.send-in-Quit.new.writer) input left read
    (rw (← c.requires.out) (c.in-Quit.ensures.heard line whole holds)) c.in-Err-send.ensures.err

pub returns-in-Broken-clause-heard : goal.returns-in-Broken-clause-heard
returns-in-Broken-clause-heard g c = λ line whole holds input left read.
    let sent = g.W.Sink.contents c.args.writer.now in
    let e = desk c.hear.new.talk (g.W.Sink.contents c.hear.new.writer) c.hear.new.out.items in
    block_broken g.T.Talk.replies (desk c.args.talk.now sent []) e line c.args.block.now c.hear.new.held
    input left read (rw (← c.requires.out) (c.in-Broken.ensures.heard line whole holds))
