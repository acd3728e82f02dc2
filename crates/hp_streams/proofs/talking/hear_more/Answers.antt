use Rattle.std.proofs.Common.{[], refl}
use Rattle.hp_streams.specs.Talks.{desk}
use Rattle.hp_streams.proofs.Heard.{unread}
use Rattle.hp_streams.proofs.talking.hear_more.Goals as goal

pub returns-in-Err-clause-heard : goal.returns-in-Err-clause-heard
returns-in-Err-clause-heard g c = λ line whole holds.
    unread g.T.Talk.replies (desk c.args.talk.now (g.W.Sink.contents c.args.writer.now) []) line
    (g.R.Source.remaining c.args.reader.now) (g.R.Source.remaining c.read.new.self) c.in-Err.ensures.bytes
    whole refl
