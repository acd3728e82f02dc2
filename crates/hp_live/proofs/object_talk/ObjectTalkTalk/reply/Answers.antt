use Rattle.std.proofs.Common.{◌+◌, refl, inl, inr}
use Rattle.std.specs.Prelude.{codes, length}
use Rattle.std.proofs.lemmas.Result.{on_ok_weaker}
use Rattle.hp_live.specs.Talks.{fault_object}
use Rattle.hp_live.proofs.object_talk.ObjectTalkTalk.reply.Goals as goal

pub returns-in-Err-clause-ok : goal.returns-in-Err-clause-ok
returns-in-Err-clause-ok c =
    on_ok_weaker c.refuse.result
    (λ e. (
      fault_object (length c.args.self.now.session.lines + 1) (codes "it is not UTF-8"),
      inl (record {
        cause = inr c.in-Err.ensures.cases.0;
        hint = codes "it is not UTF-8";
        is = refl;
        same = refl;
      }),
      e,
    )) c.refuse.ensures.ok
