use Rattle.std.proofs.Common.{ap, rules}
use Rattle.hp_live.specs.Sessions.{SessionValue}
use Rattle.hp_live.proofs.Shown.{answer_shown}
use Rattle.hp_live.proofs.object_talk.ObjectTalk.show_answer.Goals as goal

pub returns-clause-ok : goal.returns-clause-ok
returns-clause-ok c = (
  c.show.new.object.items,
  answer_shown c.args.self.now.answer c.write_hint.new.self.answer c.args.self.now.session
      c.write_hint.new.self.session c.args.self.now.states c.write_hint.new.self.states
      c.keep.new.self c.session.inside.machine c.in_ok-object.object.items c.show.new.object.items
      c.in_ok-shown.shown c.in_ok-write_hint.ensures.answer c.in_ok-write_hint.ensures.session
      c.in_ok-write_hint.ensures.states (ap (λ (s : SessionValue). s.machine) c.session.view_is)
      c.in_ok-object.ensures c.in_ok-shown.ensures c.keep.ensures,
  search rules,
)
