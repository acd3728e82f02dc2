-- Where a call was made the walk comes to a place by it.
use Rattle.std.proofs.Common.{true, false, length, ap, refl, sym, ◌∙◌, arith, ◌≡◌}
use Rattle.hp_explore.specs.Frames.{frames_of}
use Rattle.hp_schedules.specs.Schedules.{Setting, record_of_call, schedule_of}
use Rattle.hp_states.specs.declared.frames.Level.{Level}
use Rattle.hp_explore.proofs.Framing.{forth_setting, frames_pushed, short_on, some_news, walk_leads}
use Rattle.hp_states.proofs.Keeping.{memo_extended}
use Rattle.std.proofs.lemmas.Result.{err_from_is_err_and}
use Rattle.hp_explore.proofs.OfPart.{cause_within}
use Rattle.hp_explore.proofs.Weights.{left_led, left_passed}
use Rattle.hp_explore.proofs.walk.Walk.go_on.Goals as goal
use Rattle.hp_schedules.proofs.Alike.{call_leaves, event_kept}
use Rattle.hp_explore.specs.Paths.{PathValue}
use Rattle.hp_states.proofs.Rooms.{done_over}
use Rattle.hp_states.proofs.Noting.{over_next}

pub passed-requires : goal.passed-requires
passed-requires o c = omega (arith, c.requires.some, c.requires.kept.few)

pub led_on-requires : goal.led_on-requires
led_on-requires o c = omega (arith, c.requires.some, c.requires.kept.few)

pub returns-then-not-branch-clause-kept : goal.returns-then-not-branch-clause-kept
returns-then-not-branch-clause-kept o c =
    let w = c.args.self.now in
    let forth = rw c.if-not-branch.true at c.in_ok-forward.ensures.ok in
    let same = forth_setting w.path c.forward.new.self c.args.frame.next false forth in
    let was = c.requires.kept.walked in
    let pushed = frames_pushed _ _ _ _ c.in_ok-reserve.ensures.items c.push_reserved.ensures.items in
    record {
      walked =
          rw (forth.1, pushed, c.passed.ensures) (
            record {
              walked =
                  done_over w.path.setting w.part (schedule_of w.path.news) w.path.news c.args.frame.next
                  w.tally.ends c.is_played.ensures forth.0 was.0.walked;
              over =
                  over_next w.path.setting w.path.news c.args.frame.next c.args.frame.is_over forth.0
                  was.0.over;
              within = omega (arith, c.requires.some, c.requires.kept.processors);
            },
            record { comes = was.1.comes; within = was.1.within; reached = was.1.reached },
            was.2,
          );
      memo = rw same c.requires.kept.memo;
      way = rw forth.1 c.requires.kept.way;
      processors = c.requires.kept.processors ∙ ap (λ (g : Setting). length g.scripts) (sym same);
      few = c.requires.kept.few;
      short = rw forth.1 c.requires.kept.short;
    }

pub returns-then-not-branch-clause-less : goal.returns-then-not-branch-clause-less
returns-then-not-branch-clause-less o c =
    let w = c.args.self.now in
    let n = w.processors in
    let most = w.path.setting.layout.history in
    let same = forth_setting _ _ _ _ c.in_ok-forward.ensures.ok in
    let pushed = frames_pushed _ _ _ _ c.in_ok-reserve.ensures.items c.push_reserved.ensures.items in
    rw (same, pushed) (left_passed n most (frames_of w) c.args.frame c.passed.result c.requires.some
    (ap (λ (f : Level). f.next) c.passed.ensures))

pub returns-then-not-branch-clause-same : goal.returns-then-not-branch-clause-same
returns-then-not-branch-clause-same o c = (forth_setting _ _ _ _ c.in_ok-forward.ensures.ok, refl, refl)

pub come_to-requires-clause-coming : goal.come_to-requires-clause-coming
come_to-requires-clause-coming o c =
    let w = c.args.self.now in
    let forth = rw c.if-not-branch.false at c.in_ok-forward.ensures.ok in
    let same = forth_setting w.path c.forward.new.self c.args.frame.next true forth in
    let pushed = frames_pushed _ _ _ _ c.in_ok-reserve.ensures.items c.push_reserved-2.ensures.items in
    let led = walk_leads w.path.setting w.part w.tally w.path.news _ c.args.frame (frames_of w) forth.0
    c.is_played.ensures forth.1 forth.2 (omega (arith, c.requires.some, c.requires.kept.processors)) refl
    c.requires.kept.walked in
    let latest : c.latest.result.now ≡ record_of_call w.path.setting w.path.news c.args.frame.next forth.0 =
    c.latest.ensures w.path.news _ (c.records.ensures ∙ ap (λ (x : PathValue). x.news) forth.3) in
    record {
      walked = rw forth.3 led.0;
      on = rw forth.3 led.1;
      below = rw (forth.3, pushed, c.led_on.ensures) led.2;
      memo =
          rw same (memo_extended w.path.setting w.tally.ends w.memo c.go_on.new.self c.go_on.ensures.same
          c.go_on.ensures.kept c.requires.kept.memo);
      way =
          rw (forth.3, ← latest) (c.in_ok-go_on.ensures.ok w.path.setting w.path.news c.requires.kept.way
          (λ set. rw (latest, event_kept) (call_leaves w.path.setting w.path.news c.args.frame.next forth.0
          (c.requires.kept.memo.mergeable set) forth.1)));
      processors = c.requires.kept.processors ∙ ap (λ (g : Setting). length g.scripts) (sym same);
      few = c.requires.kept.few;
      short = short_on w.path c.forward.new.self c.args.frame.next forth;
    }

pub latest-requires : goal.latest-requires
latest-requires o c =
    let forth = rw c.if-not-branch.false at c.in_ok-forward.ensures.ok in
    omega (arith, some_news _ c.forward.new.self c.args.frame.next forth, ap length c.records.ensures)

pub returns-clause-less : goal.returns-clause-less
returns-clause-less o c =
    let same = forth_setting _ _ _ _ c.in_ok-forward.ensures.ok in
    let pushed = frames_pushed _ _ _ _ c.in_ok-reserve.ensures.items c.push_reserved-2.ensures.items in
    left_led c.args.self.now.processors _ _ (frames_of c.args.self.now) _ c.args.frame c.led_on.result _ same
    pushed c.requires.some (ap (λ (f : Level). f.next) c.led_on.ensures) c.in_ok-come_to.ensures.less

pub returns-clause-same : goal.returns-clause-same
returns-clause-same o c =
    let same = c.in_ok-come_to.ensures.same in
    (same.0 ∙ forth_setting _ _ _ _ c.in_ok-forward.ensures.ok, same.1, same.2)

pub go_on-requires : goal.go_on-requires
go_on-requires o c = (c.args.self.now.path.setting, c.args.self.now.path.news, c.requires.kept.way)

pub returns-in_err-forward-clause-err : goal.returns-in_err-forward-clause-err
returns-in_err-forward-clause-err o c =
    let w = c.args.self.now in
    let p =
    err_from_is_err_and c.from_residual-in_err-forward.result c.from_residual-in_err-forward.ensures.1 in
    rw (p.1, p.2)
    (cause_within w.path.setting w.part w.path.news c.args.frame.next w.tally.ends w.tally.limit
    c.in_err-forward.field-0.0 c.is_played.ensures c.requires.kept.walked.1.comes
    c.requires.kept.walked.0.walked (omega (arith, c.room.ensures)) c.in_err-forward.ensures.cause)
