-- The place is counted, and the walk stands at the one before it.
use Rattle.std.proofs.Common.{◌≡◌, List, length, ap, refl, sym, ◌∙◌, arith}
use Rattle.hp_explore.specs.Frames.{frames_of}
use Rattle.hp_schedules.specs.Schedules.{schedule_of}
use Rattle.hp_units.specs.declared.replies.Record.{Record}
use Rattle.hp_schedules.specs.Cursors.{AreCursors}
use Rattle.hp_schedules.specs.declared.cursors.Cursor.{Cursor}
use Rattle.hp_states.specs.Frames.{GoOn, IsLeaving}
use Rattle.hp_states.specs.Places.{memory_at, standing}
use Rattle.hp_states.specs.Seen.{Grow}
use Rattle.hp_states.specs.Walks.{IsNotedAtEnd, IsPartWalkedThrough}
use Rattle.hp_explore.proofs.Framing.{back_setting, below_many, gone_back}
use Rattle.hp_states.proofs.Entered.{frame_goes_on, go_on_twice}
use Rattle.hp_states.proofs.Keeping.{memo_added, memo_same, way_same}
use Rattle.hp_states.proofs.Noting.{noted_grows, walked_on}
use Rattle.hp_explore.proofs.Weights.{left_back}
use Rattle.hp_explore.proofs.walk.Walk.go_back.Given.{Over}
use Rattle.hp_explore.proofs.walk.Walk.go_back.Goals as goal
use Rattle.hp_explore.proofs.walk.Walk.go_back.Goals.{In_ok-note}

-- what is noted, by the path's records
noted_here : (o : Over) (c : In_ok-note o)
    → IsNotedAtEnd c.args.is_end c.args.self.now.processors
    (standing c.args.self.now.path.setting c.args.self.now.path.news) c.args.self.now.tally.ends
    c.note.new.tally.ends
noted_here o c =
    let w = c.args.self.now in
    rw c.records.ensures at (c.in_ok-note.ensures.ok w.path.setting
    (c.memory.ensures ∙ ap (memory_at w.path.setting) (sym c.records.ensures)))

-- the ends are those through the place
through : (o : Over) (c : In_ok-note o)
    → IsPartWalkedThrough c.args.self.now.path.setting c.args.self.now.part
    (schedule_of c.args.self.now.path.news) c.note.new.tally.ends
through o c =
    let w = c.args.self.now in
    let turns = c.requires.kept.walked.0 in
    let same : c.args.frame.next ≡ w.processors =
    omega (arith, turns.within, c.requires.all, c.requires.kept.processors) in
    walked_on w.path.setting w.part w.path.news w.processors c.args.is_end w.tally.ends c.note.new.tally.ends
    c.requires.kept.processors c.is_played.ensures c.requires.end
    (rw same at turns.walked)
    (noted_here o c)

grown : (o : Over) (c : In_ok-note o) → Grow c.args.self.now.tally.ends c.note.new.tally.ends
grown o c =
    let w = c.args.self.now in
    noted_grows w.processors w.path.news w.path.setting c.args.is_end _ _ (noted_here o c)

noted_on : (o : Over) (c : In_ok-note o)
    → GoOn (length c.args.self.now.tally.trail) c.args.self.now.tally c.note.new.tally
noted_on o c = record { grown = grown o c; told = c.in_ok-note.ensures.trail }

leaves : (o : Over) (c : In_ok-note o) (records : List Record) (cursors : List Cursor)
    → records ≡ c.args.self.now.path.news
    → AreCursors c.args.self.now.path.setting c.args.self.now.path.news cursors
    → IsLeaving c.args.self.now.path.setting c.args.self.now.part records cursors c.note.new.tally
    c.args.self.now.memo c.args.frame
leaves o c records cursors is at =
    let w = c.args.self.now in
    rw is (record {
      played = c.is_played.ensures;
      cursors_are = at;
      frame_is =
          frame_goes_on w.path.setting w.part (length w.tally.trail) w.tally c.note.new.tally w.path.news
          c.args.frame c.requires.kept.walked.1.within (noted_on o c) c.requires.kept.walked.1;
      through = through o c;
      memo_is =
          memo_added w.path.setting w.tally.ends c.note.new.tally.ends w.memo (grown o c)
          c.requires.kept.memo;
      way = c.requires.kept.way;
    })

pub leave-requires-clause-processors : goal.leave-requires-clause-processors
leave-requires-clause-processors o c = c.requires.kept.processors ∙ sym c.positions.ensures.many

pub leave-requires-clause-leaving : goal.leave-requires-clause-leaving
leave-requires-clause-leaving o c = (
  c.args.self.now.path.setting,
  leaves o (goal.at.leave-requires-clause-leaving o c).In_ok-note _ _ c.records-2.ensures c.positions.ensures,
)

pub returns-clause-kept : goal.returns-clause-kept
returns-clause-kept o c =
    let w = c.args.self.now in
    let here = (goal.at.returns-clause-kept o c).In_ok-note in
    let all =
    gone_back w.path.setting w.part c.args.frame.start w.tally c.leave.new.tally w.path.news (frames_of w)
    _ _ _ _ _ refl
    (go_on_twice _ _ _ _ _ c.requires.kept.walked.1.within (noted_on o here) c.leave.ensures.tally)
    c.requires.kept.walked.2
    (rw c.leave.ensures.ends (through o here))
    c.take_back.ensures.back.1
    (memo_same _ _ _ _ c.take_back.ensures.same (c.in_ok-leave.ensures.memo w.path.setting
    (leaves o here _ _ c.records-2.ensures c.positions.ensures)))
    c.requires.kept.processors c.requires.kept.short in
    record {
      walked = all.0;
      memo = all.1;
      way =
          c.take_back.ensures.way (way_same w.path.setting w.path.news w.memo c.leave.new.memo
          c.leave.ensures.same c.requires.kept.way);
      processors = all.2;
      few = c.requires.kept.few;
      short = all.3;
    }

pub returns-clause-less : goal.returns-clause-less
returns-clause-less o c =
    let w = c.args.self.now in
    rw (back_setting _ _ _ _ _ refl c.take_back.ensures.back.1) (left_back w.processors
    w.path.setting.layout.history (frames_of w) c.args.frame
    (omega (arith, c.requires.kept.walked.0.within, c.requires.kept.processors))
    (omega (arith, below_many _ w.part _ _ _ (frames_of w) c.requires.kept.walked.2, c.requires.kept.short)))

pub returns-clause-same : goal.returns-clause-same
returns-clause-same o c = (
  back_setting _ _ _ _ _ refl c.take_back.ensures.back.1,
  c.leave.ensures.limit ∙ c.note.ensures.limit,
  refl,
)
