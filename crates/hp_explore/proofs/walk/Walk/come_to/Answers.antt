-- The place is left at once, or gets its frame.
use Rattle.std.proofs.Common.{length, reverse, ap, refl, sym, true, ◌∙◌, arith}
use Rattle.hp_explore.specs.Frames.{frames_of}
use Rattle.hp_states.specs.Frames.{IsEntered}
use Rattle.hp_states.specs.Places.{memory_at}
use Rattle.hp_states.specs.Seen.{IsOnWay}
use Rattle.hp_states.specs.declared.frames.Level.{Level}
use Rattle.hp_schedules.specs.Notes.{TallyValue}
use Rattle.hp_explore.proofs.Framing.{arrival, back_setting, below_many, frames_pushed, gone_back, walk_opens}
use Rattle.hp_states.proofs.Keeping.{memo_added, memo_same}
use Rattle.hp_explore.proofs.Weights.{left_counted, left_opened}
use Rattle.hp_explore.proofs.walk.Walk.come_to.Given.{Over}
use Rattle.hp_explore.proofs.walk.Walk.come_to.Goals as goal
use Rattle.hp_explore.proofs.walk.Walk.come_to.Goals.{In_ok-treatment}

-- the frame of a place just reached
abbrev level_at : TallyValue → Level
level_at t = record { next = 0; is_over = true; start = length t.trail }

-- what the place is, by the path's records
entered_here : (o : Over) (c : In_ok-treatment o)
    → IsEntered c.args.self.now.path.setting c.args.self.now.path.news c.args.self.now.part
    c.args.self.now.tally c.arrive.new.tally c.in_ok-treatment.treatment
entered_here o c =
    let w = c.args.self.now in
    rw c.records.ensures at (c.in_ok-treatment.ensures.ok w.path.setting
    (arrival w.path w.part c.records.result.now c.memory.result.now c.positions.result.now.cursors.items
    w.tally.ends w.memo c.records.ensures c.memory.ensures c.positions.ensures c.is_played.ensures
    c.requires.coming.walked c.requires.coming.on c.requires.coming.memo c.requires.coming.way))

way_here : (o : Over) (c : In_ok-treatment o)
    → IsOnWay c.args.self.now.path.setting c.args.self.now.path.news c.arrive.new.memo
way_here o c =
    let p = c.args.self.now.path in
    rw c.records.ensures at (c.arrive.ensures.way p.setting
    (c.memory.ensures ∙ ap (memory_at p.setting) (sym c.records.ensures))
    (rw c.records.ensures c.requires.coming.way))

pub arrive-requires-clause-processors : goal.arrive-requires-clause-processors
arrive-requires-clause-processors o c = c.requires.coming.processors ∙ sym c.positions.ensures.many

pub arrive-requires-clause-arrival : goal.arrive-requires-clause-arrival
arrive-requires-clause-arrival o c =
    let w = c.args.self.now in (
      w.path.setting,
      arrival w.path w.part c.records.result.now c.memory.result.now c.positions.result.now.cursors.items
          w.tally.ends w.memo c.records.ensures c.memory.ensures c.positions.ensures c.is_played.ensures
          c.requires.coming.walked c.requires.coming.on c.requires.coming.memo c.requires.coming.way,
    )

pub returns-in-Counted-clause-kept : goal.returns-in-Counted-clause-kept
returns-in-Counted-clause-kept o c =
    let w = c.args.self.now in
    let here = (goal.at.returns-in-Counted-clause-kept o c).In_ok-treatment in
    let entered = rw c.in-Counted.is at (entered_here o here) in
    let all = gone_back w.path.setting w.part (length w.tally.trail) w.tally c.arrive.new.tally w.path.news
    (frames_of w) (reverse c.reserve.new.self.items) _ _ _ _ (ap reverse c.in_ok-reserve.ensures.items)
    entered.1 c.requires.coming.below entered.0 c.take_back.ensures.back.1
    (memo_same _ _ _ _ c.take_back.ensures.same (memo_added _ _ _ _ entered.1.grown
    (c.arrive.ensures.memo w.path.setting w.tally.ends c.requires.coming.memo)))
    c.requires.coming.processors c.requires.coming.short in
    record {
      walked = all.0;
      memo = all.1;
      way = c.take_back.ensures.way (way_here o here);
      processors = all.2;
      few = c.requires.coming.few;
      short = all.3;
    }

pub returns-in-Counted-clause-less : goal.returns-in-Counted-clause-less
returns-in-Counted-clause-less o c =
    let w = c.args.self.now in
    rw (back_setting _ _ _ _ _ refl c.take_back.ensures.back.1, c.in_ok-reserve.ensures.items)
    (left_counted w.processors w.path.setting.layout.history (frames_of w))

pub returns-in-Counted-clause-same : goal.returns-in-Counted-clause-same
returns-in-Counted-clause-same o c =
    (back_setting _ _ _ _ _ refl c.take_back.ensures.back.1, c.arrive.ensures.limit, refl)

pub returns-in-Open-clause-kept : goal.returns-in-Open-clause-kept
returns-in-Open-clause-kept o c =
    let w = c.args.self.now in
    let g = w.path.setting in
    let tally = c.arrive.new.tally in
    let here = (goal.at.returns-in-Open-clause-kept o c).In_ok-treatment in
    let entered = rw c.in-Open.is at (entered_here o here) in
    let pushed = frames_pushed _ _ _ _ c.in_ok-reserve.ensures.items c.push_reserved.ensures.items in
    record {
      walked =
          rw pushed (walk_opens g w.part tally w.path.news c.in-Open.frame (frames_of w)
          (entered.1 ∙ ap (λ (t : TallyValue). level_at t) (sym entered.0)) entered.2
          (rw entered.0 c.requires.coming.walked) (rw entered.0 c.requires.coming.below));
      memo = rw entered.0 (c.arrive.ensures.memo g w.tally.ends c.requires.coming.memo);
      way = way_here o here;
      processors = c.requires.coming.processors;
      few = c.requires.coming.few;
      short = c.requires.coming.short;
    }

pub returns-in-Open-clause-less : goal.returns-in-Open-clause-less
returns-in-Open-clause-less o c =
    let w = c.args.self.now in
    let here = (goal.at.returns-in-Open-clause-less o c).In_ok-treatment in
    let entered = rw c.in-Open.is at (entered_here o here) in
    let pushed = frames_pushed _ _ _ _ c.in_ok-reserve.ensures.items c.push_reserved.ensures.items in
    rw pushed (left_opened w.processors w.path.setting.layout.history (frames_of w) c.in-Open.frame
    (ap (λ (f : Level). f.next) entered.1)
    (omega (arith, below_many _ w.part _ _ _ (frames_of w) c.requires.coming.below, c.requires.coming.short)))
