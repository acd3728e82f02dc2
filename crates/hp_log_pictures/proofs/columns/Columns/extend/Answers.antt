use Rattle.std.proofs.Common.{◌∙◌, arith}
use Rattle.hp_log_pictures.proofs.Sampling.{more_held, more_kept}
use Rattle.hp_log_pictures.proofs.columns.Columns.extend.Goals as goal

pub behind-preserved : goal.behind-preserved
behind-preserved c = record {
  low = omega (arith, c.behind.invariant.low, c.in_ok-add_some.ensures.more);
  high = omega (
    arith,
    c.behind.invariant.high,
    c.in_ok-add_some.ensures.most,
    c.event_count-in-behind.ensures.events,
  );
  count = c.in_ok-add_some.ensures.count ∙ c.behind.invariant.count;
  held = more_held c.args.self.now c.behind.self c.add_some.new.self c.behind.invariant.count
      c.behind.invariant.held c.in_ok-add_some.ensures.kept c.in_ok-add_some.ensures.held;
  kept = more_kept c.args.self.now c.behind.self c.add_some.new.self c.behind.invariant.low
      c.behind.invariant.kept c.in_ok-add_some.ensures.kept;
}
