use Rattle.std.proofs.Common.{◌≡◌, ℕ, ◌-◌, ◌<◌, ◌≤◌}
use Rattle.hp_log_pictures.specs.Columns.{peak_at}
use Rattle.hp_log_pictures.proofs.columns.Columns.extend.Given as goal

abbrev pub invariant-behind : goal.invariant-behind
invariant-behind l = record {
  low : l.initial.self.events ≤ l.self.events;
  high : l.self.events ≤ l.events;
  count : l.self.count ≡ l.initial.self.count;
  held : (e : ℕ) → l.initial.self.events ≤ e → e < l.self.events → l.initial.self.count ≤ peak_at l.self e;
  kept : (e : ℕ) → e < l.initial.self.events → peak_at l.initial.self e ≤ peak_at l.self e;
}

abbrev pub decreases-behind : goal.decreases-behind
decreases-behind l = l.events - l.self.events
