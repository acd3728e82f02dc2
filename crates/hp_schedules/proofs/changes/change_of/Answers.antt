-- A refused record changes nothing; any other does what its event says.
use Rattle.std.proofs.Common.{◌≡◌, ◌≢◌, true, false, ap, refl, sym, ◌∙◌}
use Rattle.hp_units.specs.History.{is_refused}
use Rattle.hp_units.specs.declared.events.Event.{Event}
use Rattle.hp_units.specs.declared.replies.Record.{Record}
use Rattle.hp_units.specs.declared.replies.Refusal.{Refusal}
use Rattle.hp_units.specs.declared.replies.Reply.{Reply}
use Rattle.hp_units.specs.declared.replies.Reply.TheVariants.{Refused}
use Rattle.hp_schedules.specs.Openings.{change_by, change_of}
use Rattle.hp_schedules.specs.declared.changes.Change.TheVariants.{Stays}
use Rattle.hp_schedules.proofs.changes.change_of.Goals.{in-Refused, in_default}
use Rattle.hp_schedules.proofs.changes.change_of.Goals as goal

-- a reply that is no refusal
not_refused : (reply : Reply) → ((x : Refusal) → reply ≢ Refused x) → is_refused reply ≡ false
not_refused (Refused x) kept = absurd (kept x refl)
not_refused reply kept = refl

-- what a record does, where it is refused and where not
refused_stays : (r : Record) → is_refused r.reply ≡ true → Stays ≡ change_of r
refused_stays r refused = rw refused refl

done_by : (r : Record) (e : Event) → is_refused r.reply ≡ false → r.event ≡ e → change_by e ≡ change_of r
done_by r e kept is = rw kept (ap change_by (sym is))

pub returns-in-Migrate : goal.returns-in-Migrate
returns-in-Migrate c =
    let r = c.args.latest.now in
    let told : is_refused r.reply ≡ c.match-matches.matches =
    elim c.match-matches.branch [
      | in-Refused w ↦ ap is_refused w.in-Refused.is ∙ sym w.matches-is
      | in_default w ↦ not_refused r.reply w.in_default.not-Refused ∙ sym w.matches-is
    ] in
    done_by r _ (told ∙ c.if-matches.false) c.in-Migrate.is

pub returns-then-matches : goal.returns-then-matches
returns-then-matches c =
    let r = c.args.latest.now in
    let told : is_refused r.reply ≡ c.match-matches.matches =
    elim c.match-matches.branch [
      | in-Refused w ↦ ap is_refused w.in-Refused.is ∙ sym w.matches-is
      | in_default w ↦ not_refused r.reply w.in_default.not-Refused ∙ sym w.matches-is
    ] in
    refused_stays r (told ∙ c.if-matches.true)
