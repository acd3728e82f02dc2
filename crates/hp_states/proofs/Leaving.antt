-- A place that the walk leaves: what was counted since it came there.
use Rattle.std.proofs.Common.{◌≡◌, ◌≤◌, List, length, drop, arith}
use Rattle.std.proofs.lemmas.List.{length-map}
use Rattle.hp_units.specs.declared.replies.Record.{Record}
use Rattle.hp_schedules.specs.Notes.{TallyValue}
use Rattle.hp_schedules.specs.Parts.{PartValue}
use Rattle.hp_schedules.specs.Schedules.{Setting, schedule_of}
use Rattle.hp_schedules.specs.Trails.{KeepsBefore}
use Rattle.hp_schedules.specs.declared.cursors.Cursor.{Cursor}
use Rattle.hp_schedules.specs.declared.trail.Share.{Share}
use Rattle.hp_states.specs.Frames.{IsKeeping, IsLeaving, counts_of}
use Rattle.hp_states.specs.Seen.{MemoValue}
use Rattle.hp_states.specs.declared.frames.Level.{Level}
use Rattle.hp_states.proofs.Counts.{counts_many}
use Rattle.hp_states.proofs.OfPart.{comes_all}

-- where all that go on from there belong to the part
pub left_kept : {g : Setting} {part : PartValue} {news : List Record} {cursors : List Cursor}
    {old : TallyValue} (new : TallyValue) {memo : MemoValue} {frame : Level} {shares : List Share}
    → part.calls ≤ length news → KeepsBefore frame.start old new → new.ends ≡ old.ends
    → shares ≡ drop frame.start new.trail → IsLeaving g part news cursors old memo frame
    → IsKeeping g news cursors new.ends shares memo
left_kept {g = g} {part = part} {news = news} new {frame = frame} long told same is leaving =
    let reached = leaving.frame_is.reached in
    record {
      played = leaving.played;
      cursors_are = leaving.cursors_are;
      walked = record {
        part = part;
        all =
            comes_all (length g.scripts) part (schedule_of news) leaving.frame_is.comes
            (omega (arith, long, length-map news (λ (r : Record). r.cpu)));
        old = reached.old;
        counted =
            rw is
            (told.told frame.start (counts_of reached.old) (omega arith)
            (omega (arith, counts_many reached.old, reached.grown.longer)) reached.counted);
        before = reached.before;
        grown = rw same reached.grown;
        through = rw same leaving.through;
      };
      memo_is = rw same leaving.memo_is;
      way = leaving.way;
    }
