-- The frame of an owner's page before and after a change.
use Rattle.std.specs.Prelude.{ℕ, Option, None, Some}
use Rattle.hp_tape.specs.declared.frame_changes.FrameChange.{FrameChange}
use Rattle.hp_tape.specs.declared.frame_changes.FrameChange.TheVariants.{Mapped, Unmapped, Moved}

abbrev pub frame_before : FrameChange → Option ℕ
frame_before (Mapped frame) = None
frame_before (Unmapped frame) = Some frame
frame_before (Moved was now) = Some was

abbrev pub frame_after : FrameChange → Option ℕ
frame_after (Mapped frame) = Some frame
frame_after (Unmapped frame) = None
frame_after (Moved was now) = Some now
