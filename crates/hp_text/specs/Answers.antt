-- The text of the reply to an event.
use Rattle.std.specs.Prelude.{ℕ, List, ◌++◌, codes}
use Rattle.std.specs.Fmt.{decimal}
use Rattle.hp_units.specs.Texts.{call_fault_text, reply_text}
use Rattle.hp_units.specs.declared.replies.CallFault.{CallFault}
use Rattle.hp_units.specs.declared.replies.Reply.{Reply}
use Rattle.hp_text.specs.State.{newline}

-- a reply without its serial
abbrev pub bare_reply_line : Reply → List ℕ
bare_reply_line reply = reply_text reply ++ newline

-- a serial and its reply
abbrev pub reply_line : ℕ → Reply → List ℕ
reply_line serial reply = decimal serial ++ codes ": " ++ reply_text reply ++ newline

-- why an event left no record
abbrev pub fault_line : CallFault → List ℕ
fault_line fault = codes "fault " ++ call_fault_text fault ++ newline

-- a dash in place of a serial, and why there is none
abbrev pub unrecorded_line : CallFault → List ℕ
unrecorded_line fault = codes "-: fault " ++ call_fault_text fault ++ newline

-- how many records a seal handed out
abbrev pub sealed_line : ℕ → List ℕ
sealed_line count = codes "sealed " ++ decimal count ++ newline
