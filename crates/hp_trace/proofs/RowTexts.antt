-- A row as text.
use Rattle.std.proofs.Common.{arith, ◌≡◌, ℕ, List, ◌++◌, ◌∙◌, Some, Result, OnOk, ap, append_assoc, sym}
use Rattle.std.specs.Prelude.{codes}
use Rattle.hp_machine.specs.Machine.{MachineValue}
use Rattle.hp_map.specs.Rows.{RowValue}
use Rattle.hp_trace_json.specs.Ascii.{AddsLine}
use Rattle.hp_trace_json.specs.Parts.{state_of}
use Rattle.hp_trace_json.specs.Traces.{TraceValue}
use Rattle.hp_trace.specs.Columns.{IsRowIn}
use Rattle.hp_trace.specs.Rows.{IsRowTold, IsTextTold, IsWritten, RowsValue}

pub row_in : (asked answer below beside memory old new was_asked was_answered : List ℕ)
    → was_asked ≡ asked → was_answered ≡ answer
    → new
    ≡ old ++ (was_asked ++ (below ++ (codes " " ++ (was_answered ++ (beside ++ (memory ++ codes "\n"))))))
    → IsRowIn asked answer old new
row_in asked answer below beside memory old new was_asked was_answered is_asked is_answered written =
    rw (← is_asked, ← is_answered)
    (record { gap = below ++ codes " "; memory = beside ++ memory; is = simp append_assoc written })

pub row_written : (row : RowValue) (old inside : RowsValue) (text : List ℕ) (kept : List RowValue)
    → old ≡ inside → IsRowIn row.asked row.answer inside.text text
    → IsWritten row old (record inside { text = text; kept = kept })
row_written row old inside text kept same written = grind arith

-- a row that was written, and is kept in place of the last one
pub row_kept : (row : RowValue) (old mid inside : RowsValue) (kept : List RowValue) → mid ≡ inside
    → IsWritten row old mid → IsWritten row old (record inside { kept = kept })
row_kept row old mid inside kept same w = record {
  text = w.text;
  kept = kept;
  written = w.written;
  is = ap (λ (r : RowsValue). record r { kept = kept }) (sym same ∙ w.is);
}

-- a row and a text as JSON
pub from_both : {T E : Type 0} (r : Result T E) (P Q R : Type 0) → (P → Q → R) → OnOk r P → OnOk r Q
    → OnOk r R
from_both r P Q R f p q = grind arith

pub row_told : (m : MachineValue) (old inside : RowsValue) (json : TraceValue) → old ≡ inside
    → AddsLine inside.json.text json.text → json.seen ≡ Some (state_of m)
    → IsRowTold m old (record inside { json = json })
row_told m old inside json same line seen = grind arith

pub text_told : (old inside : RowsValue) (json : TraceValue) → old ≡ inside
    → AddsLine inside.json.text json.text → json.seen ≡ inside.json.seen
    → IsTextTold old (record inside { json = json })
text_told old inside json same line seen = grind arith
