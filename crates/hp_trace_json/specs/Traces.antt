-- The rows of a trace so far.
use Rattle.std.specs.Prelude.{ℕ, List, [], Option, None}
use Rattle.hp_plain.specs.Image.{Pictured}

-- the text of the rows so far, the state that the last row shows, and the serials of the steps that
-- are not undone
pub record TraceValue : Type 0 where
  pub text : List ℕ
  pub seen : Option Pictured
  pub steps : List ℕ

-- the trace before the first row
abbrev pub no_trace : TraceValue
no_trace = record { text = []; seen = None; steps = [] }
