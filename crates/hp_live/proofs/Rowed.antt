-- Replies in rows.
use Rattle.std.proofs.Common.{◌≡◌, ℕ, List, [], ◌∷◌, ◌++◌, Option, Some, inr, length, refl}
use Rattle.std.specs.Prelude.{option_map}
use Rattle.hp_scripts.specs.Bindings.{Bound}
use Rattle.hp_scripts.specs.declared.plain.PlainLine.{PlainLine}
use Rattle.hp_scenario.specs.Asked.{asked_by}
use Rattle.hp_scenario.specs.Names.{Numbered, line_in}
use Rattle.hp_scenario.specs.declared.lines.Line.{Line}
use Rattle.hp_trace.specs.Lives.{LiveValue}
use Rattle.hp_live.specs.Results.{IsKnown, number_left, typed_by}
use Rattle.hp_live.specs.RowTalks.{IsLostTyped}

-- the line that a plain text is
pub typed_is : (names after : List (List ℕ)) (plain : PlainLine) (found : Option Line) (line : Line)
    → found ≡ Some line
    → option_map {T = Line} {U = Numbered} (λ l. record { names = after; line = l }) found
    ≡ line_in names plain.text
    → typed_by names plain
    ≡ Some (record { numbered = record { names = after; line = line }; naming = plain.naming })
typed_is names after plain found line at read = rw (← read, at)

-- without memory, a line that was read and is kept
pub kept_lost : (names after : List (List ℕ)) (lines kept : List Line) (bound noted : Bound)
    (trace later : LiveValue) (was now : List ℕ) (plain : PlainLine) (found : Option Line) (line : Line)
    (number : ℕ)
    → found ≡ Some line
    → option_map {T = Line} {U = Numbered} (λ l. record { names = after; line = l }) found
    ≡ line_in names plain.text
    → kept ≡ lines ++ line ∷ [] → number ≡ number_left (asked_by line.work) trace.machine later.machine
    → IsKnown bound plain.naming (length lines) number noted
    → IsLostTyped (record { names = names; lines = lines; bound = bound; trace = trace; text = was })
    (typed_by names plain)
    (record { names = after; lines = kept; bound = noted; trace = later; text = now })
kept_lost names after lines kept bound noted trace later was now plain found line number at read keeps is
    known =
    inr (
      record { numbered = record { names = after; line = line }; naming = plain.naming },
      typed_is names after plain found line at read,
      record { names = refl; lines = keeps },
      rw (← is) known,
    )
