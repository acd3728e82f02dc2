-- The tokens of a plain text that are still to come.
use Rattle.std.specs.Prelude.{◌≡◌, ℕ, List, ◌∷◌}
use Rattle.json.specs.Token.{Token}
use Rattle.json.specs.Lex.{between, lex, fresh, after_value, after_comma, punctuate}
use Rattle.json.specs.Lex as json
use Rattle.json.specs.Reads.{token_of}
use Rattle.hp_scenario.specs.declared.plain_reader.Found.{Found}
use Rattle.hp_scenario.specs.declared.plain_reader.Place.{Place}
use Rattle.hp_scenario.specs.declared.plain_reader.Place.TheVariants.{Fresh, AfterValue, AfterComma}

-- a reader's place, as json's grammar has it
abbrev pub place_of : Place → json.Place
place_of Fresh = fresh
place_of AfterValue = after_value
place_of AfterComma = after_comma

-- the tokens of `text`, for a reader that is at `place`
abbrev pub tokens_at : Place → List ℕ → List Token
tokens_at place text = punctuate (place_of place) (lex between text)

-- the tokens are the found one, and then those of the text after it
abbrev pub IsFound : List Token → Found → Type 0
IsFound tokens found = tokens ≡ token_of found.token ∷ tokens_at found.place found.rest.now
