-- A change alone, as a JSON object.
use Rattle.std.specs.Prelude.{ℕ, ◌≡◌, ◌≢◌, ◌⊎◌, ◌==◌, ◌&&◌, not, Bool, List, [], ◌∷◌, ◌++◌, None, codes, is_some, length}
use Rattle.json.specs.Lex.{tokens}
use Rattle.json.specs.Print.{print}
use Rattle.json.specs.Token.{Token, begin_object, end_object, key}
use Rattle.json.specs.Written.{Written}
use Rattle.hp_trace_json.specs.Changes.{ChangeValue}

-- ---- tokens

-- these tokens were appended
pub record Puts (old new : Written) (ts : List Token) : Type 0 where
  pub before : new.before ≡ old.before
  pub tokens : new.tokens ≡ old.tokens ++ ts

-- some tokens were appended
abbrev pub PutsSome : (old new : Written) → Type 0
PutsSome old new = (ts : List Token) × Puts old new ts

-- ---- changes

-- nothing changed
abbrev pub no_change : ChangeValue
no_change = record {
  blocks = [];
  pageblocks = [];
  free_lists = [];
  cpu_lists = [];
  kernel = [];
  pages = [];
  words = [];
  auto = None;
}

-- whether nothing changed
abbrev pub is_all_kept : ChangeValue → Bool
is_all_kept c =
    (length c.blocks == 0) && (length c.pageblocks == 0) && (length c.free_lists == 0)
    && (length c.cpu_lists == 0) && (length c.kernel == 0) && (length c.pages == 0)
    && (length c.words == 0) && not (is_some c.auto)

-- the tokens for a change: either none, if nothing changed, or an object at the key `change`
abbrev pub TellsChange : ChangeValue → (ts : List Token) → Type 0
TellsChange c ts =
    ((c ≡ no_change) × (ts ≡ []))
    ⊎ ((more : List Token) × (c ≢ no_change)
    × (ts ≡ key (codes "change") ∷ begin_object ∷ (more ++ end_object ∷ [])))

-- the tokens for a change were appended
abbrev pub PutsChange : (old : Written) → ChangeValue → (new : Written) → Type 0
PutsChange old c new = (ts : List Token) × Puts old new ts × TellsChange c ts

-- an object with the tokens for a change; a reader finds these tokens in it
pub record IsChangeObject (c : ChangeValue) (text : List ℕ) : Type 0 where
  pub inside : List Token
  pub told : TellsChange c inside
  pub is : text ≡ print (begin_object ∷ (inside ++ end_object ∷ []))
  pub reads : tokens text ≡ begin_object ∷ (inside ++ end_object ∷ [])
