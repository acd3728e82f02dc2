-- The names of later lines do not change how a line is written.
use Rattle.std.proofs.Common.{◌≡◌, ℕ, ◌<◌, not, Bool, true, false, List, [], ◌∷◌, ◌++◌, length, Option, Some, None, refl, sym, ap, ◌∙◌, append_assoc, append-nil, arith, if◌then◌else◌, option_map}
use Rattle.std.specs.Prelude.{codes}
use Rattle.std.specs.Fmt.{decimal}
use Rattle.std.specs.List.{AllByRecursion, list_any, position_or_len}
use Rattle.std.specs.Str.{bytes_eq}
use Rattle.std.proofs.lemmas.List.{get_or_append_left, length-append}
use Rattle.std.proofs.lemmas.List.Sums.{prefix_len-le-length}
use Rattle.std.proofs.lemmas.Option.{none-some, same_Some, slice_get-get_or}
use Rattle.indexmap.specs.IndexSet.{insert_key}
use Rattle.hp_units.specs.declared.events.Event.{Event}
use Rattle.hp_scenario.specs.Lines.{Request, Said, line_says, named, plain}
use Rattle.hp_scenario.specs.Names.{Numbered, access_event, line_in, names_with, numbered, owner_of, work_of}
use Rattle.hp_scenario.specs.Spelling.{FitsEvent, FitsRequest}
use Rattle.hp_scenario.proofs.LineLaw.{lines_law}
use Rattle.hp_text.specs.Lines.{shown_line, shown_work}
use Rattle.hp_text.specs.Spelling.{event_text}
use Rattle.hp_text.specs.declared.escapes.Brackets.TheVariants.{Escaped}
use Rattle.hp_trace.specs.Lives.{AreRead}

-- ---- a name

found : (p : List ℕ → Bool) (xs : List (List ℕ)) → list_any p xs ≡ true → position_or_len p xs < length xs
found p [] any = absurd cc
found p (x ∷ xs) any = grind (arith, (found p xs))

-- a name that is put among the names, if it is new, has its number there
owner_inside : (names : List (List ℕ)) (name : List ℕ)
    → owner_of names name < length (insert_key bytes_eq names name)
owner_inside names name = by_test (list_any (bytes_eq name) names) refl
  where
    by_test : (b : Bool) → list_any (bytes_eq name) names ≡ b
        → owner_of names name < length (if b then names else names ++ name ∷ [])
    by_test true is = found (bytes_eq name) names is
    by_test false is =
        omega (
          arith,
          length-append names (name ∷ []),
          prefix_len-le-length (λ x. not (bytes_eq name x)) names,
        )

names_grow : (names : List (List ℕ)) (name : List ℕ)
    → (more : List (List ℕ)) × (insert_key bytes_eq names name ≡ names ++ more)
names_grow names name = by_test (list_any (bytes_eq name) names)
  where
    by_test : (b : Bool)
        → (more : List (List ℕ)) × ((if b then names else names ++ name ∷ []) ≡ names ++ more)
    by_test true = ([], sym (append-nil names))
    by_test false = (name ∷ [], refl)

-- ---- the work of a line

access_kept : (names more : List (List ℕ)) (owner : ℕ) (a : _) → owner < length names
    → event_text names (access_event owner a) ≡ event_text (names ++ more) (access_event owner a)
access_kept names more owner a inside =
    grind (
      arith,
      slice_get-get_or names owner [] inside,
      get_or_append_left names more [] owner inside,
      slice_get-get_or (names ++ more) owner [] (omega (arith, length-append names more)),
    )

-- of the events that are written without an owner
event_kept : (names other : List (List ℕ)) (e : Event) → FitsEvent e → event_text names e ≡ event_text other e
event_kept names other e fits = grind arith

request_kept : (names more : List (List ℕ)) (r : Request) → FitsRequest r
    → shown_work Escaped (names_with names r) (work_of names r)
    ≡ shown_work Escaped (names_with names r ++ more) (work_of names r)
request_kept names more r fits = grind (arith, access_kept, owner_inside, event_kept)

request_grows : (names : List (List ℕ)) (r : Request)
    → (more : List (List ℕ)) × (names_with names r ≡ names ++ more)
request_grows names (plain w) = ([], sym (append-nil names))
request_grows names (named name a) = names_grow names name

-- ---- a line

-- what is written of a line that was read stays with more names
pub record IsKept (names : List (List ℕ)) (n : Numbered) : Type 0 where
  pub more : List (List ℕ)
  pub grown : n.names ≡ names ++ more
  pub alike : (later : List (List ℕ))
      → shown_line Escaped n.names n.line ≡ shown_line Escaped (n.names ++ later) n.line

said_kept : (names : List (List ℕ)) (said : Said) → FitsRequest said.request
    → IsKept names (numbered names said)
said_kept names said fits =
    let grows = request_grows names said.request in
    record {
      more = grows.0;
      grown = grows.1;
      alike = λ later.
          ap (λ (t : List ℕ). decimal said.cpu ++ codes " " ++ t)
          (request_kept names later said.request fits);
    }

line_kept : (names : List (List ℕ)) (text : List ℕ) (n : Numbered) → line_in names text ≡ Some n
    → IsKept names n
unfolding line_in
line_kept names text n read = by_said (line_says text) refl read
  where
    by_said : (o : Option Said) → line_says text ≡ o → option_map (numbered names) o ≡ Some n
        → IsKept names n
    by_said None is read = absurd (none-some n read)
    by_said (Some said) is read =
        rw (← same_Some (numbered names said) n read) (said_kept names said ((lines_law text said).0 is).1.1)

-- ---- lines read one after another

-- a line is written the same by these names as by those when it was read
abbrev pub IsWrittenAlike : (names : List (List ℕ)) → Numbered → Type 0
IsWrittenAlike names n = shown_line Escaped n.names n.line ≡ shown_line Escaped names n.line

lines_kept : (names : List (List ℕ)) (read : List Numbered) (last : List (List ℕ)) → AreRead names read last
    → (more : List (List ℕ)) × (last ≡ names ++ more) × AllByRecursion (IsWrittenAlike last) read
lines_kept names [] last are = ([], are ∙ sym (append-nil names), tt)
lines_kept names (n ∷ read) last are =
    let one = line_kept names are.0 n are.1 in
    let rest = lines_kept n.names read last are.2 in (
      one.more ++ rest.0,
      rest.1 ∙ ap (λ (l : List (List ℕ)). l ++ rest.0) one.grown ∙ append_assoc names one.more rest.0,
      (rw rest.1 (one.alike rest.0), rest.2),
    )

pub all_written_alike : (names : List (List ℕ)) (read : List Numbered) (last : List (List ℕ))
    → AreRead names read last → AllByRecursion (IsWrittenAlike last) read
all_written_alike names read last are = (lines_kept names read last are).2
