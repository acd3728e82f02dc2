-- A text that is a line without names has none: it stays as it is.
use Rattle.std.proofs.Common.{◌≡◌, ℕ, ◌&&◌, Bool, true, false, cond, List, [], ◌∷◌, codes, Option, Some, None, refl, ap, ◌∙◌, option_map, option_and_then, arith}
use Rattle.std.specs.Prelude.{unwrap_or}
use Rattle.std.specs.Str.{bytes_eq}
use Rattle.std.proofs.lemmas.Bool.{eqb-true}
use Rattle.std.proofs.lemmas.Option.{same_Some}
use Rattle.std.proofs.lemmas.Slice.Eq.{bytes_eq-Decides}
use Rattle.hp_units.specs.NumberWords.{digits_in, is_bare, number_of}
use Rattle.hp_units.specs.declared.plans.Item.{Item}
use Rattle.hp_scenario.specs.Lines.{Request, Said, event_of, event_of_number, item_of, items_of, line_says, request_of, request_of_four, request_of_three, request_of_two, begin_of, wish_of, words_say}
use Rattle.hp_scenario.specs.Names.{Numbered, line_in, numbered}
use Rattle.hp_scenario.specs.Words.{is_name, words_of}
use Rattle.hp_scripts.specs.Bindings.{Bound}
use Rattle.hp_scripts.specs.NamedWords.{after_dollar, last_two, name_at_end, name_of_two}
use Rattle.hp_scripts.specs.Plain.{line_by_use, plain_in, plain_of, unchanged, working_line}
use Rattle.hp_scripts.specs.Results.{use_of_verb}
use Rattle.hp_scripts.specs.declared.results.NameUse.{NameUse}
use Rattle.hp_scripts.specs.declared.results.NameUse.TheVariants.{Gives, Takes}
use Rattle.hp_scripts.specs.declared.results.ResultKind.{ResultKind}
use Rattle.hp_scripts.specs.declared.results.ResultKind.TheVariants.{Operation, Frame}

-- ---- words that are no numbers and no wishes

cond_none : (b : Bool) → ◌≡◌ {A = Option ℕ} (cond b None None) None
cond_none true = refl
cond_none false = refl

dollar_no_number : (bits : ℕ) (name : List ℕ) → number_of bits (36 ∷ name) ≡ None
unfolding number_of digits_in
dollar_no_number bits name = cond_none (is_bare (36 ∷ name))

dollar_word : (word name : List ℕ) → after_dollar word ≡ Some name → word ≡ 36 ∷ name
dollar_word [] name h = absurd cc
dollar_word (first ∷ more) name h = grind (arith, eqb-true first 36)

-- an item does not begin with `as`
as_first : (word : List ℕ) (rest : List (List ℕ)) → items_of (codes "as" ∷ word ∷ rest) ≡ None
unfolding items_of item_of wish_of
as_first word rest = refl

none_after : (o : Option Item) → ◌≡◌ {A = Option (List Item)} (option_and_then (λ x. None) o) None
none_after None = refl
none_after (Some x) = refl

-- words that end in `as` and another are no items
items_marked : (ws : List (List ℕ)) (mark name : List ℕ) → mark ≡ codes "as"
    → last_two ws ≡ Some (mark, name) → items_of ws ≡ None
unfolding last_two items_of
items_marked [] mark name begins h = absurd cc
items_marked (a ∷ []) mark name begins h = absurd cc
items_marked (a ∷ b ∷ []) mark name begins h =
    let first : a ≡ mark = ap (λ (t : Option (List ℕ × List ℕ)). (unwrap_or t ([], [])).0) h in
    ap (λ (w : List ℕ). items_of (w ∷ b ∷ [])) (first ∙ begins) ∙ as_first b []
items_marked (a ∷ b ∷ c ∷ []) mark name begins h = none_after (item_of a b)
items_marked (a ∷ b ∷ c ∷ d ∷ ws) mark name begins h =
    rw (items_marked (c ∷ d ∷ ws) mark name begins h) (none_after (item_of a b))

-- ---- names at the end

same_text : (a b : List ℕ) → bytes_eq a b ≡ true → a ≡ b
same_text a b h = (bytes_eq-Decides a b).0 h

-- words that end in a name are no items
no_items_if : (ws : List (List ℕ)) (o : Option (List ℕ × List ℕ)) (name : List ℕ) → last_two ws ≡ o
    → option_and_then name_of_two o ≡ Some name → items_of ws ≡ None
no_items_if ws None name e h = absurd cc
no_items_if ws (Some two) name e h =
    items_marked ws two.0 two.1
    (same_text two.0 (codes "as") (first_test (bytes_eq two.0 (codes "as")) (is_name two.1) two.1 h)) e
  where
    first_test : (a b : Bool) (n : List ℕ) → cond (a && b) (Some n) None ≡ Some name → a ≡ true
    first_test true b n h = refl
    first_test false b n h = absurd cc

no_items : (ws : List (List ℕ)) (name : List ℕ) → name_at_end ws ≡ Some name → items_of ws ≡ None
no_items ws name h = no_items_if ws (last_two ws) name refl h

-- ---- requests

-- a `begin` with a name asks for nothing
named_begin : (args : List (List ℕ)) (name : List ℕ) → name_at_end args ≡ Some name
    → request_of (codes "begin" ∷ args) ≡ None
unfolding request_of begin_of
named_begin args name h = rw (no_items args name h) refl

-- nor does a `kalloc`
named_kalloc : (args : List (List ℕ)) (name : List ℕ) → name_at_end args ≡ Some name
    → request_of (codes "kalloc" ∷ args) ≡ None
unfolding request_of event_of request_of_two request_of_three request_of_four last_two
named_kalloc args name h = grind arith

-- a verb by its test
by_test : (P : List ℕ → Type 0) (verb word : List ℕ) (b : Bool) (rest : Option NameUse)
    (names found : NameUse)
    → bytes_eq verb word ≡ b → cond b (Some names) rest ≡ Some found → (names ≡ found → P word)
    → (rest ≡ Some found → P verb) → P verb
by_test P verb word true rest names found is h here other =
    rw (same_text verb word is) (here (same_Some names found h))
by_test P verb word false rest names found is h here other = other h

-- what holds of each verb that uses names like this
by_use : (P : List ℕ → Type 0) (verb : List ℕ) (names : NameUse) → use_of_verb verb ≡ Some names
    → (Gives Operation ≡ names → P (codes "begin")) → (Gives Frame ≡ names → P (codes "kalloc"))
    → (Takes Operation ≡ names → P (codes "drainfor")) → (Takes Operation ≡ names → P (codes "migrate"))
    → (Takes Operation ≡ names → P (codes "commit")) → (Takes Operation ≡ names → P (codes "cancel"))
    → (Takes Frame ≡ names → P (codes "kfree")) → P verb
unfolding use_of_verb
by_use P verb names h begin kalloc drainfor migrate commit cancel kfree =
    by_test P verb (codes "begin") _ _ _ names refl h begin
    (λ h. by_test P verb (codes "kalloc") _ _ _ names refl h kalloc
    (λ h. by_test P verb (codes "drainfor") _ _ _ names refl h drainfor
    (λ h. by_test P verb (codes "migrate") _ _ _ names refl h migrate
    (λ h. by_test P verb (codes "commit") _ _ _ names refl h commit
    (λ h. by_test P verb (codes "cancel") _ _ _ names refl h cancel
    (λ h. by_test P verb (codes "kfree") _ None _ names refl h kfree (λ h. absurd cc)))))))

no_named_request : (verb : List ℕ) (args : List (List ℕ)) (name : List ℕ) (kind : ResultKind)
    → use_of_verb verb ≡ Some (Gives kind) → name_at_end args ≡ Some name → request_of (verb ∷ args) ≡ None
no_named_request verb args name kind h at =
    by_use (λ v. request_of (v ∷ args) ≡ None) verb (Gives kind) h (λ e. named_begin args name at)
    (λ e. named_kalloc args name at) (λ e. absurd cc) (λ e. absurd cc) (λ e. absurd cc) (λ e. absurd cc)
    (λ e. absurd cc)

-- a verb that works on a result does not work on a word with a `$` in front
works_on : (verb : List ℕ) (kind : ResultKind) (name : List ℕ) (rest : List (List ℕ))
    → use_of_verb verb ≡ Some (Takes kind) → request_of (verb ∷ (36 ∷ name) ∷ rest) ≡ None
unfolding request_of event_of event_of_number request_of_two request_of_three request_of_four
works_on verb kind name rest h =
    by_use (λ v. request_of (v ∷ (36 ∷ name) ∷ rest) ≡ None) verb (Takes kind) h (λ e. absurd cc)
    (λ e. absurd cc) (λ e. grind (arith, dollar_no_number 64 name))
    (λ e. grind (arith, dollar_no_number 64 name)) (λ e. grind (arith, dollar_no_number 64 name))
    (λ e. grind (arith, dollar_no_number 64 name)) (λ e. grind (arith, dollar_no_number 32 name))

no_working_request : (verb word : List ℕ) (rest : List (List ℕ)) (name : List ℕ) (kind : ResultKind)
    → use_of_verb verb ≡ Some (Takes kind) → after_dollar word ≡ Some name
    → request_of (verb ∷ word ∷ rest) ≡ None
no_working_request verb word rest name kind h at =
    rw (dollar_word word name at) (works_on verb kind name rest h)

-- ---- lines

no_name : (o : Option (List ℕ)) → ((name : List ℕ) → o ≡ Some name → ⊥) → o ≡ None
no_name None none = refl
no_name (Some name) none = absurd (none name refl)

-- a line that works on no name
working_unchanged : (bound : Bound) (text cpu verb : List ℕ) (kind : ResultKind) (args : List (List ℕ))
    → use_of_verb verb ≡ Some (Takes kind) → (request_of (verb ∷ args) ≡ None → ⊥)
    → working_line bound text cpu verb kind args ≡ unchanged text
working_unchanged bound text cpu verb kind [] is asks = refl
working_unchanged bound text cpu verb kind (word ∷ rest) is asks =
    rw (no_name (after_dollar word) (λ name at. asks (no_working_request verb word rest name kind is at)))

by_names : (bound : Bound) (text cpu verb : List ℕ) (args : List (List ℕ)) (names : Option NameUse)
    → use_of_verb verb ≡ names → (request_of (verb ∷ args) ≡ None → ⊥)
    → line_by_use bound text cpu verb args names ≡ unchanged text
by_names bound text cpu verb args None is asks = refl
by_names bound text cpu verb args (Some (Gives kind)) is asks =
    rw (no_name (name_at_end args) (λ name at. asks (no_named_request verb args name kind is at)))
by_names bound text cpu verb args (Some (Takes kind)) is asks =
    working_unchanged bound text cpu verb kind args is asks

-- words that say something ask for something
asks_if : (cpu : Option ℕ) (r : Option Request) (said : Said)
    → option_and_then (λ c. option_and_then (λ q. Some (record { cpu = c; request = q })) r) cpu ≡ Some said
    → r ≡ None → ⊥
asks_if cpu r said h none = grind arith

words_unchanged : (bound : Bound) (text : List ℕ) (words : List (List ℕ)) (said : Said)
    → words_say words ≡ Some said → plain_of bound text words ≡ unchanged text
unfolding plain_of words_say
words_unchanged bound text [] said h = refl
words_unchanged bound text (cpu ∷ []) said h = refl
words_unchanged bound text (cpu ∷ verb ∷ args) said h =
    by_names bound text cpu verb args (use_of_verb verb) refl
    (asks_if (number_of 32 cpu) (request_of (verb ∷ args)) said h)

says_if : (names : List (List ℕ)) (o : Option Said) (n : Numbered) → option_map (numbered names) o ≡ Some n
    → (said : Said) × (o ≡ Some said)
says_if names None n h = absurd cc
says_if names (Some said) n h = (said, refl)

-- a text that is a line is one without names
pub line_unchanged : (bound : Bound) (names : List (List ℕ)) (text : List ℕ) (n : Numbered)
    → line_in names text ≡ Some n → plain_in bound text ≡ unchanged text
unfolding line_in line_says
line_unchanged bound names text n h =
    let said = says_if names (words_say (words_of text)) n h in
    words_unchanged bound text (words_of text) said.0 said.1
