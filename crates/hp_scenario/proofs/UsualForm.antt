-- The usual form of a scenario, and what it means.
use Rattle.std.proofs.Common.{◌≡◌, ℕ, ◌+◌, List, [], ◌∷◌, ◌++◌, codes, Option, Some, None, Result, Ok, option_and_then, refl, sym, ap, subst, ◌∙◌, arith}
use Rattle.json.specs.Token.{Token}
use Rattle.json.specs.Lex.{tokens}
use Rattle.serde_json.specs.Data.{Data, array, object, no_members, put}
use Rattle.serde_json.specs.Find.{as_str}
use Rattle.std.specs.Str.{IsUtf8}
use Rattle.hp_units.specs.LayoutParts.{LayoutParts, layout_fault}
use Rattle.hp_units.specs.declared.rows.Boot.{Boot}
use Rattle.hp_scenario.specs.declared.fault.ScenarioFault.{ScenarioFault}
use Rattle.hp_scenario.specs.declared.fault.ScenarioFault.TheVariants.{BadLine}
use Rattle.hp_scenario.specs.Form.{Form, boot_of, boot_at, each_in, texts_at, boots_at, number_at, has_keys, parts_with, parts_of, form_of}
use Rattle.hp_scenario.specs.Gives.{◌>>=◌, or_fault}
use Rattle.hp_scenario.specs.Names.{Numbered, line_in}
use Rattle.hp_scenario.specs.Scenario.{ScenarioValue, Script, with_line, nothing, lines_from, scenario_with, scenario_of, scenario_in}
use Rattle.hp_scenario.specs.Usual.{Reads, strings_then, texts_data, AreRows, put_rows, rows_of, parts_from, EndsWithBoots, IsLayoutAt, AreLines, AreScenario}
use Rattle.std.specs.Prelude.{IfOk, IfSome}
use Rattle.std.specs.declared.alloc.AllocError.{AllocError}
use Rattle.hp_scenario.proofs.Json.{json_read}
use Rattle.hp_scenario.proofs.TokensRead.{Adds, adds_none, adds_one, adds_rows, reads_all, reads_object, reads_texts}

-- ---- one text more

pub one_more_string : (texts : List (List ℕ)) (text : List ℕ) (rest : List Token)
    → strings_then texts (Token.string text ∷ rest) ≡ strings_then (texts ++ text ∷ []) rest
one_more_string [] text rest = refl
one_more_string (t ∷ texts) text rest = rw (one_more_string texts text rest)

-- ---- blocks at boot

boot_then : (o : Option Boot) (rest more : Option (List Boot)) (bs : List Boot) (b : Boot)
    → option_and_then (λ x. option_and_then (λ xs. Some (x ∷ xs)) rest) o ≡ Some bs
    → ((ys : List Boot) → rest ≡ Some ys → more ≡ Some (ys ++ b ∷ []))
    → option_and_then (λ x. option_and_then (λ xs. Some (x ∷ xs)) more) o ≡ Some (bs ++ b ∷ [])
boot_then o rest more bs b e h = grind arith

pub one_more_boot : (words : List (List ℕ)) (word : List ℕ) (bs : List Boot) (b : Boot)
    → each_in boot_at (texts_data words) ≡ Some bs → boot_of word ≡ Some b
    → each_in boot_at (texts_data (words ++ word ∷ [])) ≡ Some (bs ++ b ∷ [])
unfolding each_in
one_more_boot [] word bs b e h = cc
one_more_boot (w ∷ words) word bs b e h =
    boot_then _ _ _ _ _ e (λ ys rest. one_more_boot words word ys b rest h)

-- ---- lines

line_then : (at : ℕ) (o : Option Numbered) (f g : Numbered → Result Script ScenarioFault) (now last : Script)
    → (or_fault (BadLine at) o >>= f) ≡ Ok now → ((m : Numbered) → f m ≡ Ok now → g m ≡ Ok last)
    → (or_fault (BadLine at) o >>= g) ≡ Ok last
line_then at o f g now last e h = grind arith

pub one_more_line : (at : ℕ) (script now : Script) (texts : List (List ℕ)) (text : List ℕ) (n : Numbered)
    → lines_from at script texts ≡ Ok now → line_in now.names text ≡ Some n
    → lines_from at script (texts ++ text ∷ []) ≡ Ok (with_line now n)
unfolding lines_from
one_more_line at script now [] text n e h = cc
one_more_line at script now (t ∷ texts) text n e h =
    line_then _ _ (λ m. lines_from (at + 1) (with_line script m) texts)
    (λ m. lines_from (at + 1) (with_line script m) (texts ++ text ∷ [])) _ _ e
    (λ m rest. one_more_line (at + 1) (with_line script m) now texts text n rest h)

-- ---- the form

pub each_text : (texts : List (List ℕ)) → each_in as_str (texts_data texts) ≡ Some texts
unfolding each_in
each_text [] = refl
each_text (text ∷ texts) = rw (each_text texts) refl

-- the members of a scenario
pub form_read : (layout : Data) (texts : List (List ℕ)) (parts : LayoutParts) → parts_of layout ≡ Some parts
    → form_of
    (object (put (codes "calls") (array (texts_data texts)) (put (codes "layout") layout no_members)))
    ≡ Some (record { parts = parts; calls = texts })
unfolding form_of has_keys texts_at
form_read layout texts parts e = rw (e, each_text texts) refl

-- the members of a layout
pub parts_read : (n : LayoutParts) (words : List (List ℕ)) (boot : List Boot)
    → each_in boot_at (texts_data words) ≡ Some boot
    → parts_of (object (put (codes "boot") (array (texts_data words)) (put_rows (rows_of n) no_members)))
    ≡ Some (parts_from n boot)
unfolding parts_of has_keys boots_at parts_with number_at
parts_read n words boot e = rw e refl

-- a layout's tokens
pub layout_read : (n : LayoutParts) (boot : List Boot) (old start mid new : List Token)
    → old ≡ Token.begin_object ∷ start → AreRows (rows_of n) start mid → EndsWithBoots boot mid new
    → layout_fault (parts_from n boot) ≡ None → IsLayoutAt (parts_from n boot) old new
layout_read n boot old start mid new opened rows ends sound =
    let m = ends.0 in
    let words = ends.2.0 in
    let list = array (texts_data words) in
    let last : Adds 125 (λ ms. put (codes "boot") list ms) (Token.key (codes "boot") ∷ Token.begin_array ∷ m)
    new = adds_one 125 (codes "boot") list (λ ms. ms) (Token.begin_array ∷ m) (Token.end_object ∷ new) new
    (grind (arith, reads_texts)) (adds_none 125 new) in
    let all = adds_rows 125 (rows_of n) (put (codes "boot") list) start mid new rows (rw ends.1 last) in
    let d = object (put (codes "boot") list (put_rows (rows_of n) no_members)) in
    let whole : Reads 126 d (Token.begin_object ∷ start) new =
    reads_object 126 (λ ms. put (codes "boot") list (put_rows (rows_of n) ms)) start new (omega arith) all in
    (d, rw opened whole, parts_read n words boot ends.2.2, sound)

-- a scenario's value
of_form : (d : Data) (form : Form) (script : Script) → form_of d ≡ Some form → layout_fault form.parts ≡ None
    → lines_from 1 nothing form.calls ≡ Ok script
    → scenario_of d ≡ Ok (record { layout = form.parts; names = script.names; lines = script.lines })
unfolding scenario_of scenario_with
of_form d form script is sound lines = rw (is, sound, lines) refl

-- a scenario's tokens
pub scenario_read : (layout : LayoutParts) (script : Script) (old a b e f g : List Token)
    → old ≡ Token.begin_object ∷ a → a ≡ Token.key (codes "layout") ∷ b → IsLayoutAt layout b e
    → e ≡ Token.key (codes "calls") ∷ Token.begin_array ∷ f → AreLines script f g → g ≡ Token.end_object ∷ []
    → AreScenario (record { layout = layout; names = script.names; lines = script.lines }) old
scenario_read layout script old a b e f g opened named placed listed lines over =
    let dl = placed.0 in
    let texts = lines.0 in
    let dc = array (texts_data texts) in
    let calls : Reads 126 dc (Token.begin_array ∷ f) (Token.end_object ∷ []) = grind (arith, reads_texts) in
    let last : Adds 126 (λ ms. put (codes "calls") dc ms)
    (Token.key (codes "calls") ∷ Token.begin_array ∷ f) [] =
    adds_one _ _ _ (λ ms. ms) _ _ _ calls (adds_none 126 []) in
    let both : Adds 126 (λ ms. put (codes "calls") dc (put (codes "layout") dl ms)) (Token.key (codes
    "layout") ∷ b) [] = adds_one _ _ _ (λ ms. put (codes "calls") dc ms) _ _ _ placed.1 (rw listed last) in
    let d = object (put (codes "calls") dc (put (codes "layout") dl no_members)) in
    let whole : Reads 127 d (Token.begin_object ∷ Token.key (codes "layout") ∷ b) [] =
    reads_object _ (λ ms. put (codes "calls") dc (put (codes "layout") dl ms)) _ _ (omega arith) both in (
      d,
      rw (opened, named) whole,
      of_form _ _ _ (form_read _ _ _ placed.2) placed.3 lines.2,
    )

-- the bytes of a scenario
pub scenario_is : (bytes text : List ℕ) (s : ScenarioValue) → IsUtf8 bytes → text ≡ bytes
    → AreScenario s (tokens text) → scenario_in bytes ≡ Ok s
unfolding scenario_in
scenario_is bytes text s utf same h = cc (json_read bytes h.0 utf (reads_all bytes h.0 (rw (← same) h.1)))

-- ---- turns of the loops

-- one more text was taken
pub string_passed : (start now taken new : List Token) (texts : List (List ℕ)) (text : List ℕ)
    → start ≡ strings_then texts now → taken ≡ now → taken ≡ Token.string text ∷ new
    → start ≡ strings_then (texts ++ text ∷ []) new
string_passed start now taken new texts text so_far same first = cc (one_more_string texts text new)

-- the words of `boot` ended, and with them the layout
pub boots_end : (old start now taken new : List Token) (words : List (List ℕ)) (boot : List Boot)
    → old ≡ Token.key (codes "boot") ∷ Token.begin_array ∷ start → start ≡ strings_then words now
    → now ≡ Token.end_array ∷ taken → taken ≡ Token.end_object ∷ new
    → each_in boot_at (texts_data words) ≡ Some boot → EndsWithBoots boot old new
boots_end old start now taken new words boot opened so_far closed over are = grind arith

pub no_boots : (bs : List Boot) → bs ≡ [] → each_in boot_at (texts_data []) ≡ Some bs
unfolding each_in
no_boots bs e = ap Some (sym e)

pub boots_grow : (words : List (List ℕ)) (word : List ℕ) (bs now : List Boot) (b : Boot)
    → each_in boot_at (texts_data words) ≡ Some bs → Some b ≡ boot_of word → now ≡ bs ++ b ∷ []
    → each_in boot_at (texts_data (words ++ word ∷ [])) ≡ Some now
boots_grow words word bs now b so_far is grown = rw (one_more_boot words word bs b so_far (sym is), ← grown)

-- ---- what is found

pub there : {A : Type 0} (o : Option A) (a : A) (P : A → Type 0) → o ≡ Some a → IfSome o P → P a
there o a P e h = subst (λ o. IfSome o P) e h

-- a layout that is found is read from the tokens
pub layout_found : (r : Result (Option LayoutParts) AllocError) (n : LayoutParts) (boot blocks : List Boot)
    (old start mid new : List Token)
    → old ≡ Token.begin_object ∷ start → AreRows (rows_of n) start mid → EndsWithBoots blocks mid new
    → boot ≡ blocks
    → IfOk r (λ o. IfSome o (λ l. (l ≡ parts_from n boot) × (layout_fault l ≡ None)))
    → IfOk r (λ o. IfSome o (λ l. IsLayoutAt l old new))
layout_found (Ok (Some l)) n boot blocks old start mid new opened rows ends same h =
    let is : l ≡ parts_from n blocks = h.0 ∙ ap (parts_from n) same in
    subst (λ (p : LayoutParts). IsLayoutAt p old new) (sym is) (layout_read n blocks old start mid new opened
    rows ends (subst (λ (p : LayoutParts). layout_fault p ≡ None) is h.1))
layout_found _ n boot blocks old start mid new opened rows ends same h = h
