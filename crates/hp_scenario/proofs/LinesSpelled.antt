-- What is read was spelled so.
use Rattle.std.proofs.Common.{◌≡◌, ℕ, ◌^◌, ◌<◌, ◌≤◌, true, cond, List, [], ◌∷◌, codes, Option, Some, None, refl, sym, ap, subst, lit≤, option_map, option_and_then, arith}
use Rattle.std.specs.Fmt.{decimal}
use Rattle.std.specs.Str.{bytes_eq}
use Rattle.std.proofs.lemmas.Option.{same_Some}
use Rattle.hp_units.specs.declared.events.Event.{Event}
use Rattle.hp_units.specs.declared.events.Event.TheVariants.{KernelAlloc, KernelFree, Drain, Begin, Migrate, Commit, Cancel, UndoAfter, Remove}
use Rattle.hp_units.specs.declared.plans.Item.{Item}
use Rattle.hp_units.specs.declared.rows.Wish.{Wish}
use Rattle.hp_units.specs.declared.rows.Zone.{Zone}
use Rattle.hp_scenario.specs.Lines.{Request, named, named_if, event, Said, words_say, request_of, event_of, zone_of, wish_of, item_of, items_of, event_of_number, map_of, unmap_of, online_of, drainfor_of, request_of_two, read_of, request_of_three, write_of, request_of_four, begin_of, plan_of, echo_of, cat_of, seal_of}
use Rattle.hp_scenario.specs.Spelling.{zone_word, wish_word, item_words, request_words, FitItems, CanBeSaid}
use Rattle.hp_units.specs.NumberWords.{number_of}
use Rattle.hp_scenario.specs.Words.{is_name}
use Rattle.hp_scenario.specs.declared.requests.Access.TheVariants as access
use Rattle.hp_units.proofs.NumbersSpelled.{is_spelled}
use Rattle.std.proofs.lemmas.Slice.Eq.{bytes_eq-Decides}
use Rattle.hp_scenario.specs.declared.requests.Access.{Access}
use Rattle.hp_scenario.proofs.WordsSpelled.{AreSpaceless}
use Rattle.hp_scenario.proofs.SpelledParts.{IsSpelled, mapped, went_on, word32, word64, text_is, along, if_name}

-- the verb is this word, or the rest of the verbs decide
choose : {A : Type 0} (verb own : List ℕ) (Q : List ℕ → Type 0) (x rest : Option A) (a : A)
    → (x ≡ Some a → Q own) → (rest ≡ Some a → Q verb) → cond (bytes_eq verb own) x rest ≡ Some a → Q verb
choose verb own Q x rest a this next e = grind (arith, bytes_eq-Decides)

-- ---- verbs with one number

one_number : (bits : ℕ) → bits ≤ 64 → (own : List ℕ) (make : ℕ → Event)
    → ((n : ℕ) → n < 2 ^ bits → IsSpelled (own ∷ decimal n ∷ []) (event (make n)))
    → (verb word : List ℕ) (e : Event) (rest : Option Event)
    → (rest ≡ Some e → IsSpelled (verb ∷ word ∷ []) (event e))
    → cond (bytes_eq verb own) (option_map make (number_of bits word)) rest ≡ Some e
    → IsSpelled (verb ∷ word ∷ []) (event e)
one_number bits le own make is verb word e rest next h =
    choose _ _ (λ v. IsSpelled (v ∷ word ∷ []) (event e)) _ _ _ (λ h. this h) next h
  where
    this : option_map make (number_of bits word) ≡ Some e → IsSpelled (own ∷ word ∷ []) (event e)
    this h =
        let m = mapped make (number_of bits word) e h in
        grind (arith, is_spelled)

number_spelled : (verb word : List ℕ) (e : Event) → event_of_number verb word ≡ Some e
    → IsSpelled (verb ∷ word ∷ []) (event e)
unfolding event_of_number
number_spelled verb word e h =
    one_number _ (lit≤ tt) _ (λ n. KernelAlloc n) (λ n fits. (refl, fits)) _ _ _ _ (one_number 32 (lit≤ tt)
    (codes "kfree") (λ n. KernelFree n) (λ n fits. (refl, fits)) verb word e _ (one_number 32 (lit≤ tt) (codes
    "drain") (λ n. Drain n) (λ n fits. (refl, fits)) verb word e _ (one_number 32 (lit≤ tt) (codes "remove")
    (λ n. Remove n) (λ n fits. (refl, fits)) verb word e _ (one_number 64 (lit≤ tt) (codes "migrate") (λ n.
    Migrate n) (λ n fits. (refl, fits)) verb word e _ (one_number 64 (lit≤ tt) (codes "commit") (λ n. Commit
    n) (λ n fits. (refl, fits)) verb word e _ (one_number 64 (lit≤ tt) (codes "cancel") (λ n. Cancel n) (λ n
    fits. (refl, fits)) verb word e _ (one_number 64 (lit≤ tt) (codes "undo") (λ n. UndoAfter n) (λ n fits.
    (refl, fits)) verb word e _ (λ h. absurd cc)))))))) h

-- ---- verbs with a name

page_spelled : (verb : List ℕ) (make : ℕ → Access)
    → ((n : List ℕ) (p : ℕ) → is_name n ≡ true → p < 2 ^ 32
    → IsSpelled (verb ∷ n ∷ decimal p ∷ []) (named n (make p)))
    → (name page : List ℕ) (r : Request)
    → option_and_then (λ p. named_if name (make p)) (number_of 32 page) ≡ Some r
    → IsSpelled (verb ∷ name ∷ page ∷ []) r
page_spelled verb make is name page r e =
    let p = went_on (λ p. named_if name (make p)) (number_of 32 page) r e in
    let page_at = word32 page p.0 p.1 in
    if_name _ _ _ _ p.2 (λ named_so. subst (λ (w : List ℕ). IsSpelled (verb ∷ name ∷ w ∷ []) (named name (make
    p.0))) (sym page_at.0) (is name p.0 named_so page_at.1))

read_spelled : (name page index : List ℕ) (r : Request) → read_of name page index ≡ Some r
    → IsSpelled (codes "read" ∷ name ∷ page ∷ index ∷ []) r
read_spelled name page index r e =
    let p = went_on _ (number_of 32 page) r e in
    let i = went_on _ (number_of 32 index) r p.2 in
    let page_at = word32 page p.0 p.1 in
    let index_at = word32 index i.0 i.1 in
    grind (arith, if_name)

write_spelled : (name page index value : List ℕ) (r : Request) → write_of name page index value ≡ Some r
    → IsSpelled (codes "write" ∷ name ∷ page ∷ index ∷ value ∷ []) r
write_spelled name page index value r e =
    let p = went_on _ (number_of 32 page) r e in
    let i = went_on _ (number_of 32 index) r p.2 in
    let v = went_on _ (number_of 64 value) r i.2 in
    let page_at = word32 page p.0 p.1 in
    let index_at = word32 index i.0 i.1 in
    let value_at = word64 value v.0 v.1 in
    if_name name (access.Write p.0 i.0 v.0) (codes "write" ∷ name ∷ page ∷ index ∷ value ∷ []) r v.2
    (λ is. (cc (page_at.0, index_at.0, value_at.0), (is, (page_at.1, index_at.1, value_at.1))))

-- ---- verbs with other words

zone_is : (word : List ℕ) (z : Zone) → zone_of word ≡ Some z → word ≡ zone_word z
unfolding zone_of
zone_is word z e = grind (arith, bytes_eq-Decides, same_Some)

wish_is : (word : List ℕ) (w : Wish) → wish_of word ≡ Some w → word ≡ wish_word w
unfolding wish_of
wish_is word w e = grind (arith, bytes_eq-Decides, same_Some)

item_is : (wish block : List ℕ) (item : Item) → item_of wish block ≡ Some item
    → (wish ≡ wish_word item.wish) × (block ≡ decimal item.block) × (item.block < 2 ^ 32)
unfolding item_of
item_is wish block item e =
    let a = went_on _ (wish_of wish) item e in
    let b = went_on _ (number_of 32 block) item a.2 in
    let n = word32 block b.0 b.1 in
    rw (← same_Some (record { block = b.0; wish = a.0 }) item b.2) ((wish_is wish a.0 a.1), n.0, n.1)

items_are : (words : List (List ℕ)) (items : List Item) → items_of words ≡ Some items
    → (words ≡ item_words items) × FitItems items
unfolding items_of
items_are [] items e = rw (← same_Some [] items e) (refl, tt)
items_are (wish ∷ []) items e = absurd cc
items_are (wish ∷ block ∷ rest) items e =
    let a = went_on _ (item_of wish block) items e in
    let b = went_on _ (items_of rest) items a.2 in
    let item = item_is wish block a.0 a.1 in
    grind (arith, same_Some, items_are rest b.0 b.1)

begin_spelled : (args : List (List ℕ)) (r : Request) → begin_of args ≡ Some r
    → IsSpelled (codes "begin" ∷ args) r
unfolding begin_of
begin_spelled args r e =
    let m = mapped (λ items. event (Begin items)) (items_of args) r e in
    let s = items_are args m.0 m.1 in
    rw (← m.2) (ap (λ (xs : List (List ℕ)). codes "begin" ∷ xs) s.0, s.1)

online_spelled : (block zone : List ℕ) (r : Request) → online_of block zone ≡ Some r
    → IsSpelled (codes "online" ∷ block ∷ zone ∷ []) r
online_spelled block zone r e =
    let b = went_on _ (number_of 32 block) r e in
    let z = went_on _ (zone_of zone) r b.2 in
    let block_at = word32 block b.0 b.1 in
    along _ _ _ z.2 (cc (block_at.0, zone_is zone z.0 z.1), block_at.1)

drainfor_spelled : (op cpu : List ℕ) (r : Request) → drainfor_of op cpu ≡ Some r
    → IsSpelled (codes "drainfor" ∷ op ∷ cpu ∷ []) r
drainfor_spelled op cpu r e =
    let o = went_on _ (number_of 64 op) r e in
    let c = went_on _ (number_of 32 cpu) r o.2 in
    let op_at = word64 op o.0 o.1 in
    let cpu_at = word32 cpu c.0 c.1 in
    along _ _ _ c.2 (cc (op_at.0, cpu_at.0), (op_at.1, cpu_at.1))

two_spelled : (verb first second : List ℕ) (r : Request) → request_of_two verb first second ≡ Some r
    → IsSpelled (verb ∷ first ∷ second ∷ []) r
unfolding request_of_two
two_spelled verb first second r e =
    let Q : List ℕ → Type 0 = λ v. IsSpelled (v ∷ first ∷ second ∷ []) r in
    choose verb (codes "map") Q (map_of first second) _ r
    (page_spelled (codes "map") (λ p. access.Map p) (λ n p is fits. (refl, (is, fits))) first second r)
    (choose verb (codes "unmap") Q (unmap_of first second) _ r
    (page_spelled (codes "unmap") (λ p. access.Unmap p) (λ n p is fits. (refl, (is, fits))) first second r)
    (choose verb (codes "online") Q (online_of first second) _ r (online_spelled first second r)
    (choose verb (codes "drainfor") Q (drainfor_of first second) _ r (drainfor_spelled first second r)
    (λ e. absurd cc)))) e

plan_spelled : (args : List (List ℕ)) (r : Request) → plan_of args ≡ Some r
    → IsSpelled (codes "plan" ∷ args) r
unfolding plan_of
plan_spelled [] r e = absurd cc
plan_spelled (turns ∷ rest) r e =
    let t = went_on _ (number_of 32 turns) r e in
    let i = went_on _ (items_of rest) r t.2 in
    let turns_at = word32 turns t.0 t.1 in
    let items_at = items_are rest i.0 i.1 in
    along _ _ _ i.2 (cc (turns_at.0, items_at.0), (turns_at.1, items_at.1))

echo_spelled : (args : List (List ℕ)) (r : Request) → AreSpaceless args → echo_of args ≡ Some r
    → IsSpelled (codes "echo" ∷ args) r
unfolding echo_of
echo_spelled args r h e = grind (arith, went_on, text_is, along)

cat_spelled : (args : List (List ℕ)) (r : Request) → AreSpaceless args → cat_of args ≡ Some r
    → IsSpelled (codes "cat" ∷ args) r
unfolding cat_of
cat_spelled args r h e = grind (arith, mapped, text_is)

seal_spelled : (args : List (List ℕ)) (r : Request) → seal_of args ≡ Some r
    → IsSpelled (codes "seal" ∷ args) r
unfolding seal_of
seal_spelled args r e = grind (arith, along)

-- ---- lines

event_spelled : (verb : List ℕ) (args : List (List ℕ)) (r : Request) → event_of verb args ≡ Some r
    → IsSpelled (verb ∷ args) r
unfolding event_of request_of_three request_of_four
event_spelled verb (word ∷ []) r e =
    let m = mapped event (event_of_number verb word) r e in
    subst (λ (q : Request). IsSpelled (verb ∷ word ∷ []) q) m.2 (number_spelled verb word m.0 m.1)
event_spelled verb (first ∷ second ∷ []) r e = two_spelled verb first second r e
event_spelled verb (name ∷ page ∷ index ∷ []) r e =
    choose verb (codes "read") (λ v. IsSpelled (v ∷ name ∷ page ∷ index ∷ []) r) (read_of name page index)
    None r (read_spelled name page index r) (λ e. absurd cc) e
event_spelled verb (name ∷ page ∷ index ∷ value ∷ []) r e =
    choose verb (codes "write") (λ v. IsSpelled (v ∷ name ∷ page ∷ index ∷ value ∷ []) r)
    (write_of name page index value) None r (write_spelled name page index value r) (λ e. absurd cc) e
event_spelled verb _ r e = absurd cc

pub request_spelled : (words : List (List ℕ)) (r : Request) → AreSpaceless words → request_of words ≡ Some r
    → IsSpelled words r
unfolding request_of
request_spelled [] r h e = absurd cc
request_spelled (verb ∷ args) r h e =
    let Q : List ℕ → Type 0 = λ v. IsSpelled (v ∷ args) r in
    choose verb (codes "begin") Q (begin_of args) _ r (begin_spelled args r)
    (choose verb (codes "plan") Q (plan_of args) _ r (plan_spelled args r)
    (choose verb (codes "echo") Q (echo_of args) _ r (echo_spelled args r h.1)
    (choose verb (codes "cat") Q (cat_of args) _ r (cat_spelled args r h.1)
    (choose verb (codes "seal") Q (seal_of args) _ r (seal_spelled args r) (event_spelled verb args r))))) e

pub said_spelled : (words : List (List ℕ)) (said : Said) → AreSpaceless words → words_say words ≡ Some said
    → (words ≡ decimal said.cpu ∷ request_words said.request) × CanBeSaid said
unfolding words_say
said_spelled [] said h e = absurd cc
said_spelled (cpu ∷ rest) said h e =
    let c = went_on _ (number_of 32 cpu) said e in
    let q = went_on _ (request_of rest) said c.2 in
    let cpu_at = word32 cpu c.0 c.1 in
    let request_at = request_spelled rest q.0 h.1 q.1 in
    grind (arith, same_Some)
