-- The laws of undo and Cancel, over all legal histories.
use Rattle.std.proofs.Common.{◌≡◌, ℕ, ◌-◌, true, false, List, [], ◌∷◌, ◌++◌, length, take, map, Option, Some, None, slice_get, refl, ap, sym, subst, ◌∙◌, arith}
use Rattle.std.specs.Prelude.{◌==◌}
use Rattle.std.proofs.lemmas.List.{take_all, take-append-le}
use Rattle.std.proofs.lemmas.Option.{none-some, same_Some, slice_get-map}
use Rattle.std.proofs.lemmas.Bool.{and_parts, eqb-true, false≢true}
use Rattle.std.specs.Option.{option_map}
use Rattle.hp_units.specs.Memory.{Memory}
use Rattle.hp_units.specs.Marks.{sole_at, is_opening, begins, mark_of, tag_of}
use Rattle.hp_laws.proofs.Names.{Tag, Record, Item, Event, Begin, Cancel, UndoAfter, Restored}
use Rattle.hp_units.specs.History.{is_refused, goes_back, steps_until, net_with, net_of, run, value_of, Follows, IsLegal, reply_of}
use Rattle.hp_units.specs.LayoutParts.{LayoutParts}
use Rattle.hp_laws.proofs.Lists.{get_end}
use Rattle.hp_laws.proofs.Net.{net-push, legal_take}
use Rattle.hp_laws.proofs.Undo.{IsSole, sole_sound}
use Rattle.hp_laws.proofs.Earlier.{rooted_net}
use Rattle.hp_laws.proofs.Steps.{steps}

-- what the last record of a legal history follows, and that what is before it is legal
pub last_follows : (l : LayoutParts) (base : Memory) (before : ℕ) (h : List Record) (r : Record)
    → IsLegal l base before (h ++ r ∷ []) → Follows l base before h r
last_follows l base before h r legal =
    subst (λ (g : List Record). Follows l base before g r) (take-append-le (length h) h (r ∷ []) (omega arith)
    ∙ take_all _ h (omega arith)) (legal (length h) r (get_end h r))

-- a legal history without its last record is legal
pub front_legal : (l : LayoutParts) (base : Memory) (before : ℕ) (h : List Record) (r : Record)
    → IsLegal l base before (h ++ r ∷ []) → IsLegal l base before h
front_legal l base before h r legal =
    subst (λ (g : List Record). IsLegal l base before g) (take-append-le (length h) h (r ∷ []) (omega arith)
    ∙ take_all _ h (omega arith)) (legal_take l base before _ _ legal)

-- the state after an undo
pub undone : (l : LayoutParts) (base : Memory) (s : ℕ) (h : List Record) (r : Record) → r.event ≡ UndoAfter s
    → is_refused r.reply ≡ false → value_of l base (h ++ r ∷ []) ≡ run l base (steps_until s (net_of h))
unfolding value_of net_with
undone l base s h r event good = rw (net-push h r, good, event) refl

-- a Cancel that is not refused cuts at the place
pub net_restored : (op k : ℕ) (n : List Record) (r : Record) → r.event ≡ Cancel op
    → is_refused r.reply ≡ false → sole_at op (map tag_of n) ≡ Some k → net_with n r ≡ take k n
unfolding net_with
net_restored op k n r event good place = rw (good, event, place) refl

-- an event with the mark of a Begin
pub opening_is_begin : (e : Event) → is_opening (mark_of e) ≡ true → (plan : List Item) × (e ≡ Begin plan)
opening_is_begin (Begin plan) h = (plan, refl)
opening_is_begin _ h = absurd cc

-- the record at a place that is sole
pub sole_record : (op : ℕ) (n : List Record) (k : ℕ) → IsSole op (map tag_of n) k
    → (b : Record) × (slice_get n k ≡ Some b) × (b.serial ≡ op) × (is_opening (mark_of b.event) ≡ true)
sole_record op n k is = by_record _ refl
  where
    by_record : (o : Option Record) → slice_get n k ≡ o
        → (b : Record) × (slice_get n k ≡ Some b) × (b.serial ≡ op) × (is_opening (mark_of b.event) ≡ true)
    by_record None at =
        absurd
        (none-some is.tag (ap (option_map tag_of) (sym at) ∙ (sym (slice_get-map tag_of n k) ∙ is.here)))
    by_record (Some b) at =
        let same : tag_of b ≡ is.tag =
        same_Some (tag_of b) is.tag
        (ap (option_map tag_of) (sym at) ∙ (sym (slice_get-map tag_of n k) ∙ is.here)) in
        let opens : begins op (tag_of b) ≡ true =
        subst (λ (t : Tag). begins op t ≡ true) (sym same) is.opens in
        let parts = and_parts (is_opening (mark_of b.event)) (b.serial == op) opens in
        (b, at, eqb-true b.serial op parts.1, parts.0)

-- the reply to a Cancel was Restored only where the operation's steps are the last
restored_place : (l : LayoutParts) (base : Memory) (before op : ℕ) (h : List Record) (r : Record)
    → IsLegal l base before (h ++ r ∷ []) → r.event ≡ Cancel op → r.reply ≡ Restored
    → (k : ℕ) × (sole_at op (map tag_of (net_of h)) ≡ Some k)
unfolding reply_of
restored_place l base before op h r legal event restored = by_place (sole_at op (map tag_of (net_of h))) refl
  where
    answers : reply_of l base before h r.cpu (Cancel op) ≡ Restored
    answers =
        ap (λ (e : Event). reply_of l base before h r.cpu e) (sym event)
        ∙ (sym (last_follows l base before h r legal).reply ∙ restored)

    by_place : (o : Option ℕ) → sole_at op (map tag_of (net_of h)) ≡ o
        → (k : ℕ) × (sole_at op (map tag_of (net_of h)) ≡ Some k)
    by_place None at =
        absurd (false≢true (sym (steps l _ _ r.cpu _).onward ∙ ap goes_back (rw at at answers)))
    by_place (Some k) at = (k, at)

-- a Cancel that restores cuts the net at its operation's Begin
pub record IsCutAt (l : LayoutParts) (base : Memory) (op : ℕ) (h : List Record) (r : Record) : Type 0 where
  pub place : ℕ
  pub begin : Record
  pub here : slice_get (net_of h) place ≡ Some begin
  pub serial : begin.serial ≡ op
  pub opens : is_opening (mark_of begin.event) ≡ true
  pub value : value_of l base (h ++ r ∷ []) ≡ run l base (take place (net_of h))

pub restored_cut : (l : LayoutParts) (base : Memory) (before op : ℕ) (h : List Record) (r : Record)
    → IsLegal l base before (h ++ r ∷ []) → r.event ≡ Cancel op → r.reply ≡ Restored → IsCutAt l base op h r
unfolding value_of
restored_cut l base before op h r legal event is =
    let place = restored_place l base before op h r legal event is in
    let sole = sole_record op _ _ (sole_sound op _ _ place.1) in
    record {
      place = place.0;
      begin = sole.0;
      here = sole.1;
      serial = sole.2;
      opens = sole.3;
      value = rw (net-push h r, net_restored op _ _ r event (rw is) place.1);
    }

-- the state after a Cancel that restores
pub restored : (l : LayoutParts) (base : Memory) (before op : ℕ) (h : List Record) (r : Record)
    → IsLegal l base before (h ++ r ∷ []) → r.event ≡ Cancel op → r.reply ≡ Restored
    → (b : Record) × (plan : List Item) × (slice_get h (op - before - 1) ≡ Some b) × (b.serial ≡ op)
    × (b.event ≡ Begin plan) × (value_of l base (h ++ r ∷ []) ≡ value_of l base (take (op - before - 1) h))
unfolding value_of
restored l base before op h r legal event is =
    let cut : IsCutAt l base op h r = restored_cut l base before op h r legal event is in
    let roots = rooted_net l base before h (front_legal l base before h r legal) in
    let opens = opening_is_begin _ cut.opens in
    let serial : cut.begin.serial - before - 1 ≡ op - before - 1 = rw cut.serial
    in (
      cut.begin,
      opens.0,
      rw (← serial) (roots.stands cut.place cut.begin cut.here),
      cut.serial,
      opens.1,
      rw (cut.value, roots.comes cut.place cut.begin cut.here, serial),
    )
