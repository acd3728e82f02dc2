-- What the invariant and the view of a `Links` show about the lists that contracts see, and what
-- each change leaves.
use Rattle.std.proofs.Common.{ℕ, ◌≡◌, ◌≢◌, ◌<◌, ◌≤◌, ◌+◌, ◌-◌, inl, inr, List, [], ◌∷◌, ◌++◌, Option, None, Some, IfSome, IfNone, true, is_some, length, get_or, map, set, refl, sym, ◌∙◌, ap, arith}
use Rattle.std.proofs.lemmas.List.{append-nil, append_assoc, length-append, get_or-set_same, get_or-set_other, set-set, set-get_or, ext_get_or, get_or-map, length-map, length-set}
use Rattle.std.proofs.lemmas.Bool.{cases_eq, false≢true}
use Rattle.std.proofs.lemmas.Option.{same_Some}
use Rattle.hp_buddy.specs.LinkedLists.{LinkedLists, list_at, with_list, IsOn, IsListed, IsUnlisted, IsApart, first, last, without, predecessor, successor, with_behind, off_lists}
use Rattle.hp_buddy.specs.Rings.{Table, Inserts, Removes, Member, Absent, Linked, Keeps, shown, frame_at}
use Rattle.hp_buddy.proofs.Chains.{last_or, first_or, chain_first, chain_last, chain_list, chain_at, not_last, not_first, Distinct-append_right, absent_not, not_absent, Member-append_left, Member-append_right}
use Rattle.hp_buddy.proofs.Linking.{IsNode, last_node, first_node, one_list, Linked-insert, Linked-remove}
use Rattle.hp_buddy.proofs.Members.{Member-from_Contains, Contains-from_Member, place_unique, length-le_below}
use Rattle.hp_buddy.proofs.Sequences.{split_at, frame_at-head, without-split, predecessor-split, first-frame, last-frame, successor-split, with_behind-split, predecessor_on, back, without-absent}
use Rattle.hp_buddy.proofs.Shown.{keeps, shows, listed_in}

-- contracts see v of this table and these lengths
pub record Seen (v : LinkedLists) (frames : ℕ) (t : Table) (lens : List ℕ) : Type 0 where
  pub is : shown frames t lens ≡ v
  pub kept : Keeps frames t lens

pub seen : {v : LinkedLists} {frames : ℕ} {t : Table} {lens : List ℕ} → Keeps frames t lens
    → shown frames t lens ≡ v → Seen v frames t lens
seen kept is = record { is = is; kept = kept }

last_or-push : (d p : ℕ) (xs : List ℕ) → last_or d (xs ++ p ∷ []) ≡ p
last_or-push d p [] = refl
last_or-push d p (x ∷ xs) = last_or-push x p xs

module _ {v : LinkedLists} {frames : ℕ} {t : Table} {lens : List ℕ} (s : Seen v frames t lens) where
  pub frames_are : frames ≡ v.frame_count
  frames_are = ap (λ (w : LinkedLists). w.frame_count) s.is

  pub linked : Linked frames t lens v.lists
  linked = rw (← s.is) s.kept

  -- a list by its number
  pub lens_in : (l : ℕ) → l < length v.lists → l < length lens
  lens_in l lt = omega (arith, linked.count)

  -- a frame of a list shows that there is such a list
  pub on_in : (l x : ℕ) → Member x (list_at v l) → l < length v.lists
  on_in l x m = listed_in v.lists l x m

  -- the list of a listed frame
  pub list_on : (f : ℕ) → IsListed v f → (l : ℕ) × Member f (list_at v l) × (l < length v.lists)
  list_on f on = let m = Member-from_Contains f (list_at v on.0) on.1 in (on.0, m, on_in on.0 f m)

  pub listed_below : (f : ℕ) → IsListed v f → f < frames
  listed_below f on = linked.below on.0 f (Member-from_Contains f (list_at v on.0) on.1)

  pub free_absent : (f : ℕ) → IsUnlisted v f → (m : ℕ) → Absent f (list_at v m)
  free_absent f free m = not_absent f (list_at v m) (λ on. free m (Contains-from_Member f (list_at v m) on))

  -- a place of a ring is in the table, and is no free frame
  pub node_in : (l a : ℕ) → l < length v.lists → IsNode (frames + l) (list_at v l) a
      → a < frames + length lens
  node_in l a lt (inl e) = omega (arith, linked.count)
  node_in l a lt (inr m) = let below = linked.below l a m in omega (arith, below)

  pub node_not_free : (l a f : ℕ) → l < length v.lists → f < v.frame_count → IsUnlisted v f
      → IsNode (frames + l) (list_at v l) a → a ≢ f
  node_not_free l a f lt in_f free (inl e) same = omega (arith, frames_are)
  node_not_free l a f lt in_f free (inr m) same =
      absent_not f (list_at v l) (free_absent f free l) (rw (← same) m)

  -- the ends of a list
  pub first_is : (l : ℕ) → l < length v.lists → t.next (frames + l) ≡ first_or (frames + l) (list_at v l)
  first_is l lt = chain_first t l (frames + l) (list_at v l) (frames + l) (linked.rings l lt)

  pub last_is : (l : ℕ) → l < length v.lists → t.prev (frames + l) ≡ last_or (frames + l) (list_at v l)
  last_is l lt = chain_last t l (frames + l) (list_at v l) (frames + l) (linked.rings l lt)

  -- the neighbours of a frame of a list
  around : (l f : ℕ) → (on : Member f (list_at v l))
      → (t.prev f ≡ last_or (frames + l) (split_at f (list_at v l) on).ahead)
      × (t.next f ≡ first_or (frames + l) (split_at f (list_at v l) on).behind)
  around l f on =
      let cut = split_at f (list_at v l) on in
      chain_at t l (frames + l) f cut.ahead cut.behind (frames + l)
      (rw cut.is at (linked.rings l (on_in l f on)))

  -- the neighbours of a place of a ring are of that ring
  next_of_node : (l a : ℕ) → l < length v.lists → IsNode (frames + l) (list_at v l) a
      → IsNode (frames + l) (list_at v l) (t.next a)
  next_of_node l a lt (inl e) = rw (e, first_is l lt) (first_node (frames + l) [] (list_at v l))
  next_of_node l a lt (inr m) =
      let cut = split_at a (list_at v l) m in
      rw (cut.is, (around l a m).1, ← append_assoc cut.ahead (a ∷ []) cut.behind)
      (first_node (frames + l) (cut.ahead ++ a ∷ []) cut.behind)

  prev_of_node : (l a : ℕ) → l < length v.lists → IsNode (frames + l) (list_at v l) a
      → IsNode (frames + l) (list_at v l) (t.prev a)
  prev_of_node l a lt (inl e) =
      rw (e, last_is l lt) (rw (append-nil (list_at v l)) at (last_node (frames + l) (list_at v l) []))
  prev_of_node l a lt (inr m) =
      let cut = split_at a (list_at v l) m in
      rw (cut.is, (around l a m).0) (last_node (frames + l) cut.ahead (a ∷ cut.behind))

  -- the neighbours of a place are in the table, and are no free frame
  pub next_in : (l a : ℕ) → l < length v.lists → IsNode (frames + l) (list_at v l) a
      → t.next a < frames + length lens
  next_in l a lt is = node_in l (t.next a) lt (next_of_node l a lt is)

  pub prev_in : (l a : ℕ) → l < length v.lists → IsNode (frames + l) (list_at v l) a
      → t.prev a < frames + length lens
  prev_in l a lt is = node_in l (t.prev a) lt (prev_of_node l a lt is)

  pub next_not_free : (l a f : ℕ) → l < length v.lists → f < v.frame_count → IsUnlisted v f
      → IsNode (frames + l) (list_at v l) a → t.next a ≢ f
  next_not_free l a f lt in_f free is = node_not_free l (t.next a) f lt in_f free (next_of_node l a lt is)

  pub prev_not_free : (l a f : ℕ) → l < length v.lists → f < v.frame_count → IsUnlisted v f
      → IsNode (frames + l) (list_at v l) a → t.prev a ≢ f
  prev_not_free l a f lt in_f free is = node_not_free l (t.prev a) f lt in_f free (prev_of_node l a lt is)

  -- there is room for a free frame
  pub room : (l f : ℕ) → l < length v.lists → f < v.frame_count → IsUnlisted v f → get_or lens l 0 < frames
  room l f lt in_f free =
      let longer : length (f ∷ list_at v l) ≤ frames =
      length-le_below frames (f ∷ list_at v l) (free_absent f free l, linked.distinct l)
      (λ x m. elim m [ inl e ↦ omega (arith, frames_are) | inr on ↦ linked.below l x on ]) in
      omega (arith, linked.sizes l lt)

  -- another table that keeps other lists
  becomes : (frames' : ℕ) (u : Table) (lens' : List ℕ) (lists' : List (List ℕ)) → frames' ≡ frames
      → Linked frames' u lens' lists' → Seen (record v { lists = lists' }) frames' u lens'
  becomes frames' u lens' lists' same k = record {
    is = rw (shows frames' u lens' lists' k, same, frames_are);
    kept = keeps frames' u lens' lists' k;
  }

  inserted : (l f before after : ℕ) (ys zs : List ℕ) (frames' : ℕ) (u : Table) (lens' : List ℕ)
      → l < length v.lists → f < v.frame_count → IsUnlisted v f → list_at v l ≡ ys ++ zs
      → before ≡ last_or (frames + l) ys → after ≡ first_or (frames + l) zs → frames' ≡ frames
      → lens' ≡ set lens l (get_or lens l 0 + 1) → Inserts t u l before f after
      → Seen (with_list v l (ys ++ f ∷ zs)) frames' u lens'
  inserted l f before after ys zs frames' u lens' lt in_f free split before_is after_is same lens_are i =
      let k =
      Linked-insert frames t u lens v.lists l ys zs f (get_or lens l 0 + 1) before after linked lt split
      (omega (arith, frames_are)) (free_absent f free)
      (rw (linked.sizes l lt, split)) before_is after_is i in
      becomes frames' u lens' (set v.lists l (ys ++ f ∷ zs)) same (rw (same, lens_are) k)

  -- what each change leaves
  pub pushed_front : (l f before after frames' : ℕ) (u : Table) (lens' : List ℕ) → l < length v.lists
      → f < v.frame_count → IsUnlisted v f → before ≡ frames + l → after ≡ t.next before → frames' ≡ frames
      → lens' ≡ set lens l (get_or lens l 0 + 1) → Inserts t u l before f after
      → Seen (with_list v l (f ∷ list_at v l)) frames' u lens'
  pushed_front l f before after frames' u lens' lt in_f free before_is after_is =
      inserted l f before after [] (list_at v l) frames' u lens' lt in_f free refl before_is
      (rw (after_is, before_is) (first_is l lt))

  pub pushed_back : (l f before after frames' : ℕ) (u : Table) (lens' : List ℕ) → l < length v.lists
      → f < v.frame_count → IsUnlisted v f → before ≡ t.prev after → after ≡ frames + l → frames' ≡ frames
      → lens' ≡ set lens l (get_or lens l 0 + 1) → Inserts t u l before f after
      → Seen (with_list v l (list_at v l ++ f ∷ [])) frames' u lens'
  pushed_back l f before after frames' u lens' lt in_f free before_is after_is =
      inserted l f before after (list_at v l) [] frames' u lens' lt in_f free (sym (append-nil (list_at v l)))
      (rw (before_is, after_is) (last_is l lt)) after_is

  pub put_behind : (l f p after frames' : ℕ) (u : Table) (lens' : List ℕ) → f < v.frame_count → IsUnlisted v f
      → Member p (list_at v l) → after ≡ t.next p → frames' ≡ frames
      → lens' ≡ set lens l (get_or lens l 0 + 1) → Inserts t u l p f after
      → Seen (with_list v l (with_behind (Some p) f (list_at v l))) frames' u lens'
  put_behind l f p after frames' u lens' in_f free on after_is same lens_are i =
      let cut = split_at p (list_at v l) on in
      let result : (cut.ahead ++ p ∷ []) ++ f ∷ cut.behind ≡ with_behind (Some p) f (list_at v l) =
      append_assoc cut.ahead (p ∷ []) (f ∷ cut.behind)
      ∙ sym (ap (with_behind (Some p) f) cut.is ∙ with_behind-split p f cut.ahead cut.behind cut.new) in
      rw (← result) (inserted l f p after (cut.ahead ++ p ∷ []) cut.behind frames' u lens' (on_in l p on) in_f
      free (cut.is ∙ sym (append_assoc cut.ahead (p ∷ []) cut.behind))
      (sym (last_or-push (frames + l) p cut.ahead)) (after_is ∙ (around l p on).1) same lens_are i)

  pub unlinked : (l f before after frames' : ℕ) (u : Table) (lens' : List ℕ) → Member f (list_at v l)
      → before ≡ t.prev f → after ≡ t.next f → frames' ≡ frames → lens' ≡ set lens l (get_or lens l 0 - 1)
      → Removes t u before f after → Seen (with_list v l (without f (list_at v l))) frames' u lens'
  unlinked l f before after frames' u lens' on before_is after_is same lens_are r =
      let lt = on_in l f on in
      let cut = split_at f (list_at v l) on in
      let c = around l f on in
      let longer : get_or lens l 0 - 1 + 1 ≡ length (cut.ahead ++ f ∷ cut.behind) =
      let n = linked.sizes l lt ∙ ap length cut.is in
      omega (arith, n, length-append cut.ahead (f ∷ cut.behind)) in
      let k =
      Linked-remove frames t u lens v.lists l cut.ahead cut.behind f (get_or lens l 0 - 1) before after linked
      lt cut.is longer (before_is ∙ c.0) (after_is ∙ c.1) r in
      rw (ap (without f) cut.is ∙ without-split f cut.ahead cut.behind cut.new)
      (becomes frames' u lens' (set v.lists l (cut.ahead ++ cut.behind)) same (rw (same, lens_are) k))

  -- what each look-up finds
  pub front_is : (l : ℕ) → l < length v.lists → frame_at frames (t.next (frames + l)) ≡ first (list_at v l)
  front_is l lt =
      rw (first_is l lt) (first-frame frames (frames + l) (list_at v l) (omega arith) (linked.below l))

  pub last_frame_is : (l : ℕ) → l < length v.lists
      → frame_at frames (t.prev (frames + l)) ≡ last (list_at v l)
  last_frame_is l lt =
      rw (last_is l lt, last-frame frames (frames + l) (list_at v l) (linked.below l))
      (rw (frame_at-head frames (frames + l) (omega arith)))

  pub before_is : (l f : ℕ) → Member f (list_at v l)
      → frame_at frames (t.prev f) ≡ predecessor f (list_at v l)
  before_is l f on =
      let cut = split_at f (list_at v l) on in
      let below : (x : ℕ) → Member x cut.ahead → x < frames =
      λ x m. linked.below l x (rw cut.is (Member-append_left x cut.ahead (f ∷ cut.behind) m)) in
      rw ((around l f on).0, ← predecessor-split frames f (frames + l) cut.ahead cut.behind cut.new below)
      (rw (frame_at-head frames (frames + l) (omega arith)) (ap (predecessor f) (sym cut.is)))

  pub behind_is : (l f : ℕ) → Member f (list_at v l) → frame_at frames (t.next f) ≡ successor f (list_at v l)
  behind_is l f on =
      let cut = split_at f (list_at v l) on in
      let below : (x : ℕ) → Member x cut.behind → x < frames =
      λ x m. linked.below l x (rw cut.is (Member-append_right x cut.ahead (f ∷ cut.behind) (inr m))) in
      rw ((around l f on).1, first-frame frames (frames + l) cut.behind (omega arith) below)
      (sym (ap (successor f) cut.is ∙ successor-split f cut.ahead cut.behind cut.new))

  pub list_is : (l f : ℕ) → Member f (list_at v l) → t.list f ≡ Some l
  list_is l f on = chain_list t l (frames + l) (list_at v l) (frames + l) (linked.rings l (on_in l f on)) f on

  -- so what is read there is that list
  pub list_found : (l f n : ℕ) (o : Option ℕ) → o ≡ Some n → o ≡ t.list f → Member f (list_at v l) → n ≡ l
  list_found l f n o some is on = same_Some n l (sym some ∙ is ∙ list_is l f on)

  pub on_list : (l f : ℕ) → f < v.frame_count → t.list f ≡ Some l → IsOn v l f
  on_list l f in_f is = Contains-from_Member f (list_at v l) (linked.owned l f (omega (arith, frames_are)) is)

  -- a listed frame is a place of its own
  pub prev_not_self : (l f : ℕ) → Member f (list_at v l) → t.prev f ≢ f
  prev_not_self l f on e =
      let cut = split_at f (list_at v l) on in
      let below = linked.below l f on in
      not_last f (frames + l) cut.ahead (λ same. omega arith) cut.new (sym (around l f on).0 ∙ e)

  pub next_not_self : (l f : ℕ) → Member f (list_at v l) → t.next f ≢ f
  next_not_self l f on e =
      let cut = split_at f (list_at v l) on in
      let below = linked.below l f on in
      let d = Distinct-append_right cut.ahead (f ∷ cut.behind) (rw cut.is at (linked.distinct l)) in
      not_first f (frames + l) cut.behind (λ same. omega arith) d.0 (sym (around l f on).1 ∙ e)

  pub len_not_zero : (l f : ℕ) → Member f (list_at v l) → 0 < get_or lens l 0
  len_not_zero l f on =
      let cut = split_at f (list_at v l) on in
      let n = linked.sizes l (on_in l f on) ∙ ap length cut.is in
      omega (arith, n, length-append cut.ahead (f ∷ cut.behind))

  -- what a look-up of the list answers
  pub found_on : (o : Option ℕ) (f : ℕ) → f < v.frame_count → o ≡ t.list f → IfSome o (λ l. IsOn v l f)
  found_on None f in_f e = tt
  found_on (Some l) f in_f e = on_list l f in_f (sym e)

  pub found_in : (o : Option ℕ) (f : ℕ) → f < v.frame_count → o ≡ t.list f
      → IfSome o (λ l. l < length v.lists)
  found_in None f in_f e = tt
  found_in (Some l) f in_f e = on_in l f (linked.owned l f (omega (arith, frames_are)) (sym e))

  pub found_none : (o : Option ℕ) (f : ℕ) → o ≡ t.list f → IfNone o (IsUnlisted v f)
  found_none None f e =
      λ l on. let is = list_is l f (Member-from_Contains f (list_at v l) on) in
      let no : None ≡ Some l = cc (e, is) in
      cc no
  found_none (Some l) f e = tt

  pub found_listed : (o : Option ℕ) (f : ℕ) → f < v.frame_count → o ≡ t.list f → is_some o ≡ true
      → IsListed v f
  found_listed None f in_f e some = absurd (false≢true some)
  found_listed (Some l) f in_f e some = (l, on_list l f in_f (sym e))

  pub apart : IsApart v
  apart = record {
    in_range =
        λ l f on. let below = linked.below l f (Member-from_Contains f (list_at v l) on) in
        omega (arith, frames_are, below);
    one_list = λ l m f on other.
        let a = Member-from_Contains f (list_at v l) on in
        let b = Member-from_Contains f (list_at v m) other in
        one_list frames t lens v.lists linked l m f (on_in l f a) (on_in m f b) a b;
    once = λ l i j li lj e. place_unique (list_at v l) (linked.distinct l) i j li lj e;
  }

  -- a frame that left its list comes back to its place
  list_left : (l f : ℕ) (w : LinkedLists) → Member f (list_at v l)
      → w ≡ with_list v l (without f (list_at v l)) → list_at w l ≡ without f (list_at v l)
  list_left l f w on w_is =
      rw w_is (get_or-set_same v.lists l (without f (list_at v l)) [] (on_in l f on))

  pub before_stays : (l f : ℕ) (w : LinkedLists) (o : Option ℕ) → Member f (list_at v l)
      → w ≡ with_list v l (without f (list_at v l)) → o ≡ predecessor f (list_at v l) → (p : ℕ) → o ≡ Some p
      → IsOn w l p
  before_stays l f w o on w_is o_is p is =
      Contains-from_Member p (list_at w l)
      (rw (list_left l f w on w_is) (predecessor_on f (list_at v l) on p (sym o_is ∙ is)))

  pub comes_back : (l f : ℕ) (w : LinkedLists) (o : Option ℕ) → Member f (list_at v l)
      → w ≡ with_list v l (without f (list_at v l)) → o ≡ predecessor f (list_at v l)
      → with_list w l (with_behind o f (list_at w l)) ≡ v
  comes_back l f w o on w_is o_is =
      rw (list_left l f w on w_is, o_is, back f (list_at v l) on (linked.distinct l), w_is)
      (rw (set-set v.lists l (without f (list_at v l)) (list_at v l)) (rw (set-get_or v.lists l [])))

  -- a frame is on no other list
  pub off_lists_are : (l f : ℕ) → Member f (list_at v l)
      → off_lists f v ≡ with_list v l (without f (list_at v l))
  off_lists_are l f on =
      let lt = on_in l f on in
      let same : map (without f) v.lists ≡ set v.lists l (without f (list_at v l)) =
      ext_get_or [] (map (without f) v.lists) (set v.lists l (without f (list_at v l)))
      (length-map v.lists (without f) ∙ sym (length-set v.lists l (without f (list_at v l))))
      (λ k in_map.
      let in_k : k < length v.lists = omega (arith, length-map v.lists (without f)) in
      get_or-map (without f) v.lists k [] [] in_k
      ∙ elim (cases_eq k l) [
        | inl e ↦ rw (e, get_or-set_same v.lists l (without f (list_at v l)) [] lt)
        | inr ne ↦ rw (get_or-set_other v.lists l k (without f (list_at v l)) [] ne)
            (without-absent f (list_at v k) (not_absent f (list_at v k)
            (λ other. ne (one_list frames t lens v.lists linked k l f in_k lt other on))))
      ]) in
      rw same
