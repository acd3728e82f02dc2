use Rattle.std.proofs.Common.{ℕ, None, refl, ◌≡◌, sym, ◌∙◌, arith, inr}
use Rattle.hp_buddy.specs.LinkedLists.{list_at, predecessor, with_list, without}
use Rattle.hp_buddy.specs.Rings.{Member, shown, table}
use Rattle.hp_buddy.proofs.Views.{Seen, list_is, list_on, list_found, lens_in, listed_below, prev_in, next_in, prev_not_self, next_not_self, len_not_zero, unlinked, before_is, before_stays, comes_back, found_none, off_lists_are, seen}
use Rattle.hp_buddy.proofs.Members.{Member-from_Contains}
use Rattle.hp_buddy.proofs.links.Links.unlink.Goals as goal
use Rattle.hp_buddy.proofs.links.Links.unlink.Goals.{After-remove, After-frame_at}

-- the lists without the frame
left : (c : After-remove) (l : ℕ) → Member c.args.frame (list_at c.args.self.now l)
    → Seen (with_list c.args.self.now l (without c.args.frame (list_at c.args.self.now l)))
    c.remove.new.self.frames (table c.remove.new.self.nodes.items) c.remove.new.self.lens.items
left c l on =
    let s = seen c.self.invariant c.self.view_is in
    let n = c.remove.new.self in
    let same =
    list_found s l c.args.frame c.unwrap-list.result c.list.result c.unwrap-list.ensures
    (rw c.place_of-place.ensures at c.list.ensures) on in
    unlinked s l c.args.frame c.prev-before.result c.next-after.result n.frames (table n.nodes.items)
    n.lens.items on (rw c.place_of-place.ensures at c.prev-before.ensures)
    (rw c.place_of-place.ensures at c.next-after.ensures) c.remove.ensures.frames
    (rw same at c.remove.ensures.lens) (rw c.place_of-place.ensures at c.remove.ensures.links)

-- the frame that stood before it
before : (c : After-frame_at) (l : ℕ) → Member c.args.frame (list_at c.args.self.now l)
    → c.frame_at.result ≡ predecessor c.args.frame (list_at c.args.self.now l)
before c l on =
    rw (c.frame_at.ensures, c.remove.ensures.frames, c.prev-before.ensures, c.place_of-place.ensures)
    (before_is (seen c.self.invariant c.self.view_is) l c.args.frame on)

pub list-requires : goal.list-requires
list-requires c =
    let below = listed_below (seen c.self.invariant c.self.view_is) c.args.frame c.requires in
    omega (arith, below, c.place_of-place.ensures)

pub unwrap-list-requires : goal.unwrap-list-requires
unwrap-list-requires c =
    let s = seen c.self.invariant c.self.view_is in
    let h = list_on s c.args.frame c.requires in
    rw (c.list.ensures, c.place_of-place.ensures, list_is s h.0 c.args.frame h.1) refl

pub prev-before-requires : goal.prev-before-requires
prev-before-requires c =
    let below = listed_below (seen c.self.invariant c.self.view_is) c.args.frame c.requires in
    omega (arith, below, c.place_of-place.ensures)

pub next-after-requires : goal.next-after-requires
next-after-requires c =
    let below = listed_below (seen c.self.invariant c.self.view_is) c.args.frame c.requires in
    omega (arith, below, c.place_of-place.ensures)

pub remove-requires-clause-list_in : goal.remove-requires-clause-list_in
remove-requires-clause-list_in c =
    let s = seen c.self.invariant c.self.view_is in
    let h = list_on s c.args.frame c.requires in
    let same =
    list_found s h.0 c.args.frame c.unwrap-list.result c.list.result c.unwrap-list.ensures
    (rw c.place_of-place.ensures at c.list.ensures) h.1 in
    omega (arith, same, lens_in s h.0 h.2)

pub remove-requires-clause-before_in : goal.remove-requires-clause-before_in
remove-requires-clause-before_in c =
    let s = seen c.self.invariant c.self.view_is in
    let h = list_on s c.args.frame c.requires in
    omega (
      arith,
      prev_in s h.0 c.args.frame h.2 (inr h.1),
      rw c.place_of-place.ensures at c.prev-before.ensures,
    )

pub remove-requires-clause-after_in : goal.remove-requires-clause-after_in
remove-requires-clause-after_in c =
    let s = seen c.self.invariant c.self.view_is in
    let h = list_on s c.args.frame c.requires in
    omega (
      arith,
      next_in s h.0 c.args.frame h.2 (inr h.1),
      rw c.place_of-place.ensures at c.next-after.ensures,
    )

pub remove-requires-clause-frame_in : goal.remove-requires-clause-frame_in
remove-requires-clause-frame_in c =
    let below = listed_below (seen c.self.invariant c.self.view_is) c.args.frame c.requires in
    omega (arith, below, c.place_of-place.ensures)

pub remove-requires-clause-not_before : goal.remove-requires-clause-not_before
remove-requires-clause-not_before c =
    let s = seen c.self.invariant c.self.view_is in
    let h = list_on s c.args.frame c.requires in
    λ e. prev_not_self s h.0 c.args.frame h.1
    (sym (rw c.place_of-place.ensures at c.prev-before.ensures) ∙ e ∙ c.place_of-place.ensures)

pub remove-requires-clause-not_after : goal.remove-requires-clause-not_after
remove-requires-clause-not_after c =
    let s = seen c.self.invariant c.self.view_is in
    let h = list_on s c.args.frame c.requires in
    λ e. next_not_self s h.0 c.args.frame h.1
    (sym (rw c.place_of-place.ensures at c.next-after.ensures) ∙ e ∙ c.place_of-place.ensures)

pub remove-requires-clause-some : goal.remove-requires-clause-some
remove-requires-clause-some c =
    let s = seen c.self.invariant c.self.view_is in
    let h = list_on s c.args.frame c.requires in
    let same =
    list_found s h.0 c.args.frame c.unwrap-list.result c.list.result c.unwrap-list.ensures
    (rw c.place_of-place.ensures at c.list.ensures) h.1 in
    rw same (len_not_zero s h.0 c.args.frame h.1)

pub invariant_of-self : goal.invariant_of-self
invariant_of-self c =
    let h = list_on (seen c.self.invariant c.self.view_is) c.args.frame c.requires in
    (left (goal.at.invariant_of-self c).After-remove h.0 h.1).kept

pub returns-clause-before : goal.returns-clause-before
returns-clause-before c = λ l on.
    before (goal.at.returns-clause-before c).After-frame_at l
    (Member-from_Contains c.args.frame (list_at c.args.self.now l) on)

pub returns-clause-one_list : goal.returns-clause-one_list
returns-clause-one_list c = λ l on_l.
    let on = Member-from_Contains c.args.frame (list_at c.args.self.now l) on_l in
    (left (goal.at.returns-clause-one_list c).After-remove l on).is

pub returns-clause-free : goal.returns-clause-free
returns-clause-free c =
    let h = list_on (seen c.self.invariant c.self.view_is) c.args.frame c.requires in
    let kept = (left (goal.at.returns-clause-free c).After-remove h.0 h.1).kept in
    found_none (seen kept refl) None c.args.frame
    (sym (rw c.place_of-place.ensures at c.remove.ensures.links.list_frame))

pub returns-clause-before_on : goal.returns-clause-before_on
returns-clause-before_on c = λ l on_l.
    let s = seen c.self.invariant c.self.view_is in
    let n = c.remove.new.self in
    let on = Member-from_Contains c.args.frame (list_at c.args.self.now l) on_l in
    let at = goal.at.returns-clause-before_on c in
    before_stays s l c.args.frame (shown n.frames (table n.nodes.items) n.lens.items) c.frame_at.result on
    (left at.After-remove l on).is (before at.After-frame_at l on)

pub returns-clause-undone : goal.returns-clause-undone
returns-clause-undone c = λ l on_l.
    let s = seen c.self.invariant c.self.view_is in
    let n = c.remove.new.self in
    let on = Member-from_Contains c.args.frame (list_at c.args.self.now l) on_l in
    let at = goal.at.returns-clause-undone c in
    comes_back s l c.args.frame (shown n.frames (table n.nodes.items) n.lens.items) c.frame_at.result on
    (left at.After-remove l on).is (before at.After-frame_at l on)

pub returns-clause-links : goal.returns-clause-links
returns-clause-links c =
    let s = seen c.self.invariant c.self.view_is in
    let h = list_on s c.args.frame c.requires in
    (left (goal.at.returns-clause-links c).After-remove h.0 h.1).is
    ∙ sym (off_lists_are s h.0 c.args.frame h.1)
