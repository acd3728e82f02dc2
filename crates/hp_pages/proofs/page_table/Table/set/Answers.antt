use Rattle.std.proofs.Common.{◌≡◌, ◌<◌, ◌≤◌, ◌^◌, [], length, get_or, subst, sym, refl}
use Rattle.std.proofs.lemmas.List.{get_or_read}
use Rattle.hp_pages.specs.Places.{TableValue}
use Rattle.hp_pages.proofs.Tables.{are_sums-set, below_most, can_join, can_leave}
use Rattle.hp_pages.proofs.page_table.Table.set.Goals as goal

pub leave-requires : goal.leave-requires
leave-requires c =
    let t : TableValue =
    record {
      frames = length c.self.inside.sums;
      pages = c.self.inside.pages;
      rows = c.self.inside.rows.items;
    } in
    rw (sym c.requires.was, c.place-place.ensures, ← c.self.view_is)
    (can_leave t c.self.inside.sums c.args.owner c.args.page c.self.invariant refl)

pub join-requires : goal.join-requires
join-requires c =
    let t : TableValue =
    record {
      frames = length c.self.inside.sums;
      pages = c.self.inside.pages;
      rows = c.self.inside.rows.items;
    } in
    let in_owners = rw (← c.self.view_is) at c.requires.owner in
    let in_frames = rw (← c.self.view_is) at c.requires.frame in
    rw (c.leave.ensures, sym c.requires.was, c.place-place.ensures, ← c.self.view_is)
    (can_join t c.self.inside.sums c.args.owner c.args.page c.args.now c.self.invariant refl in_owners
    (subst (λ (v : TableValue). c.args.page < v.pages) (sym c.self.view_is) c.requires.page) in_frames)

pub set-requires-clause-small : goal.set-requires-clause-small
set-requires-clause-small c =
    below_most c.args.now c.args.self.now.frames c.requires.frame
    (subst (λ (v : TableValue). v.frames ≤ 2 ^ 20) c.self.view_is c.self.invariant.table.frames)

pub invariant_of-self : goal.invariant_of-self
invariant_of-self c =
    let in_owners = rw (← c.self.view_is) at c.requires.owner in
    let in_pages = subst (λ (v : TableValue). c.args.page < v.pages) (sym c.self.view_is) c.requires.page in
    let in_frames = rw (← c.self.view_is) at c.requires.frame in
    let was : c.index_mut-row.result.now
    ≡ get_or c.self.inside.rows.items c.args.owner c.index_mut-row.result.now =
    rw (← c.owner.view_is) c.index_mut-row.ensures.value in
    let read =
    get_or_read c.self.inside.rows.items c.args.owner c.index_mut-row.result.now in_owners was [] in
    rw (
      c.join.ensures,
      c.leave.ensures,
      c.set.ensures,
      read,
      c.owner.view_is,
      sym c.requires.was,
      c.place-place.ensures,
      ← c.self.view_is,
    )
    (are_sums-set c.self.inside.sums c.self.inside.pages c.self.inside.rows.items c.args.owner c.args.page
    c.args.now c.self.invariant in_owners in_pages in_frames)
