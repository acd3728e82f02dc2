use Rattle.std.proofs.Common.{◌<◌, length, Some, sym, ap, subst}
use Rattle.hp_units.specs.Memory.{Pages}
use Rattle.hp_units.specs.Pages.{map_page}
use Rattle.hp_plain.proofs.Values.{entry_set}
use Rattle.hp_plain.proofs.pages.Pages.map.Goals as goal

pub returns : goal.returns
returns c =
    let a = c.args in
    let old = c.self.inside in
    let there = subst (λ (p : Pages). a.owner < length p.table) (sym c.self.view_is) c.requires.owner in
    let listed = rw (← c.self.view_is) at c.requires.contents_owner in
    rw (entry_set old.table.items c.owner.inside.0 a.owner a.page (Some a.frame) c.index_mut.result.now
    c.set.new.self c.owner.view_is there c.index_mut.ensures.value c.set.ensures)
    (rw (entry_set old.contents.items c.owner.inside.0 a.owner a.page (Some a.words) c.index_mut-2.result.now
    c.set-2.new.self c.owner.view_is listed c.index_mut-2.ensures.value c.set-2.ensures)
    (ap (λ (p : Pages). map_page p a.owner a.page a.frame a.words) c.self.view_is))
