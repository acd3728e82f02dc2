use Rattle.std.proofs.Common.{subst, sym}
use Rattle.hp_units.specs.Memory.{Memory}
use Rattle.hp_plain.specs.Image.{Pictured}
use Rattle.hp_plain.specs.Placing.{ArePlacedOnce}
use Rattle.hp_plain.proofs.Values.{memory_value}
use Rattle.hp_plain.proofs.WellPlaced.{IsStart, has_free, placed_once, twice_cached, twice_free, twice_kernel, twice_pages}
use Rattle.hp_plain.proofs.image.Image.is_each_once.Goals as goal

pub returns-then-not-place_free : goal.returns-then-not-place_free
returns-then-not-place_free c =
    let in_ = c.self.inside in
    let s : Memory = memory_value in_.free in_.pages in_.kernel.items in_.blocks in
    let start : IsStart in_.layout s c.args.marks.now =
    subst (λ (i : Pictured). IsStart i.layout i.memory c.args.marks.now) (sym c.self.view_is) c.requires in
    rw (← c.self.view_is) (twice_free in_.layout s c.areas.result.now c.args.marks.now start c.areas.ensures
    c.if-not-place_free.ensures)

pub returns-then-not-place_cached : goal.returns-then-not-place_cached
returns-then-not-place_cached c =
    let in_ = c.self.inside in
    let s : Memory = memory_value in_.free in_.pages in_.kernel.items in_.blocks in
    let start : IsStart in_.layout s c.args.marks.now =
    subst (λ (i : Pictured). IsStart i.layout i.memory c.args.marks.now) (sym c.self.view_is) c.requires in
    let free =
    has_free in_.layout s c.areas.result.now c.args.marks.now c.place_free.new.marks start c.areas.ensures
    c.if-not-place_free.ensures in
    subst (λ (i : Pictured). ArePlacedOnce i.layout i.memory → ⊥) c.self.view_is
    (twice_cached in_.layout s c.args.marks.now c.place_free.new.marks free c.if-not-place_cached.ensures)

pub returns-then-not-place_kernel : goal.returns-then-not-place_kernel
returns-then-not-place_kernel c =
    let in_ = c.self.inside in
    let s : Memory = memory_value in_.free in_.pages in_.kernel.items in_.blocks in
    let start : IsStart in_.layout s c.args.marks.now =
    subst (λ (i : Pictured). IsStart i.layout i.memory c.args.marks.now) (sym c.self.view_is) c.requires in
    let free =
    has_free in_.layout s c.areas.result.now c.args.marks.now c.place_free.new.marks start c.areas.ensures
    c.if-not-place_free.ensures in
    let twice = rw (c.as_slice.ensures.value, c.rows.ensures) at c.if-not-place_kernel.ensures in
    rw (← c.self.view_is) (twice_kernel in_.layout s c.args.marks.now c.place_free.new.marks
    c.place_cached.new.marks free c.if-not-place_cached.ensures.1 twice)

pub returns-then-not-place_pages : goal.returns-then-not-place_pages
returns-then-not-place_pages c =
    let in_ = c.self.inside in
    let s : Memory = memory_value in_.free in_.pages in_.kernel.items in_.blocks in
    let start : IsStart in_.layout s c.args.marks.now =
    subst (λ (i : Pictured). IsStart i.layout i.memory c.args.marks.now) (sym c.self.view_is) c.requires in
    let free =
    has_free in_.layout s c.areas.result.now c.args.marks.now c.place_free.new.marks start c.areas.ensures
    c.if-not-place_free.ensures in
    let kernel = rw (c.as_slice.ensures.value, c.rows.ensures) at c.if-not-place_kernel.ensures in
    subst (λ (i : Pictured). ArePlacedOnce i.layout i.memory → ⊥) c.self.view_is
    (twice_pages in_.layout s c.args.marks.now c.place_free.new.marks c.place_cached.new.marks
    c.place_kernel.new.marks free c.if-not-place_cached.ensures.1 kernel.1 c.if-not-place_pages.ensures)

pub returns : goal.returns
returns c =
    let in_ = c.self.inside in
    let s : Memory = memory_value in_.free in_.pages in_.kernel.items in_.blocks in
    let start : IsStart in_.layout s c.args.marks.now =
    subst (λ (i : Pictured). IsStart i.layout i.memory c.args.marks.now) (sym c.self.view_is) c.requires in
    let free =
    has_free in_.layout s c.areas.result.now c.args.marks.now c.place_free.new.marks start c.areas.ensures
    c.if-not-place_free.ensures in
    let kernel = rw (c.as_slice.ensures.value, c.rows.ensures) at c.if-not-place_kernel.ensures in
    rw (← c.self.view_is) (placed_once in_.layout s c.args.marks.now c.place_free.new.marks
    c.place_cached.new.marks c.place_kernel.new.marks c.place_pages.new.marks c.are_all_set.result free
    c.if-not-place_cached.ensures kernel c.if-not-place_pages.ensures c.are_all_set.ensures)
