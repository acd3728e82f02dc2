use Rattle.std.proofs.Common.{Option, ℕ, sym, ◌∙◌, ap, subst}
use Rattle.std.specs.Prelude.{IfSome, unwrap_or}
use Rattle.std.specs.Option.{option_map_or}
use Rattle.hp_units.specs.Arithmetic.{IsFrame}
use Rattle.hp_pages.specs.Pages.{prepared_at, write_at}
use Rattle.hp_pages.proofs.WordCalls.{prepared-change, prepared-fill}
use Rattle.hp_pages.proofs.pages.Pages.write.Goals as goal

pub fill-requires : goal.fill-requires
fill-requires c =
    let l = c.args.self.now.layout in
    let v = c.args.self.now.pages in
    let at = sym c.frame_at.ensures.frame ∙ c.unwrap-frame.ensures in
    let fill =
    prepared-fill l v c.args.index c.args.value c.unwrap-frame.result c.in-Fill.words
    (ap (λ (o : Option ℕ). prepared_at l v c.args.index c.args.value (unwrap_or o 0)) (sym at)
    ∙ (sym c.requires.prepared ∙ c.in-Fill.is)) in
    record {
      frame = subst (λ (o : Option ℕ). IfSome o (IsFrame l)) at (c.frame_at.ensures.pages.mapped c.args.owner
          c.args.page);
      index = c.requires.index;
      none = fill.0;
      words = fill.1;
      some = fill.2;
      room = c.requires.room;
    }

pub overwrite-requires : goal.overwrite-requires
overwrite-requires c =
    let l = c.args.self.now.layout in
    let v = c.args.self.now.pages in
    let at = sym c.frame_at.ensures.frame ∙ c.unwrap-frame.ensures in
    let change =
    prepared-change l v c.args.index c.args.value c.unwrap-frame.result c.in-Change.change
    (ap (λ (o : Option ℕ). prepared_at l v c.args.index c.args.value (unwrap_or o 0)) (sym at)
    ∙ (sym c.requires.prepared ∙ c.in-Change.is)) in
    record {
      frame = subst (λ (o : Option ℕ). IfSome o (IsFrame l)) at (c.frame_at.ensures.pages.mapped c.args.owner
          c.args.page);
      index = c.requires.index;
      change = change.1;
      none = change.0;
      room = c.requires.room;
    }

pub returns-in-Fill-clause-written : goal.returns-in-Fill-clause-written
returns-in-Fill-clause-written c =
    let l = c.args.self.now.layout in
    let v = c.args.self.now.pages in
    rw c.fill.ensures.written (ap (λ (o : Option ℕ). option_map_or (λ n. write_at l v n c.args.index
    c.args.value) o v) (sym (sym c.frame_at.ensures.frame ∙ c.unwrap-frame.ensures)))

pub returns-in-Change-clause-written : goal.returns-in-Change-clause-written
returns-in-Change-clause-written c =
    let l = c.args.self.now.layout in
    let v = c.args.self.now.pages in
    rw c.overwrite.ensures.written (ap (λ (o : Option ℕ). option_map_or (λ n. write_at l v n c.args.index
    c.args.value) o v) (sym (sym c.frame_at.ensures.frame ∙ c.unwrap-frame.ensures)))
