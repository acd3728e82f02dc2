use Rattle.std.proofs.Common.{[], get_or, refl, ◌∙◌, ap, arith}
use Rattle.hp_pages.specs.Pages.{words_row}
use Rattle.hp_memory.proofs.Conversions.{pages-kept}
use Rattle.hp_memory.proofs.Pages.{entry-more, row-all, row-none, row-of, row-words, same_tables, words-entry}
use Rattle.hp_memory.proofs.pictures.pages.put_row.Goals as goal

pub loop-number-init : goal.loop-number-init
loop-number-init c =
    let l = c.args.pages.now.layout in
    let v = c.args.pages.now.pages in
    let i = c.args.image.now.memory.pages in
    let row =
    row-none i.table c.args.owner (get_or v.table c.args.owner []) c.requires.table (row-of c.args.owner
    c.requires.pages c.requires.owner) in
    let words =
    row-none i.contents c.args.owner (words_row l v c.args.owner) c.requires.contents (row-words c.args.owner
    c.requires.pages c.requires.owner) in
    record { row = row.row; words = words.row; table = row.table; contents = words.table; same = refl }

pub loop-number-preserved : goal.loop-number-preserved
loop-number-preserved c =
    let l = c.args.pages.now.layout in
    let v = c.args.pages.now.pages in
    let i = c.args.image.now.memory.pages in
    let now = c.loop-number.image.memory.pages in
    let new = c.put_page.new.image.memory.pages in
    let row_size = row-of c.args.owner c.requires.pages c.requires.owner in
    let words_size = row-words c.args.owner c.requires.pages c.requires.owner in
    let end = ap (λ k. k.pages) (c.layout.ensures ∙ c.requires.layout) in
    let row =
    entry-more i.table now.table c.args.owner c.loop-number.number (get_or v.table c.args.owner [])
    c.requires.table_size
    (omega (arith, c.loop-number-test.true, c.pages-number-end.ensures.is, end, row_size))
    (record { row = c.loop-number.invariant.row; table = c.loop-number.invariant.table }) (ap
    (λ p. p.memory.pages.table) c.in_ok-put_page.ensures) in
    let words =
    entry-more i.contents now.contents c.args.owner c.loop-number.number (words_row l v c.args.owner)
    c.requires.contents_size
    (omega (arith, c.loop-number-test.true, c.pages-number-end.ensures.is, end, words_size))
    (record { row = c.loop-number.invariant.words; table = c.loop-number.invariant.contents }) (words-entry l
    v now.contents c.args.owner c.loop-number.number
    (omega (arith, c.loop-number-test.true, c.pages-number-end.ensures.is, end, row_size)) (ap
    (λ p. p.memory.pages.contents) c.in_ok-put_page.ensures)) in
    record {
      row = row.row;
      words = words.row;
      table = row.table;
      contents = words.table;
      same = pages-kept c.args.image.now _ c.loop-number.invariant.same c.in_ok-put_page.ensures;
    }

pub returns : goal.returns
returns c =
    let l = c.args.pages.now.layout in
    let v = c.args.pages.now.pages in
    let i = c.args.image.now.memory.pages in
    let now = c.loop-number.image.memory.pages in
    let row_size = row-of c.args.owner c.requires.pages c.requires.owner in
    let words_size = row-words c.args.owner c.requires.pages c.requires.owner in
    let end = ap (λ k. k.pages) (c.layout.ensures ∙ c.requires.layout) in
    rw (
      c.loop-number.invariant.same,
      same_tables now _ (row-all i.table now.table c.args.owner
          c.loop-number.number (get_or v.table c.args.owner [])
          (omega (arith, c.loop-number-test.false, c.pages-number-end.ensures.is, end, row_size))
          (record { row = c.loop-number.invariant.row; table = c.loop-number.invariant.table }))
          (row-all i.contents
          now.contents c.args.owner c.loop-number.number (words_row l v c.args.owner)
          (omega (arith, c.loop-number-test.false, c.pages-number-end.ensures.is, end, words_size))
          (record { row = c.loop-number.invariant.words; table = c.loop-number.invariant.contents })),
    )
