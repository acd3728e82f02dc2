use Rattle.std.proofs.Common.{ℕ, List, Option, None, length, replicate, sym, ◌∙◌, ap, subst, arith}
use Rattle.std.proofs.lemmas.List.{length-replicate}
use Rattle.std.proofs.lemmas.Result.{err_from_is_err_and}
use Rattle.hp_units.specs.Arithmetic.{frame_count}
use Rattle.hp_tape.specs.Deltas.{PageFrames}
use Rattle.hp_pages.specs.Pages.{AreSettled}
use Rattle.hp_pages.specs.Places.{TableValue}
use Rattle.hp_pages.proofs.PageParts.{new_is, none_read, same_frames, settled_no_pages}
use Rattle.hp_pages.proofs.pages.Pages.new.Goals as goal

pub returns-clause-empty : goal.returns-clause-empty
returns-clause-empty c =
    new_is c.args.layout.now c.in_ok-copy.field-0 c.in_ok-empty.field-0.rows c.in_ok-none.field-0
    c.in_ok-copy.ensures
    (rw (← c.owners.ensures.is, ← c.pages.ensures.is) (ap (λ (t : TableValue). t.rows) c.in_ok-empty.ensures))
    (rw (← c.frames-frames.ensures.is) c.in_ok-none.ensures)

pub returns-in_err-copy-clause-empty : goal.returns-in_err-copy-clause-empty
returns-in_err-copy-clause-empty c =
    rw (err_from_is_err_and c.from_residual.result c.from_residual.ensures.1).1 tt

pub returns-in_err-copy-clause-settled : goal.returns-in_err-copy-clause-settled
returns-in_err-copy-clause-settled c =
    rw (err_from_is_err_and c.from_residual.result c.from_residual.ensures.1).1 tt

pub returns-in_err-empty-clause-empty : goal.returns-in_err-empty-clause-empty
returns-in_err-empty-clause-empty c =
    let p = err_from_is_err_and c.from_residual-in_err-empty.result c.from_residual-in_err-empty.ensures.1 in
    rw p.1 tt

pub returns-in_err-empty-clause-settled : goal.returns-in_err-empty-clause-settled
returns-in_err-empty-clause-settled c =
    let p = err_from_is_err_and c.from_residual-in_err-empty.result c.from_residual-in_err-empty.ensures.1 in
    rw p.1 tt

pub returns-in_err-none-clause-empty : goal.returns-in_err-none-clause-empty
returns-in_err-none-clause-empty c =
    let p = err_from_is_err_and c.from_residual-in_err-none.result c.from_residual-in_err-none.ensures.1 in
    rw p.1 tt

pub returns-in_err-none-clause-settled : goal.returns-in_err-none-clause-settled
returns-in_err-none-clause-settled c =
    let p = err_from_is_err_and c.from_residual-in_err-none.result c.from_residual-in_err-none.ensures.1 in
    rw p.1 tt

pub returns-in_err-zeros-clause-empty : goal.returns-in_err-zeros-clause-empty
returns-in_err-zeros-clause-empty c =
    let p = err_from_is_err_and c.from_residual-in_err-zeros.result c.from_residual-in_err-zeros.ensures.1 in
    rw p.1 tt

pub returns-in_err-zeros-clause-settled : goal.returns-in_err-zeros-clause-settled
returns-in_err-zeros-clause-settled c =
    let p = err_from_is_err_and c.from_residual-in_err-zeros.result c.from_residual-in_err-zeros.ensures.1 in
    rw p.1 tt

pub empty-requires-clause-owners : goal.empty-requires-clause-owners
empty-requires-clause-owners c = omega (arith, c.owners.ensures.is, c.owners.ensures.layout.owners)

pub empty-requires-clause-some_pages : goal.empty-requires-clause-some_pages
empty-requires-clause-some_pages c = omega (arith, c.pages.ensures.is, c.pages.ensures.layout.some_pages)

pub empty-requires-clause-pages : goal.empty-requires-clause-pages
empty-requires-clause-pages c = omega (arith, c.pages.ensures.is, c.pages.ensures.layout.pages)

pub returns-clause-settled : goal.returns-clause-settled
returns-clause-settled c =
    let l = c.args.layout.now in
    subst (λ (v : PageFrames). AreSettled v) (sym (same_frames c.in_ok-empty.field-0.rows
    (replicate l.owners (replicate l.pages None)) c.in_ok-none.field-0 (replicate (frame_count l) None)
    (rw (← c.owners.ensures.is, ← c.pages.ensures.is) (ap (λ (t : TableValue). t.rows) c.in_ok-empty.ensures))
    (rw (← c.frames-frames.ensures.is) c.in_ok-none.ensures))) (settled_no_pages l)

pub invariant_of-result : goal.invariant_of-result
invariant_of-result c =
    let l = c.args.layout.now in
    let frames = c.frames-frames.result in
    rw c.in_ok-copy.ensures (record {
      frames = ap (λ (t : TableValue). t.frames) c.in_ok-empty.ensures ∙ c.frames-frames.ensures.is;
      pages = ap (λ (t : TableValue). t.pages) c.in_ok-empty.ensures ∙ c.pages.ensures.is;
      owners =
          ap (λ (t : TableValue). length t.rows) c.in_ok-empty.ensures
          ∙ (simp length-replicate) ∙ c.owners.ensures.is;
      buffers_of =
          ap (λ (b : List (Option (List ℕ))). length b) c.in_ok-none.ensures
          ∙ (simp length-replicate) ∙ c.frames-frames.ensures.is;
      words =
          λ frame. rw (c.in_ok-none.ensures, none_read frames frame) tt;
      zeros = c.in_ok-zeros.ensures;
      few_words = c.pages.ensures.layout.words;
    })
