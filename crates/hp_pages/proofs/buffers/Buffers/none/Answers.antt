use Rattle.std.proofs.Common.{◌≡◌, ℕ, List, [], ◌∷◌, ◌++◌, Option, None, replicate, ap, ◌∙◌, arith}
use Rattle.std.proofs.lemmas.List.{replicate-append-replicate}
use Rattle.std.proofs.lemmas.Result.{err_from_is_err_and}
use Rattle.hp_units.specs.declared.plans.Words.{Words}
use Rattle.hp_pages.proofs.PageParts.{no_buffer}
use Rattle.hp_pages.proofs.buffers.Buffers.none.Goals as goal

pub returns-in_err-frames : goal.returns-in_err-frames
returns-in_err-frames c =
    rw (err_from_is_err_and c.from_residual.result c.from_residual.ensures.1).1 tt

pub returns-in_err-push : goal.returns-in_err-push
returns-in_err-push c =
    let p =
    err_from_is_err_and c.from_residual-in_err-push.result c.from_residual-in_err-push.ensures.1 in
    rw p.1 tt

pub returns : goal.returns
returns c =
    let all : c.loop-frame._frame ≡ c.args.count = omega (arith, c.loop-frame.auto._frame-end) in
    c.loop-frame.invariant ∙ ap (λ (n : ℕ). replicate n no_buffer) all

pub loop-frame-preserved : goal.loop-frame-preserved
loop-frame-preserved c =
    c.in_ok-push.ensures.items ∙ (ap (λ (xs : List (Option Words)). xs ++ None ∷ []) c.loop-frame.invariant
    ∙ replicate-append-replicate c.loop-frame._frame 1 None)
