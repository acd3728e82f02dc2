use Rattle.std.proofs.Common.{◌≡◌, ◌+◌, List, ℕ, length, drop, get_or, ap, arith}
use Rattle.std.specs.List.{prefix_len}
use Rattle.std.proofs.lemmas.Str.{IsCharBoundary-after_ascii}
use Rattle.json.specs.Run.{is_plain}
use Rattle.hp_scenario.proofs.PlainTokens.{second_is_boundary, some_byte, string_cut}
use Rattle.hp_scenario.proofs.plain_reader.cut_string.Goals as goal

pub range-requires-clause-start_boundary : goal.range-requires-clause-start_boundary
range-requires-clause-start_boundary c inside =
    second_is_boundary c.args.text.now c.utf8.text
    (some_byte c.args.text.now 34 c.requires (λ e. omega arith)) (omega (arith, c.requires))

pub range_from-requires : goal.range_from-requires
range_from-requires c inside =
    let end = c.plain_end-end.result in
    let same = c.as_bytes-bytes.ensures.value in
    let long = ap (λ (b : List ℕ). length b) same in
    let last = ap (λ (b : List ℕ). get_or b end 0) same in
    IsCharBoundary-after_ascii c.args.text.now end c.utf8.text (omega (arith, long, c.if-end-bytes.false))
    (omega (arith, last, c.if-bytes-end-ne34.false))

pub returns : goal.returns
returns c =
    let t = c.args.text.now in
    let end = c.plain_end-end.result in
    let same = c.as_bytes-bytes.ensures.value in
    let last = ap (λ (b : List ℕ). get_or b end 0) same in
    let plain : end ≡ 1 + prefix_len is_plain (drop 1 t) = rw (c.plain_end-end.ensures.value, same) in
    rw (string_cut t end c.requires plain (omega (arith, last, c.if-bytes-end-ne34.false)))
    (rw (← c.range.ensures.value, ← c.range_from.ensures.value, ← c.after_blanks.ensures))
