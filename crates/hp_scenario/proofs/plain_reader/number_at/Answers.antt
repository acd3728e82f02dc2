use Rattle.std.proofs.Common.{◌≡◌, ◌-◌, List, ℕ, take, get_or, ap, ◌∙◌, arith}
use Rattle.std.specs.List.{prefix_len, slice_range}
use Rattle.std.specs.Char.{is_ascii_digit}
use Rattle.hp_scenario.proofs.PlainTokens.{as_number, number_cut}
use Rattle.hp_scenario.proofs.plain_reader.number_at.Goals as goal

pub returns : goal.returns
returns c =
    let t = c.args.text.now in
    let end = c.digits_end-end.result in
    let same = c.as_bytes-bytes.ensures.value in
    let digits : end ≡ prefix_len is_ascii_digit t = rw (c.digits_end-end.ensures.value, same) in
    let first = ap (λ (b : List ℕ). get_or b 0 0) same in
    let last = ap (λ (b : List ℕ). get_or b end 0) same in
    let none : end - 0 ≡ end = omega arith in
    let short : slice_range t 0 end ≡ take end t = ap (λ (n : ℕ). take n t) none in
    as_number c.args.place t c.range.result.now c.range_from.result.now
    (rw (number_cut t end digits (omega (arith, c.if-end-eq0.false))
    (λ zero. c.if-bytes-eq48.false (first ∙ zero)) (omega (arith, last, c.if-bytes-end-ne44.false)))
    (rw (← short, ← c.range.ensures.value, ← c.range_from.ensures.value))) c.requires
