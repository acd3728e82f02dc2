-- Each turn appends the code up to the block that was found.
use Rattle.std.proofs.Common.{◌≡◌, ◌∙◌, ◌+◌, ◌-◌, ◌++◌, List, ℕ, append_assoc, arith, drop, sym}
use Rattle.std.proofs.lemmas.Result.{on_ok_weaker}
use Rattle.hp_states.specs.Parts.{gapped_code, kernel_code}
use Rattle.hp_states.proofs.Starts.{code_from}
use Rattle.hp_states.proofs.memories.put_kernel.Goals as goal

pub order_at-requires : goal.order_at-requires
order_at-requires c =
    let next =
    code_from c.args.kernel.now c.loop-frame.from c.args.frames _ c.requires.size c.loop-frame.invariant.from
    c.in-Some.ensures in
    omega (arith, next.1, c.requires.size, c.loop-frame.invariant.from)

pub unwrap-order-requires : goal.unwrap-order-requires
unwrap-order-requires c =
    let next =
    code_from c.args.kernel.now c.loop-frame.from c.args.frames _ c.requires.size c.loop-frame.invariant.from
    c.in-Some.ensures in
    rw c.order_at.ensures next.2

pub overflow_sub-frame-inside : goal.overflow_sub-frame-inside
overflow_sub-frame-inside c =
    let next =
    code_from c.args.kernel.now c.loop-frame.from c.args.frames _ c.requires.size c.loop-frame.invariant.from
    c.in-Some.ensures in
    omega (arith, next.0)

pub loop-frame-smaller : goal.loop-frame-smaller
loop-frame-smaller c =
    let next =
    code_from c.args.kernel.now c.loop-frame.from c.args.frames _ c.requires.size c.loop-frame.invariant.from
    c.in-Some.ensures in
    omega (arith, next.0, next.1)

pub loop-frame-preserved : goal.loop-frame-preserved
loop-frame-preserved c =
    let next =
    code_from c.args.kernel.now c.loop-frame.from c.args.frames _ c.requires.size c.loop-frame.invariant.from
    c.in-Some.ensures in
    let order : ℕ = c.unwrap-order.result in
    let later : List ℕ = kernel_code 0 (drop (c.in-Some.frame + 1) c.args.kernel.now) in
    let gap : c.from.result ≡ 0 + (c.in-Some.frame - c.loop-frame.from) = omega arith in
    let put : c.put_gapped.new.code
    ≡ c.loop-frame.code ++ gapped_code (0 + (c.in-Some.frame - c.loop-frame.from)) order =
    rw (← gap, ← c.order.view_is) c.in_ok-put_gapped.ensures in
    record {
      code =
          rw (
            c.frame.view_is,
            put,
            append_assoc,
            ← next.3 order (sym c.order_at.ensures ∙ c.unwrap-order.ensures),
          ) c.loop-frame.invariant.code;
      from = omega (arith, next.1, c.loop-frame.invariant.from);
    }

pub returns : goal.returns
returns c =
    let last =
    code_from c.args.kernel.now c.loop-frame.from c.args.frames _ c.requires.size c.loop-frame.invariant.from
    c.in_default.ensures in
    let gap : c.from-2.result ≡ 0 + (c.args.frames - c.loop-frame.from) = omega arith in
    on_ok_weaker c.number.result (λ all. all ∙ (rw (gap, ← last) c.loop-frame.invariant.code))
    c.number.ensures
