-- One processor's operation more.
use Rattle.std.proofs.Common.{◌≡◌, ◌+◌, ◌∷◌, ◌++◌, [], ℕ, List, map, ap, arith, sym, ◌∙◌}
use Rattle.std.specs.List.{range_with_len}
use Rattle.std.proofs.lemmas.List.{append-nil, append_assoc}
use Rattle.std.proofs.lemmas.List.FromFn.{map-range_with_len_more}
use Rattle.hp_units.specs.Receipts.{receipts_of}
use Rattle.hp_schedules.specs.Scripts.{own_operation}
use Rattle.hp_explore.proofs.latest_ops.push_operations.Goals as goal

one_more : (own : ℕ → ℕ) (cpu op : ℕ) (start old new : List ℕ) → new ≡ old ++ op ∷ []
    → old ≡ start ++ map own (range_with_len 0 cpu) → op ≡ own cpu
    → new ≡ start ++ map own (range_with_len 0 (cpu + 1))
one_more own cpu op start old new pushed so_far last =
    rw (pushed, so_far, append_assoc, last, ← map-range_with_len_more own 0 cpu cpu (omega arith))

pub loop-cpu-init : goal.loop-cpu-init
loop-cpu-init c = λ g news at. sym (append-nil c.args.ops.now.items)

pub loop-cpu-preserved : goal.loop-cpu-preserved
loop-cpu-preserved c =
    λ g news at.
    one_more (λ cpu. own_operation (receipts_of cpu news)) c.loop-cpu.cpu c.operation.result
    c.args.ops.now.items c.loop-cpu.ops.items c.push.new.self.items c.in_ok-push.ensures.items
    (c.loop-cpu.invariant g news at) (c.operation.ensures g news at)

pub returns : goal.returns
returns c =
    λ g news at.
    c.loop-cpu.invariant g news at
    ∙ ap (λ (n : ℕ). c.args.ops.now.items
    ++ map (λ (cpu : ℕ). own_operation (receipts_of cpu news)) (range_with_len 0 n))
    (omega (arith, c.loop-cpu-test.false, c.loop-cpu.auto.cpu-end, c.requires, at.many))
