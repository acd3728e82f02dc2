-- The parts have no fault, so they are within their limits; the blocks at boot are the list that
-- was copied.
use Rattle.std.proofs.Common.{ap, subst, sym, ◌∙◌, ◌≡◌, List, None, arith}
use Rattle.hp_units.specs.LayoutParts.{IsLayout, layout_fault}
use Rattle.hp_units.specs.PartsSeen.{parts_seen}
use Rattle.hp_units.specs.declared.rows.Boot.{Boot}
use Rattle.hp_units.proofs.Limits.{short_within, within_limits}
use Rattle.hp_units.proofs.layouts.Layout.new.Goals as goal

pub invariant_of-result : goal.invariant_of-result
invariant_of-result c =
    let none : layout_fault (parts_seen c.args.parts.now) ≡ None =
    sym c.first_fault.ensures ∙ c.in_default.is in
    subst (λ (boot : List Boot). IsLayout (record (parts_seen c.args.parts.now) { boot = boot }))
    (sym c.in-Ok.ensures.items)
    (within_limits (parts_seen c.args.parts.now) none)

pub returns-in_default-from_slice-clause-err : goal.returns-in_default-from_slice-clause-err
returns-in_default-from_slice-clause-err c = sym c.first_fault.ensures ∙ c.in_default.is

pub overflow_cast-result : goal.overflow_cast-result
overflow_cast-result c =
    omega (arith, (short_within (parts_seen c.args.parts.now) c.first_fault.ensures c.in_default.is).order)

pub overflow_cast-result-2 : goal.overflow_cast-result-2
overflow_cast-result-2 c =
    let short = short_within (parts_seen c.args.parts.now) c.first_fault.ensures c.in_default.is in
    omega (arith, short.pageblocks)

pub overflow_cast-result-3 : goal.overflow_cast-result-3
overflow_cast-result-3 c =
    omega (arith, (short_within (parts_seen c.args.parts.now) c.first_fault.ensures c.in_default.is).blocks)

pub overflow_cast-result-4 : goal.overflow_cast-result-4
overflow_cast-result-4 c =
    omega (arith, (short_within (parts_seen c.args.parts.now) c.first_fault.ensures c.in_default.is).cpus)

pub overflow_cast-result-5 : goal.overflow_cast-result-5
overflow_cast-result-5 c =
    omega (arith, (short_within (parts_seen c.args.parts.now) c.first_fault.ensures c.in_default.is).batch)

pub overflow_cast-result-6 : goal.overflow_cast-result-6
overflow_cast-result-6 c =
    omega (arith, (short_within (parts_seen c.args.parts.now) c.first_fault.ensures c.in_default.is).high)

pub overflow_cast-result-7 : goal.overflow_cast-result-7
overflow_cast-result-7 c =
    omega (arith, (short_within (parts_seen c.args.parts.now) c.first_fault.ensures c.in_default.is).owners)

pub overflow_cast-result-8 : goal.overflow_cast-result-8
overflow_cast-result-8 c =
    omega (arith, (short_within (parts_seen c.args.parts.now) c.first_fault.ensures c.in_default.is).pages)

pub overflow_cast-result-9 : goal.overflow_cast-result-9
overflow_cast-result-9 c =
    omega (arith, (short_within (parts_seen c.args.parts.now) c.first_fault.ensures c.in_default.is).words)

pub returns-clause-ok : goal.returns-clause-ok
returns-clause-ok c =
    ap (λ (boot : List Boot). record (parts_seen c.args.parts.now) { boot = boot }) c.in-Ok.ensures.items

pub returns-clause-within : goal.returns-clause-within
returns-clause-within c = sym c.first_fault.ensures ∙ c.in_default.is
