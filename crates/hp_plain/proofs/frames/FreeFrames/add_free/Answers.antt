use Rattle.std.proofs.Common.{◌≡◌, sym, ap, subst}
use Rattle.std.proofs.lemmas.Result.{on_ok_weaker, on_err_weaker}
use Rattle.hp_units.specs.FreeAreas.{with_back}
use Rattle.hp_units.specs.InLayout.{AreFreeAreasOf, AreFreeFramesOf}
use Rattle.hp_units.specs.Memory.{FreeFrames}
use Rattle.hp_plain.proofs.FramesInLayout.{of_areas, of_back}
use Rattle.hp_plain.proofs.ListWalks.{either_way}
use Rattle.hp_plain.proofs.Values.{frames_value}
use Rattle.hp_plain.proofs.frames.FreeFrames.add_free.Goals as goal

pub returns-clause-layout : goal.returns-clause-layout
returns-clause-layout c =
    let l = c.args.layout.now in
    let old = subst (AreFreeFramesOf l) (sym c.self.view_is) c.requires.layout in
    let mid = c.self.inside.areas in
    let new = c.add_back.new.self in
    let added =
    λ (e : new ≡ with_back mid c.args.class c.args.order c.args.frame). subst (AreFreeAreasOf l) (sym e)
    (of_back l mid c.args.class c.args.order c.args.frame old.areas c.requires.frame) in
    let kept = λ (e : new ≡ mid). subst (AreFreeAreasOf l) (sym e) old.areas in
    of_areas l _ new old (either_way c.add_back.result (AreFreeAreasOf l new) (on_ok_weaker c.add_back.result
    added c.add_back.ensures.value) (on_err_weaker c.add_back.result kept c.add_back.ensures.err))

pub returns-clause-value : goal.returns-clause-value
returns-clause-value c =
    on_ok_weaker c.add_back.result
    (λ (e : c.add_back.new.self ≡ with_back c.self.inside.areas c.args.class c.args.order c.args.frame).
    rw e (ap (λ (f : FreeFrames). frames_value (with_back f.areas c.args.class c.args.order c.args.frame)
    f.cached) c.self.view_is)) c.add_back.ensures.value
