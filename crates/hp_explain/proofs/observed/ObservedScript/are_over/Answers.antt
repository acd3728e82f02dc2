-- The line after the first ones is answered first of the others.
use Rattle.std.proofs.Common.{refl, sym}
use Rattle.std.proofs.lemmas.Bool.{le-leb, leb-true}
use Rattle.hp_explain.proofs.Rising.{get_none, over_all, over_told}
use Rattle.hp_explain.proofs.observed.ObservedScript.are_over.Goals as goal

pub returns-in-Some : goal.returns-in-Some
returns-in-Some c =
    let told = over_told c.args.self.now c.args.count c.args.time c.in-Some.line.now
    (rw (← c.self.view_is) c.self.invariant) (rw c.in-Some.is at (sym c.line.ensures)) in (
      λ late. told.0 (leb-true _ _ late),
      λ over. le-leb _ _ (told.1 over),
    )

pub returns-in-None : goal.returns-in-None
returns-in-None c = (
  λ any. over_all _ _ _ (get_none c.args.self.now _ (rw c.in-None.is at (sym c.line.ensures))),
  λ over. refl,
)
