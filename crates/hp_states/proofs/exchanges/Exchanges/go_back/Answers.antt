-- The processor's exchanges lose the last.
use Rattle.std.proofs.Common.{◌<◌, arith, length, refl, subst, sym, ◌∙◌}
use Rattle.std.proofs.lemmas.Option.{slice_get_read}
use Rattle.hp_states.specs.Exchanges.{AreExchanged}
use Rattle.hp_states.proofs.Exchanged.{among_set, exchanged_back, exchanged_back_past}
use Rattle.hp_states.proofs.exchanges.Exchanges.go_back.Goals as goal

pub returns-then-cpu-len-clause-back : goal.returns-then-cpu-len-clause-back
returns-then-cpu-len-clause-back c =
    λ g news r whose are. subst (AreExchanged g news) c.self.view_is
    (exchanged_back_past g news r
    (record { chains = c.self.inside.chains; here = c.self.inside.here.items })
    (omega (arith, c.if-cpu-len.true, c.len.ensures, c.self.inside.here.ok.0, c.cpu.view_is, whose))
    (subst (AreExchanged g _) (sym c.self.view_is) are))

pub invariant_of-self : goal.invariant_of-self
invariant_of-self c = among_set _ _ c.cpu.inside.0 _ c.before-before.ensures.within c.self.invariant

pub returns-clause-back : goal.returns-clause-back
returns-clause-back c =
    let within : c.cpu.inside.0 < length c.self.inside.here.items =
    omega (arith, c.if-cpu-len.false, c.len.ensures, c.self.inside.here.ok.0) in
    let was_here =
    slice_get_read c.self.inside.here.items _ c.cpu.inside.0 c.index-was.result.now refl within
    c.index-was.ensures in
    λ g news r whose are. exchanged_back g news r
    (record { chains = c.self.inside.chains; here = c.self.inside.here.items }) _ _ _ c.before-before.result
    (whose ∙ sym c.cpu.view_is) within was_here refl c.before-before.ensures.before refl
    (subst (AreExchanged g _) (sym c.self.view_is) are)
