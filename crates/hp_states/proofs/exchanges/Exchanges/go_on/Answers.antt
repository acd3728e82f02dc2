-- The processor's exchanges have one more at their end.
use Rattle.std.proofs.Common.{◌<◌, arith, length, refl, subst, sym, ◌∙◌}
use Rattle.std.proofs.lemmas.Option.{slice_get_read}
use Rattle.hp_states.specs.Exchanges.{AreExchanged}
use Rattle.hp_states.proofs.Exchanged.{among_kept, among_set, chained_within, exchanged_on, exchanged_past}
use Rattle.hp_states.proofs.exchanges.Exchanges.go_on.Goals as goal

pub returns-then-cpu-len-clause-ok : goal.returns-then-cpu-len-clause-ok
returns-then-cpu-len-clause-ok c =
    λ g news are. subst (AreExchanged g _) c.self.view_is
    (exchanged_past g news c.args.latest.now
    (record { chains = c.self.inside.chains; here = c.self.inside.here.items })
    (omega (arith, c.if-cpu-len.true, c.len.ensures, c.self.inside.here.ok.0, c.cpu.view_is, c.requires))
    (subst (AreExchanged g news) (sym c.self.view_is) are))

pub after-requires : goal.after-requires
after-requires c =
    c.self.invariant _ _
    (slice_get_read c.self.inside.here.items _ c.cpu.inside.0 c.index-was.result.now refl
    (omega (arith, c.if-cpu-len.false, c.len.ensures, c.self.inside.here.ok.0)) c.index-was.ensures)

pub invariant_of-self : goal.invariant_of-self
invariant_of-self c = among_kept _ _ _ c.after.ensures.kept c.self.invariant

pub invariant_of-self-2 : goal.invariant_of-self-2
invariant_of-self-2 c =
    let was_here =
    slice_get_read c.self.inside.here.items _ c.cpu.inside.0 c.index-was.result.now refl
    (omega (arith, c.if-cpu-len.false, c.len.ensures, c.self.inside.here.ok.0)) c.index-was.ensures in
    among_set _ _ c.cpu.inside.0 c.in_ok-number.number
    (chained_within _ _ _ _ _ (c.self.invariant _ _ was_here) c.in_ok-number.ensures.ok)
    (among_kept _ _ _ c.after.ensures.kept c.self.invariant)

pub returns-clause-ok : goal.returns-clause-ok
returns-clause-ok c =
    let within : c.cpu.inside.0 < length c.self.inside.here.items =
    omega (arith, c.if-cpu-len.false, c.len.ensures, c.self.inside.here.ok.0) in
    let was_here =
    slice_get_read c.self.inside.here.items _ c.cpu.inside.0 c.index-was.result.now refl within
    c.index-was.ensures in
    λ g news are. exchanged_on g news c.args.latest.now
    (record { chains = c.self.inside.chains; here = c.self.inside.here.items }) _ _ _ c.in_ok-number.number
    (c.requires ∙ sym c.cpu.view_is) within was_here c.after.ensures.kept c.in_ok-number.ensures.ok refl
    (subst (AreExchanged g news) (sym c.self.view_is) are)
