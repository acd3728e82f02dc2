use Rattle.std.proofs.Common.{◌≡◌, ◌≤◌, ◌∙◌, ap, arith}
use Rattle.hp_log_pictures.specs.Columns.{Sampled, peak_at}
use Rattle.hp_log_pictures.proofs.columns.Columns.read.Goals as goal

pub returns-clause-told : goal.returns-clause-told
returns-clause-told c =
    let at : c.set.new.self.events ≡ c.args.event =
    ap (λ (s : Sampled). s.events) c.set.ensures ∙ c.in_ok-extend.ensures.events in
    let same : c.set.new.self.count ≡ c.args.count = ap (λ (s : Sampled). s.count) c.set.ensures in
    let h : c.set.new.self.count ≤ peak_at c.add_some.new.self c.args.event =
    c.in_ok-add_some.ensures.held c.args.event (omega arith) (omega (arith, c.in_ok-add_some.ensures.more)) in
    omega arith

pub returns-clause-held : goal.returns-clause-held
returns-clause-held c =
    λ e low high.
    let at : c.set.new.self.events ≡ c.args.event =
    ap (λ (s : Sampled). s.events) c.set.ensures ∙ c.in_ok-extend.ensures.events in
    let a : c.args.self.now.count ≤ peak_at c.extend.new.self e = c.in_ok-extend.ensures.held e low high in
    let b : peak_at c.set.new.self e ≤ peak_at c.add_some.new.self e =
    c.in_ok-add_some.ensures.kept e (omega arith) in
    let same : peak_at c.set.new.self e ≡ peak_at c.extend.new.self e =
    ap (λ (s : Sampled). peak_at s e) c.set.ensures in
    omega arith

pub returns-clause-kept : goal.returns-clause-kept
returns-clause-kept c =
    λ e low.
    let at : c.set.new.self.events ≡ c.args.event =
    ap (λ (s : Sampled). s.events) c.set.ensures ∙ c.in_ok-extend.ensures.events in
    let a : peak_at c.args.self.now e ≤ peak_at c.extend.new.self e = c.in_ok-extend.ensures.kept e low in
    let b : peak_at c.set.new.self e ≤ peak_at c.add_some.new.self e =
    c.in_ok-add_some.ensures.kept e (omega (arith, c.requires.next)) in
    let same : peak_at c.set.new.self e ≡ peak_at c.extend.new.self e =
    ap (λ (s : Sampled). peak_at s e) c.set.ensures in
    omega arith
