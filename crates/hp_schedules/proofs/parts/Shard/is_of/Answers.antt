-- The part's number is that of the first records.
use Rattle.std.proofs.Common.{◌≡◌, ℕ, List, ap, arith, sym, take, ◌∙◌}
use Rattle.std.proofs.lemmas.Bool.{eq-eqb, eqb-true}
use Rattle.std.proofs.lemmas.List.{take-map, take_min}
use Rattle.hp_units.specs.declared.replies.Record.{Record}
use Rattle.hp_schedules.specs.Parts.{PartValue, part_number}
use Rattle.hp_schedules.specs.Schedules.{schedule_of}
use Rattle.hp_schedules.proofs.parts.Shard.is_of.Goals as goal

numbered : (n index of calls number : ℕ) (first records : List Record) (part : PartValue)
    → record { index = index; of = of; calls = calls } ≡ part → first ≡ take calls records
    → number ≡ part_number n of (schedule_of first)
    → part_number n part.of (take part.calls (schedule_of records)) ≡ number
numbered n index of calls number first records part view first_is number_is =
    rw (← view, take-map (λ (r : Record). r.cpu) calls records, ← first_is, number_is)

pub returns : goal.returns
returns c =
    let p = c.self.inside in
    let first : take c.min.result c.args.records.now ≡ take p.calls c.args.records.now =
    ap (λ (n : ℕ). take n c.args.records.now) (c.min.ensures ∙ omega arith)
    ∙ take_min p.calls c.args.records.now in
    let here =
    numbered c.args.processors p.index p.of p.calls c.number_of.result (take c.min.result c.args.records.now)
    c.args.records.now c.args.self.now c.self.view_is first c.number_of.ensures in
    let index : c.from.result ≡ c.args.self.now.index =
    c.from.ensures ∙ ap (λ (q : PartValue). q.index) c.self.view_is in (
      λ told. here ∙ (eqb-true c.number_of.result c.from.result told ∙ index),
      λ of. eq-eqb c.number_of.result c.from.result (sym here ∙ (of ∙ sym index)),
    )
