-- Each of the four events names its operation.
use Rattle.std.proofs.Common.{ap, sym, inl, inr}
use Rattle.hp_ops.specs.Names.{Event}
use Rattle.hp_ops.specs.Stages.{operation_in}
use Rattle.hp_ops.proofs.driver.operation_in.Goals as goal

pub returns-in-DrainFor : goal.returns-in-DrainFor
returns-in-DrainFor c =
    elim c.in-DrainFor.is [
      | inl drain ↦ sym (ap (λ (e : Event). operation_in e) drain.1)
      | inr other ↦ (elim other [
        | inl migrate ↦ sym (ap (λ (e : Event). operation_in e) migrate)
        | inr last ↦ (elim last [
          | inl commit ↦ sym (ap (λ (e : Event). operation_in e) commit)
          | inr cancel ↦ sym (ap (λ (e : Event). operation_in e) cancel)
        ])
      ])
    ]
