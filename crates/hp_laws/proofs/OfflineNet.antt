-- No step of the net of a legal history was refused, and each was performed.
use Rattle.hp_laws.proofs.Records.{AllGood, net_good as each_good}
use Rattle.std.proofs.Common.{◌≡◌, ℕ, suc, List, [], ◌∷◌, ◌++◌, false, Option, Some, None, refl, zero}
use Rattle.std.specs.Prelude.{nat_le}
use Rattle.std.specs.Bool.{then_some}
use Rattle.hp_units.specs.LayoutParts.{LayoutParts}
use Rattle.hp_units.specs.Choices.{first_some}
use Rattle.hp_units.specs.Memory.{Memory}
use Rattle.hp_units.specs.History.{IsLegal, is_refused, net_of, run}
use Rattle.hp_units.specs.Refusals.{event_refusals, refusal_of}
use Rattle.hp_units.specs.Step.{answer, perform, step}
use Rattle.hp_laws.proofs.Names.{Event, NoCpu, Record, Refusal}
use Rattle.hp_laws.proofs.OwnedContents.{AllSucceed, none_rest}

-- ---- runs of which no step is refused

-- the second of two runs, one after the other
pub succeed_behind : (l : LayoutParts) (s : Memory) (a b : List Record) → AllSucceed l s (a ++ b)
    → AllSucceed l (run l s a) b
unfolding run
succeed_behind l s [] b h = h
succeed_behind l s (r ∷ a) b h = succeed_behind l (step l s r.serial r.cpu r.event).memory a b h.1

-- each step succeeds in the state that those before it lead to
succeed_each : (l : LayoutParts) (s : Memory) (n : List Record) → AllGood l s n → AllSucceed l s n
unfolding run
succeed_each l s [] good = tt
succeed_each l s (r ∷ n) good =
    (good zero r refl, succeed_each l (step l s r.serial r.cpu r.event).memory n (λ i. good (suc i)))

-- no step of the net of a legal history is refused
pub net_good : (l : LayoutParts) (base : Memory) (before : ℕ) (h : List Record) → IsLegal l base before h
    → AllSucceed l base (net_of h)
net_good l base before h legal = succeed_each l base _ (each_good l base before h legal)

-- ---- a step that isn't refused

-- it is performed, and nothing speaks against it
pub record IsPerformed (l : LayoutParts) (s : Memory) (serial cpu : ℕ) (event : Event) : Type 0 where
  pub memory : (step l s serial cpu event).memory ≡ (perform l s serial cpu event).memory
  pub free : first_some (event_refusals l s cpu event) ≡ None

-- each step that is not refused
pub step_performed : (l : LayoutParts) (s : Memory) (serial cpu : ℕ) (event : Event)
    → is_refused (step l s serial cpu event).reply ≡ false → IsPerformed l s serial cpu event
unfolding step refusal_of
step_performed l s serial cpu event good =
    let none : refusal_of l s cpu event ≡ None = no_refusal (refusal_of l s cpu event) good in
    record {
      memory = rw none;
      free = none_rest (then_some (nat_le l.cpus cpu) NoCpu) (event_refusals l s cpu event) none;
    }
  where
    no_refusal : (o : Option Refusal) → is_refused (answer l s serial cpu event o).reply ≡ false → o ≡ None
    no_refusal None e = refl
    no_refusal (Some refusal) e = cc
