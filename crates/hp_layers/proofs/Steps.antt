-- A step of an event, by the answer of a processor that is in the layout.
use Rattle.std.proofs.Common.{◌≡◌, ℕ, ◌<◌, ◌≤◌, List, Result, IfOk, Option, Some, None, refl}
use Rattle.std.proofs.lemmas.Bool.{le-leb, lt-leb}
use Rattle.hp_units.specs.declared.events.Event.{Event}
use Rattle.hp_units.specs.declared.replies.Reply.{Reply}
use Rattle.hp_tape.specs.declared.deltas.Delta.{Delta}
use Rattle.hp_layers.specs.declared.layers.Layers.{Layers}
use Rattle.hp_layers.specs.Layers.{IsAnswered, state_of}
use Rattle.hp_units.specs.declared.replies.Refusal.{Refusal}
use Rattle.hp_units.specs.declared.replies.Refusal.TheVariants.{NoCpu}
use Rattle.hp_units.specs.declared.replies.Reply.TheVariants.{Refused}
use Rattle.hp_units.specs.Choices.{first_some}
use Rattle.hp_units.specs.LayoutParts.{LayoutParts}
use Rattle.hp_units.specs.Memory.{Memory}
use Rattle.hp_units.specs.Refusals.{event_refusals, refusal_of}
use Rattle.hp_units.specs.Step.{Answered, answer, perform, step}
use Rattle.hp_plain.specs.Asked.{asked}

-- a processor that isn't in the layout
pub step-no_cpu : (l : LayoutParts) (s : Memory) (serial cpu : ℕ) (event : Event) → l.cpus ≤ cpu
    → step l s serial cpu event ≡ record { memory = s; reply = Refused NoCpu }
unfolding step refusal_of
step-no_cpu l s serial cpu event past = rw (le-leb l.cpus cpu past) refl

-- a processor that is in the layout
pub step-in : (l : LayoutParts) (s : Memory) (serial cpu : ℕ) (event : Event) → cpu < l.cpus
    → step l s serial cpu event ≡ answer l s serial cpu event (first_some (event_refusals l s cpu event))
unfolding step refusal_of
step-in l s serial cpu event below = rw (lt-leb l.cpus cpu below)

answer-same : (l : LayoutParts) (s : Memory) (serial cpu other : ℕ) (event : Event) (refusal : Option Refusal)
    → perform l s serial cpu event ≡ perform l s 0 other event
    → answer l s serial cpu event refusal ≡ answer l s 0 other event refusal
answer-same l s serial cpu other event None e = e
answer-same l s serial cpu other event (Some refusal) e = refl

-- the answer of an event that doesn't read its serial
pub step-asked : (l : LayoutParts) (s : Memory) (serial cpu other : ℕ) (event : Event) → cpu < l.cpus
    → perform l s serial cpu event ≡ perform l s 0 other event
    → event_refusals l s cpu event ≡ event_refusals l s other event
    → step l s serial cpu event ≡ asked l s other event
step-asked l s serial cpu other event below e refusals =
    rw (step-in l s serial cpu event below)
    (rw (answer-same l s serial cpu other event (first_some (event_refusals l s cpu event)) e) (rw refusals))

-- the answer to an event as that of its step
pub answered : (m new : Layers) (event other : Event) (serial cpu : ℕ) (a : Answered)
    (before now : List Delta) {E : Type 0} (result : Result Reply E)
    → event ≡ other
    → step m.layout (state_of m) serial cpu other ≡ a → IfOk result (IsAnswered m other a new before now)
    → IfOk result (IsAnswered m event (step m.layout (state_of m) serial cpu event) new before now)
answered m new event other serial cpu a before now result is steps h = rw (is, steps) h
