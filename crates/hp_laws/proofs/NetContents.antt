-- In a legal history no step of the net was refused, so the contents are what the net alone makes.
use Rattle.hp_laws.proofs.OfflineNet.{net_good}
use Rattle.std.proofs.Common.{◌≡◌, ℕ, List, [], ◌∷◌, refl}
use Rattle.hp_units.specs.LayoutParts.{LayoutParts}
use Rattle.hp_units.specs.Memory.{Memory}
use Rattle.hp_units.specs.Contents.{contents_of_net}
use Rattle.hp_units.specs.History.{IsLegal, net_of, run, value_of}
use Rattle.hp_units.specs.Step.{step}
use Rattle.hp_laws.proofs.Names.{Record}
use Rattle.hp_laws.proofs.OwnedContents.{step-contents, AllSucceed}

-- what the steps of a run make of the contents, where none of them is refused
run-contents : (l : LayoutParts) (s : Memory) (n : List Record) → AllSucceed l s n
    → (run l s n).pages.contents ≡ contents_of_net l s.pages.contents n
unfolding run
run-contents l s [] h = refl
run-contents l s (r ∷ n) h =
    rw (run-contents l (step l s r.serial r.cpu r.event).memory n h.1)
    (rw (step-contents l s _ r.cpu r.event h.0))

-- the contents of a legal history are those that its net makes
pub value-contents : (l : LayoutParts) (base : Memory) (before : ℕ) (h : List Record)
    → IsLegal l base before h
    → (value_of l base h).pages.contents ≡ contents_of_net l base.pages.contents (net_of h)
unfolding value_of
value-contents l base before h legal = run-contents l base _ (net_good l base before h legal)
