-- An operation that nothing disturbs between its Begin and its Commit, and the numbers of
-- operations.
use Rattle.std.specs.Prelude.{◌≡◌, ℕ, ◌<◌, ◌≤◌, Bool, true, false, ◌&&◌, ◌==◌, List, ◌∷◌, ◌++◌, None, map, IfSome}
use Rattle.std.specs.List.{AllByRecursion, list_any}
use Rattle.hp_units.specs.declared.events.Event.{Event}
use Rattle.hp_units.specs.declared.events.Event.TheVariants.{DrainFor}
use Rattle.hp_units.specs.declared.replies.Record.{Record}
use Rattle.hp_units.specs.declared.rows.Row.{Row}
use Rattle.hp_units.specs.LayoutParts.{LayoutParts}
use Rattle.hp_units.specs.Marks.{begins, holds_only_own_work, tag_of}
use Rattle.hp_units.specs.Memory.{Blocks, Memory}
use Rattle.hp_units.specs.Pages.{page_at}
use Rattle.hp_laws.specs.Consequences.{IsGoingFor}

-- the event drains this processor for the operation
abbrev pub drains_for : (op cpu : ℕ) → Event → Bool
drains_for op cpu (DrainFor other drained) = (other == op) && (drained == cpu)
drains_for op cpu event = false

-- the operation's Begin is in the net, and all later steps are its own drains and migrations, with
-- a drain of each processor among them. In the state `s`, no frame of the blocks that it takes
-- offline holds a page
pub record IsUndisturbed (l : LayoutParts) (s : Memory) (op : ℕ) (net : List Record) : Type 0 where
  pub earlier : List Record
  pub begin : Record
  pub work : List Record
  pub steps : net ≡ earlier ++ begin ∷ work
  pub opens : begins op (tag_of begin) ≡ true
  pub own : holds_only_own_work op (map tag_of work) ≡ true
  pub drained : (cpu : ℕ) → cpu < l.cpus → list_any (λ r. drains_for op cpu r.event) work ≡ true
  pub moved : (frame : ℕ) → IsGoingFor l s op frame → page_at s.pages frame ≡ None

-- the number of the operation that holds a block, if there is one, has the property
abbrev pub IsHeldBy : (ℕ → Type 0) → Row → Type 0
IsHeldBy IsNumber row = IfSome row.claim (λ claim. IsNumber claim.op)

-- the number of each operation that holds a block has the property
abbrev pub AreHeldBy : (ℕ → Type 0) → Blocks → Type 0
AreHeldBy IsNumber blocks = AllByRecursion (IsHeldBy IsNumber) blocks.rows

-- each operation that holds a block has a number up to `last`
abbrev pub AreClaimedUpTo : ℕ → Blocks → Type 0
AreClaimedUpTo last blocks = AreHeldBy (λ op. op ≤ last) blocks
