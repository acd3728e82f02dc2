-- The events that take a memory block from one phase to the next, and what the laws ask of each.
use Rattle.std.proofs.Common.{◌≡◌, ℕ, Bool, true, false, ◌==◌, nat_lt, refl, ◌⊎◌, inl, inr}
use Rattle.hp_judge.specs.Events.{is_well_formed, allocates, allocates_unmovable, frees, is_of, is_online_begin, is_movable_online_begin, is_online_end, is_offline_begin, is_offline_end, leaves_online, leaves_offline}
use Rattle.hp_judge.specs.LawfulNames.{LogEvent, MachineSize, OnlineBegins, OnlineEnds, OfflineBegins, OfflineEnds, Zone, NormalZone, MovableZone}
use Rattle.hp_judge.specs.Phases.{BlockPhase, Offline, GoingOnline, Online, GoingOffline}
use Rattle.hp_judge.specs.Reading.{next_phase}

-- the event takes block b from one phase to the next
pub data IsTurn (b : ℕ) : BlockPhase → LogEvent → BlockPhase → Type 0 where
  begins : {zone : Zone} → IsTurn b Offline (OnlineBegins b zone) (GoingOnline zone)
  comes : {zone : Zone} → IsTurn b (GoingOnline zone) (OnlineEnds b true) (Online zone)
  fails : {zone : Zone} → IsTurn b (GoingOnline zone) (OnlineEnds b false) Offline
  leaves : {zone : Zone} → IsTurn b (Online zone) (OfflineBegins b) (GoingOffline zone)
  goes : {zone : Zone} → IsTurn b (GoingOffline zone) (OfflineEnds b true) Offline
  remains : {zone : Zone} → IsTurn b (GoingOffline zone) (OfflineEnds b false) (Online zone)

-- ---- tests of a phase

abbrev pub is_offline : BlockPhase → Bool
is_offline Offline = true
is_offline phase = false

abbrev pub is_going_online : BlockPhase → Bool
is_going_online (GoingOnline zone) = true
is_going_online phase = false

abbrev pub is_online : BlockPhase → Bool
is_online (Online zone) = true
is_online phase = false

abbrev pub is_going_offline : BlockPhase → Bool
is_going_offline (GoingOffline zone) = true
is_going_offline phase = false

abbrev pub is_normal_zone : Zone → Bool
is_normal_zone NormalZone = true
is_normal_zone MovableZone = false

-- in zone Normal, or on the way into it or out of it
abbrev pub is_normal : BlockPhase → Bool
is_normal Offline = false
is_normal (GoingOnline zone) = is_normal_zone zone
is_normal (Online zone) = is_normal_zone zone
is_normal (GoingOffline zone) = is_normal_zone zone

-- ---- what an event opens: nothing that the phase after it settles

pub opens-offline : {b : ℕ} {p q : BlockPhase} {e : LogEvent} → IsTurn b p e q → is_offline q ≡ false
    → leaves_offline e ≡ false
opens-offline fails h = cc
opens-offline goes h = cc
opens-offline _ h = refl

pub opens-online : {b : ℕ} {p q : BlockPhase} {e : LogEvent} → IsTurn b p e q → is_online q ≡ false
    → leaves_online e ≡ false
opens-online comes h = cc
opens-online remains h = cc
opens-online _ h = refl

pub opens-going_online : {b : ℕ} {p q : BlockPhase} {e : LogEvent} → IsTurn b p e q
    → is_going_online q ≡ false → is_online_begin e ≡ false
opens-going_online begins h = cc
opens-going_online _ h = refl

pub opens-going_offline : {b : ℕ} {p q : BlockPhase} {e : LogEvent} → IsTurn b p e q
    → is_going_offline q ≡ false → is_offline_begin e ≡ false
opens-going_offline leaves h = cc
opens-going_offline _ h = refl

-- an online into zone Normal is none into zone Movable
normal_begin : (block : ℕ) (zone : Zone) → is_normal_zone zone ≡ true
    → is_movable_online_begin (OnlineBegins block zone) ≡ false
normal_begin block NormalZone h = refl
normal_begin block MovableZone h = cc

pub opens-movable : {b : ℕ} {p q : BlockPhase} {e : LogEvent} → IsTurn b p e q → is_normal q ≡ true
    → is_movable_online_begin e ≡ false
opens-movable {b} (begins {zone = z}) h = normal_begin b z h
opens-movable _ h = refl

-- ---- what an event asks: nothing that the phase before it does not settle

pub asks-offline : {b : ℕ} {p q : BlockPhase} {e : LogEvent} → IsTurn b p e q → is_online_begin e ≡ false
    → is_offline p ≡ false
asks-offline begins h = cc
asks-offline _ h = refl

pub asks-online : {b : ℕ} {p q : BlockPhase} {e : LogEvent} → IsTurn b p e q → is_offline_begin e ≡ false
    → is_online p ≡ false
asks-online leaves h = cc
asks-online _ h = refl

pub asks-going_online : {b : ℕ} {p q : BlockPhase} {e : LogEvent} → IsTurn b p e q → is_online_end e ≡ false
    → is_going_online p ≡ false
asks-going_online comes h = cc
asks-going_online fails h = cc
asks-going_online _ h = refl

pub asks-going_offline : {b : ℕ} {p q : BlockPhase} {e : LogEvent} → IsTurn b p e q → is_offline_end e ≡ false
    → is_going_offline p ≡ false
asks-going_offline goes h = cc
asks-going_offline remains h = cc
asks-going_offline _ h = refl

-- ---- what is settled after an event was settled before it, or is settled by an online

pub settles-offline : {b : ℕ} {p q : BlockPhase} {e : LogEvent} → IsTurn b p e q → is_offline q ≡ false
    → (is_offline p ≡ false) ⊎ (is_online_begin e ≡ true)
settles-offline begins h = inr refl
settles-offline fails h = absurd (cc)
settles-offline goes h = absurd (cc)
settles-offline _ h = inl refl

pub settles-movable : {b : ℕ} {p q : BlockPhase} {e : LogEvent} → IsTurn b p e q → is_normal q ≡ true
    → (is_normal p ≡ true) ⊎ (is_online_begin e ≡ true)
settles-movable begins h = inr refl
settles-movable fails h = absurd (cc)
settles-movable goes h = absurd (cc)
settles-movable _ h = inl h

-- ---- it is an event of its block, and of no frame

pub turn-next : {b : ℕ} {p q : BlockPhase} {e : LogEvent} → IsTurn b p e q → next_phase e p ≡ q
turn-next begins = refl
turn-next _ = refl

pub turn-of : {b : ℕ} {p q : BlockPhase} {e : LogEvent} → IsTurn b p e q → (k : ℕ) → is_of k e ≡ (b == k)
turn-of begins k = refl
turn-of _ k = refl

pub turn-allocates : {b : ℕ} {p q : BlockPhase} {e : LogEvent} (m : MachineSize) (f : ℕ) → IsTurn b p e q
    → allocates m f e ≡ false
turn-allocates m f begins = refl
turn-allocates m f _ = refl

pub turn-unmovable : {b : ℕ} {p q : BlockPhase} {e : LogEvent} (m : MachineSize) (f : ℕ) → IsTurn b p e q
    → allocates_unmovable m f e ≡ false
turn-unmovable m f begins = refl
turn-unmovable m f _ = refl

pub turn-frees : {b : ℕ} {p q : BlockPhase} {e : LogEvent} (m : MachineSize) (f : ℕ) → IsTurn b p e q
    → frees m f e ≡ false
turn-frees m f begins = refl
turn-frees m f _ = refl

pub turn-well_formed : {b : ℕ} {p q : BlockPhase} {e : LogEvent} (m : MachineSize) → IsTurn b p e q
    → is_well_formed m e ≡ nat_lt b m.blocks
turn-well_formed m begins = refl
turn-well_formed m _ = refl
