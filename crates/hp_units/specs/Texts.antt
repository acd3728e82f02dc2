-- How refusals, replies, faults, classes, pools, zones and the setting for added blocks are
-- printed.
use Rattle.std.specs.Prelude.{ℕ, List, ◌++◌, codes}
use Rattle.std.specs.Fmt.{decimal}
use Rattle.hp_units.specs.Names.{Zone, NormalZone, MovableZone, Class, Nu, Nm, Mm, IsoN, IsoM, Pool, NuPool, NmPool, MmPool, Auto, OfflineAuto, OnlineAuto, KernelAuto, MovableAuto, Refusal, NoOwner, NoPage, NoWord, AlreadyMapped, NotMapped, BadOrder, NoFrame, NoSuchFrame, NotKernel, NoCpu, NoBlock, EmptyPlan, Twice, Busy, NotOnline, NotOffline, HoldsUnmovable, NoOp, NothingToMove, NotFree, Gone, BadAddress, NotAbsent, Reply, Done, GivesFrame, Word, Moved, Opened, Restored, Released, Undone, Refused, CallFault, HistoryFull, OutOfMemory}
use Rattle.hp_units.specs.declared.layouts.LayoutFault.{LayoutFault}
use Rattle.hp_units.specs.declared.layouts.LayoutFault.TheVariants as fault

-- a refusal's name, with its number if it has one
abbrev pub refusal_text : Refusal → List ℕ
refusal_text NoOwner = codes "NoOwner"
refusal_text NoPage = codes "NoPage"
refusal_text NoWord = codes "NoWord"
refusal_text AlreadyMapped = codes "AlreadyMapped"
refusal_text NotMapped = codes "NotMapped"
refusal_text BadOrder = codes "BadOrder"
refusal_text NoFrame = codes "NoFrame"
refusal_text NoSuchFrame = codes "NoSuchFrame"
refusal_text NotKernel = codes "NotKernel"
refusal_text NoCpu = codes "NoCpu"
refusal_text NoBlock = codes "NoBlock"
refusal_text EmptyPlan = codes "EmptyPlan"
refusal_text (Twice block) = codes "Twice " ++ decimal block
refusal_text (Busy block) = codes "Busy " ++ decimal block
refusal_text (NotOnline block) = codes "NotOnline " ++ decimal block
refusal_text (NotOffline block) = codes "NotOffline " ++ decimal block
refusal_text (HoldsUnmovable frame) = codes "Unmovable " ++ decimal frame
refusal_text NoOp = codes "NoOp"
refusal_text NothingToMove = codes "NothingToMove"
refusal_text (NotFree frame) = codes "NotFree " ++ decimal frame
refusal_text Gone = codes "Gone"
refusal_text BadAddress = codes "BadAddress"
refusal_text (NotAbsent block) = codes "NotAbsent " ++ decimal block

-- a reply
abbrev pub reply_text : Reply → List ℕ
reply_text Done = codes "done"
reply_text (GivesFrame frame) = codes "frame " ++ decimal frame
reply_text (Word value) = codes "word " ++ decimal value
reply_text (Moved from to) = codes "moved " ++ decimal from ++ codes " " ++ decimal to
reply_text (Opened op) = codes "opened " ++ decimal op
reply_text Restored = codes "restored"
reply_text Released = codes "released"
reply_text (Undone count) = codes "undone " ++ decimal count
reply_text (Refused refusal) = codes "refused " ++ refusal_text refusal

-- the name of a fault of a call, and of a fault of a layout
abbrev pub call_fault_text : CallFault → List ℕ
call_fault_text HistoryFull = codes "HistoryFull"
call_fault_text OutOfMemory = codes "OutOfMemory"

abbrev pub layout_fault_text : LayoutFault → List ℕ
layout_fault_text fault.BadOrder = codes "BadOrder"
layout_fault_text fault.BadPageblocks = codes "BadPageblocks"
layout_fault_text fault.BadBlocks = codes "BadBlocks"
layout_fault_text fault.TooManyFrames = codes "TooManyFrames"
layout_fault_text fault.BadCpus = codes "BadCpus"
layout_fault_text fault.BadMarks = codes "BadMarks"
layout_fault_text fault.BadOwners = codes "BadOwners"
layout_fault_text fault.BadPages = codes "BadPages"
layout_fault_text fault.BadWords = codes "BadWords"
layout_fault_text fault.BadLimit = codes "BadLimit"
layout_fault_text fault.BadBoot = codes "BadBoot"
layout_fault_text fault.OutOfMemory = codes "OutOfMemory"

-- a class, a pool and a zone
abbrev pub class_text : Class → List ℕ
class_text Nu = codes "NU"
class_text Nm = codes "NM"
class_text Mm = codes "MM"
class_text IsoN = codes "IN"
class_text IsoM = codes "IM"

abbrev pub pool_text : Pool → List ℕ
pool_text NuPool = codes "NU"
pool_text NmPool = codes "NM"
pool_text MmPool = codes "MM"

abbrev pub zone_text : Zone → List ℕ
zone_text NormalZone = codes "normal"
zone_text MovableZone = codes "movable"

-- what an added block becomes (Linux, memory hotplug: auto_online_blocks)
abbrev pub auto_text : Auto → List ℕ
auto_text OfflineAuto = codes "offline"
auto_text OnlineAuto = codes "online"
auto_text KernelAuto = codes "online_kernel"
auto_text MovableAuto = codes "online_movable"
