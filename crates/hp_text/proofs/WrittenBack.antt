-- What `auto_online_blocks` shows can be written back.
use Rattle.std.proofs.Common.{◌≡◌, ℕ, List, refl, ap, sym, ◌∙◌, codes, Ok, Result}
use Rattle.hp_units.specs.LayoutParts.{LayoutParts}
use Rattle.hp_units.specs.Memory.{Memory}
use Rattle.hp_units.specs.Texts.{auto_text}
use Rattle.hp_units.specs.declared.events.Event.TheVariants.{SetAuto}
use Rattle.hp_requests.specs.Files.{file_at}
use Rattle.hp_text.specs.Names.{Auto, OfflineAuto, OnlineAuto, KernelAuto, MovableAuto, ControlFault}
use Rattle.hp_text.specs.ControlFiles.{file_text, line, text_of}
use Rattle.hp_requests.specs.Writes.{auto_of, request_of, request_to}
use Rattle.hp_requests.specs.declared.writes.Request.TheVariants.{Event}

-- each of the four words with its newline
word_back : (auto : Auto)
    → request_of (codes "auto_online_blocks") (line (auto_text auto)) ≡ Ok (Event (SetAuto auto))
unfolding request_of request_to auto_of file_at
word_back OfflineAuto = refl
word_back OnlineAuto = refl
word_back KernelAuto = refl
word_back MovableAuto = refl

-- what stands in an Ok
same_text : (r : Result (List ℕ) ControlFault) (a b : List ℕ) → r ≡ Ok a → r ≡ Ok b → a ≡ b
same_text r a b e f = cc

-- what is shown can be written back
pub written_back : (l : LayoutParts) (s : Memory) (text : List ℕ)
    → file_text l s (codes "auto_online_blocks") ≡ Ok text
    → request_of (codes "auto_online_blocks") text ≡ Ok (Event (SetAuto s.blocks.auto))
unfolding file_text text_of file_at
written_back l s text shown =
    ap (request_of (codes "auto_online_blocks")) (sym (same_text (file_text l s (codes "auto_online_blocks"))
    (line (auto_text s.blocks.auto)) text refl shown)) ∙ word_back s.blocks.auto
