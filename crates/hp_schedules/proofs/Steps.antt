-- A processor's receipts with one record more.
use Rattle.std.proofs.Common.{◌≡◌, ℕ, Bool, true, false, cond, List, [], ◌∷◌, ◌++◌, eqb, refl}
use Rattle.std.proofs.lemmas.Bool.{eq-eqb}
use Rattle.std.proofs.lemmas.List.{map-append}
use Rattle.std.proofs.lemmas.List.Elements.{filter-append}
use Rattle.hp_units.specs.Receipts.{receipt_of, receipts_of}
use Rattle.hp_units.specs.declared.replies.Record.{Record}

-- the receipts with one record more, by whether it is the processor's
pub receipts_push : (cpu : ℕ) (h : List Record) (r : Record) (own : Bool) → eqb r.cpu cpu ≡ own
    → receipts_of cpu (h ++ r ∷ []) ≡ receipts_of cpu h ++ cond own (receipt_of r ∷ []) []
receipts_push cpu h r true is = simp (filter-append, map-append, is)
receipts_push cpu h r false is = simp (filter-append, map-append, is)

-- its own record's
pub receipts_own : (h : List Record) (r : Record)
    → receipts_of r.cpu (h ++ r ∷ []) ≡ receipts_of r.cpu h ++ receipt_of r ∷ []
receipts_own h r = receipts_push r.cpu h r true (eq-eqb r.cpu r.cpu refl)
