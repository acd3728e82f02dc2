-- Calls after calls.
use Rattle.std.proofs.Common.{◌≡◌, true, List, [], ◌++◌, Option, ap, append_assoc, arith}
use Rattle.std.proofs.lemmas.List.{append-nil}
use Rattle.std.proofs.lemmas.List.Folds.{list_any-append}
use Rattle.hp_ops.specs.Names.{Receipt, CallFault}
use Rattle.hp_ops.specs.Ports.{PortValue, Gains, has_opened, is_opened, with_receipts}

-- receipts after receipts
pub shown_joined : (old mid new : PortValue) (xs ys : List Receipt) (f h : Option CallFault)
    → mid ≡ with_receipts old xs f → new ≡ with_receipts mid ys h → new ≡ with_receipts old (xs ++ ys) h
shown_joined old mid new xs ys f h first second = rw (second, first, append_assoc old.receipts xs ys)

-- and after them a call that gave none
pub shown_left : (old here new : PortValue) (xs : List Receipt) (f h : Option CallFault)
    → here ≡ with_receipts old xs f → new ≡ with_receipts here [] h → new ≡ with_receipts old xs h
shown_left old here new xs f h first second = grind (arith, shown_joined, append-nil)

-- the fault is the last call's
pub fault_is : {S : Type 0} (shows : S → PortValue) (makes : S → List Receipt → S → Type 0)
    (leaves : S → CallFault → S → Type 0) (old new : S) (f : Option CallFault) (P : List Receipt → Type 0)
    → Gains shows makes leaves old f new P → (shows new).fault ≡ f
fault_is shows makes leaves old new f P a = ap (λ (v : PortValue). v.fault) a.value

-- what was opened stays so
pub opened_more : (xs ys : List Receipt) → has_opened xs ≡ true → has_opened (xs ++ ys) ≡ true
opened_more xs ys h = rw (list_any-append (λ (r : Receipt). is_opened r.reply) xs ys, h)

-- the fault is the one that the port shows
pub at_fault : {S : Type 0} (shows : S → PortValue) (makes : S → List Receipt → S → Type 0)
    (leaves : S → CallFault → S → Type 0) (old new : S) (f : Option CallFault)
    (P : Option CallFault → List Receipt → Type 0)
    → Gains shows makes leaves old f new (P f)
    → Gains shows makes leaves old (shows new).fault new (P (shows new).fault)
at_fault shows makes leaves old new f P a = rw (fault_is shows makes leaves old new f (P f) a) a
