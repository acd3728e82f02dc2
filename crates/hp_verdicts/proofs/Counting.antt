-- A report that allows no kind counts every fault.
use Rattle.std.proofs.Common.{arith, ◌≡◌, ℕ, false, IsTrue, List, [], ◌∷◌, length, refl, nat_eq}
use Rattle.std.specs.List.{filter}
use Rattle.std.proofs.lemmas.Bool.{eq-eqb, eqb-true}
use Rattle.hp_verdicts.specs.Names.{LogEvent, Fault, NumberedFault}
use Rattle.hp_judge.specs.Laws.{IsLawful}
use Rattle.hp_verdicts.specs.Reports.{Report, IsReportOf, Judged, IsVerdictOn, allowed_none, allows, is_reported}
use Rattle.hp_verdicts.proofs.LogFaults.{lawful_of_none, none_of_lawful}

fault_reported : (f : Fault) → allows allowed_none f ≡ false
fault_reported f = grind arith

all_reported : (all : List NumberedFault) → filter (is_reported allowed_none) all ≡ all
all_reported [] = refl
all_reported (f ∷ all) = grind (arith, fault_reported, (all_reported all))

empty_of : (all : List NumberedFault) → length all ≡ 0 → all ≡ []
empty_of [] h = refl
empty_of (f ∷ all) h = absurd (cc h)

none_counted : (all : List NumberedFault) (r : Report) → r.allowed ≡ allowed_none → IsReportOf all r
    → r.count ≡ 0 → all ≡ []
none_counted all r none h zero_is = grind (arith, empty_of, all_reported)

counted_none : (all : List NumberedFault) (r : Report) → IsReportOf all r → all ≡ [] → r.count ≡ 0
counted_none all r h none = rw (h.count_is, none)

pub lawful_exactly : (v : Judged) (log : List LogEvent) (n : ℕ) → n ≡ v.report.count
    → v.report.allowed ≡ allowed_none → IsVerdictOn log v
    → (IsTrue (nat_eq n 0) → IsLawful v.tables.size log) × (IsLawful v.tables.size log → IsTrue (nat_eq n 0))
lawful_exactly v log n count none is =
    grind (arith, lawful_of_none, none_counted, eqb-true, eq-eqb, counted_none, none_of_lawful)
