-- A verdict, one event on.
use Rattle.std.proofs.Common.{arith, ◌≡◌, ℕ, List, [], ◌∷◌, ◌++◌, Option, Some, None}
use Rattle.std.specs.Option.{MatchOption}
use Rattle.hp_verdicts.specs.Names.{LogEvent, Fault, NumberedFault}
use Rattle.hp_judge.specs.Tables.{Tables, Follows}
use Rattle.hp_judge.specs.Verdicts.{MayFollow, Explains}
use Rattle.hp_judge.proofs.Lawful.{when_none, when_some}
use Rattle.hp_verdicts.specs.Reports.{Report, IsReportOf, IsVerdictOn}
use Rattle.hp_verdicts.proofs.LogFaults.{fault_more, lawful_more}

-- what the judge says of the next event
abbrev pub Observes : Tables → Tables → LogEvent → Option Fault → Type 0
Observes t u e fault = (u.size ≡ t.size)
    × ((log : List LogEvent) → Follows log t → Follows (log ++ e ∷ []) u)
    × ((log : List LogEvent) → Follows log t
    → MatchOption fault (MayFollow t.size log e) (Explains t.size log e))

pub verdict_lawful : (t u : Tables) (r : Report) (e : LogEvent) (fault : Option Fault)
    → Observes t u e fault → fault ≡ None → (log : List LogEvent)
    → IsVerdictOn log (record { tables = t; report = r })
    → IsVerdictOn (log ++ e ∷ []) (record { tables = u; report = r })
verdict_lawful t u r e fault seen none log is = grind (arith, lawful_more, when_none)

pub verdict_fault : (t u : Tables) (r s : Report) (e : LogEvent) (fault : Option Fault) (f : Fault) (n : ℕ)
    → Observes t u e fault → fault ≡ Some f → n ≡ t.count
    → ((all : List NumberedFault) → IsReportOf all r
    → IsReportOf (all ++ record { number = n; fault = f } ∷ []) s)
    → (log : List LogEvent) → IsVerdictOn log (record { tables = t; report = r })
    → IsVerdictOn (log ++ e ∷ []) (record { tables = u; report = s })
verdict_fault t u r s e fault f n seen some number add log is = grind (arith, fault_more, when_some)
