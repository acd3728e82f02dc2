-- The report on a log.
use Rattle.std.specs.Prelude.{◌≡◌, ℕ, ◌+◌, Bool, false, not, List, length, take}
use Rattle.std.specs.List.{filter}
use Rattle.hp_verdicts.specs.Names.{LogEvent, Law, Once, InUse, Present, Empty, Movable, GoingOnline, GoingOffline, Online, Offline, Fault, Malformed, Unlawful, NumberedFault}
use Rattle.hp_judge.specs.Tables.{Tables, Follows}
use Rattle.hp_judge.specs.Verdicts.{FaultsTo}
use Rattle.hp_verdicts.specs.declared.allowed.AllowedKinds.{AllowedKinds}

abbrev pub allowed_none : AllowedKinds
allowed_none = record {
  malformed = false;
  once = false;
  in_use = false;
  present = false;
  empty = false;
  movable = false;
  going_online = false;
  going_offline = false;
  online = false;
  offline = false;
}

-- a violation of the law does not make a log unlawful
abbrev pub allows_law : AllowedKinds → Law → Bool
allows_law a Once = a.once
allows_law a InUse = a.in_use
allows_law a Present = a.present
allows_law a Empty = a.empty
allows_law a Movable = a.movable
allows_law a GoingOnline = a.going_online
allows_law a GoingOffline = a.going_offline
allows_law a Online = a.online
allows_law a Offline = a.offline

abbrev pub allows : AllowedKinds → Fault → Bool
allows a Malformed = a.malformed
allows a (Unlawful v) = allows_law a v.law

abbrev pub is_reported : AllowedKinds → NumberedFault → Bool
is_reported a f = not (allows a f.fault)

pub record Report : Type 0 where
  pub allowed : AllowedKinds
  pub most : ℕ
  pub kept : List NumberedFault
  pub count : ℕ
  pub allowed_count : ℕ

-- the report counts all faults, and keeps the first `most` that are not allowed
pub record IsReportOf (all : List NumberedFault) (r : Report) : Type 0 where
  pub kept_are : r.kept ≡ take r.most (filter (is_reported r.allowed) all)
  pub count_is : r.count ≡ length (filter (is_reported r.allowed) all)
  pub sum_is : r.count + r.allowed_count ≡ length all

pub record Judged : Type 0 where
  pub tables : Tables
  pub report : Report

-- the tables are those after the log, and the report is on all its faults
pub record IsVerdictOn (log : List LogEvent) (v : Judged) : Type 0 where
  pub follows : Follows log v.tables
  pub all : List NumberedFault
  pub faults_are : FaultsTo v.tables.size log (length log) all
  pub report_is : IsReportOf all v.report
