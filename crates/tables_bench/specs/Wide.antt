-- The rules of a wide row. Assumes nothing.
use Rattle.std.specs.Prelude.{ℕ, ltb}
use Rattle.fault.specs.declared.cause.Fault.TheVariants.{CodePresent, NotEnrolled, NoPlace}
use Rattle.fault.specs.declared.cause.TableKind.TheVariants.{Connections}
use Rattle.tables.specs.Rules.{Rules}
use Rattle.tables_bench.specs.declared.Wide.{Wide}

abbrev pub wide_rules : Rules Wide ℕ
wide_rules = record {
  key = λ row. row.code;
  less = ltb;
  most = 10000000;
  present = λ k. CodePresent (record { 0 = k });
  absent = λ k. NotEnrolled (record { 0 = k });
  full = λ _. NoPlace Connections;
}
