-- The rules of each kind of row. Assumes nothing.
use Rattle.std.specs.Prelude.{ℕ, Bool, cond, List, ◌==◌, nat_lt}
use Rattle.fault.specs.declared.cause.Fault.TheVariants.{CodePresent, NotEnrolled, NoPlace, OutOfRange, ForeignTables}
use Rattle.fault.specs.declared.cause.TableKind.TheVariants.{Connections, Groups}
use Rattle.tables.specs.Rules.{Rules}
use Rattle.tables_demo.specs.Bytes.{text_before}
use Rattle.tables_demo.specs.declared.kinds.Group.{Group}
use Rattle.tables_demo.specs.declared.kinds.GroupKey.{GroupKey}
use Rattle.tables_demo.specs.declared.kinds.Label.{Label}
use Rattle.tables_demo.specs.declared.kinds.Meter.{Meter}
use Rattle.tables_demo.specs.declared.noted.Noted.{Noted}

abbrev pub meter_rules : Rules Meter ℕ
meter_rules = record {
  key = λ row. row.code;
  less = nat_lt;
  most = 3;
  present = λ k. CodePresent (record { 0 = k });
  absent = λ k. NotEnrolled (record { 0 = k });
  full = λ _. NoPlace Connections;
}

-- by responsible party, then by supplier, then by class
abbrev pub group_before : GroupKey → GroupKey → Bool
group_before a b = cond (a.brp == b.brp) (cond (a.supplier == b.supplier) (nat_lt a.class b.class) (nat_lt a.supplier b.supplier)) (nat_lt a.brp b.brp)

abbrev pub group_rules : Rules Group GroupKey
group_rules = record {
  key = λ row. row.key;
  less = group_before;
  most = 100;
  present = λ _. OutOfRange (record { 0 = 1 });
  absent = λ _. ForeignTables;
  full = λ _. NoPlace Groups;
}

abbrev pub label_rules : Rules Label (List ℕ)
label_rules = record {
  key = λ row. row.text;
  less = text_before;
  most = 100;
  present = λ _. OutOfRange (record { 0 = 1 });
  absent = λ _. OutOfRange (record { 0 = 2 });
  full = λ _. NoPlace Groups;
}

abbrev pub noted_rules : {T : Type 0} → Rules (Noted T) ℕ
noted_rules = record {
  key = λ row. row.code;
  less = nat_lt;
  most = 1000;
  present = λ k. CodePresent (record { 0 = k });
  absent = λ k. NotEnrolled (record { 0 = k });
  full = λ _. NoPlace Connections;
}
