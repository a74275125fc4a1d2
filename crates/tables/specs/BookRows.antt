-- The rules of the book's two tables. Assumes nothing.
use Rattle.std.specs.Prelude.{ℕ, ltb}
use Rattle.fault.specs.declared.cause.Code.{Code}
use Rattle.fault.specs.declared.cause.Fault.TheVariants.{CodePresent, NotEnrolled, NoPlace, ForeignTables}
use Rattle.fault.specs.declared.cause.TableKind.TheVariants.{Connections, Groups}
use Rattle.rows.specs.declared.connection.ConnectionRow.{ConnectionRow}
use Rattle.rows.specs.declared.group.Group.{Group}
use Rattle.rows.specs.declared.group.GroupRow.{GroupRow}
use Rattle.rows.specs.Groups.{group_less}
use Rattle.tables.specs.Rules.{Rules}

abbrev pub code : ℕ → Code
code n = record { 0 = n }

-- connections, keyed by code
abbrev pub connection_rules : Rules ConnectionRow ℕ
connection_rules = record {
  key = λ row. row.code;
  less = ltb;
  most = 1000000;
  present = λ c. CodePresent (code c);
  absent = λ c. NotEnrolled (code c);
  full = λ _. NoPlace Connections;
}

-- groups, keyed by BRP, then supplier, then class. No entry puts a group in twice, and one that is needed and not there is another book's.
abbrev pub group_rules : Rules GroupRow Group
group_rules = record {
  key = λ row. row.group;
  less = group_less;
  most = 1024;
  present = λ _. ForeignTables;
  absent = λ _. ForeignTables;
  full = λ _. NoPlace Groups;
}
