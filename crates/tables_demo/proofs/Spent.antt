-- What putting a row in answers. Assumes nothing.
use Rattle.std.proofs.Common.{ℕ, Ok, Err, Result, sym, ◌∙◌}
use Rattle.fault.specs.declared.cause.Fault.{Fault}
use Rattle.tables.specs.declared.keyed.Table.{Table}
use Rattle.tables.specs.Rules.{Rules}
use Rattle.tables.specs.Tables.{Inserts}
use Rattle.tables_demo.specs.Spending.{Answers}

pub answers : {R K : Type 0} (rules : Rules R K) (t t' : Table R K) (row : R) (answer : Result ℕ Fault) → Inserts rules t row answer t' → Answers rules t row answer
answers rules t t' row (Ok place) put = (put.accepted, sym put.placed ∙ put.rows)
answers rules t t' row (Err e) refused = refused
