-- What putting a row in answers, said of the table before it alone. Assumes nothing.
use Rattle.std.specs.Prelude.{◌≡◌, ℕ, None, Some, Ok, Err, Result}
use Rattle.std.specs.List.{insert}
use Rattle.fault.specs.declared.cause.Fault.{Fault}
use Rattle.tables.specs.declared.keyed.Table.{Table}
use Rattle.tables.specs.Rules.{Rules, with_row}
use Rattle.tables.specs.Tables.{insert_refusal, live}

-- the place at which the row stands among the others, or the first cause why it does not go in
abbrev pub Answers : {R K : Type 0} → Rules R K → Table R K → R → Result ℕ Fault → Type 0
Answers rules t row (Ok place) = (insert_refusal rules t (rules.key row) ≡ None) × (insert (live t) place row ≡ with_row rules row (live t))
Answers rules t row (Err e) = insert_refusal rules t (rules.key row) ≡ Some e
