-- A connection row that stands for nothing. Assumes nothing.
use Rattle.rows.specs.declared.connection.ConnectionRow.{ConnectionRow}
use Rattle.rows.specs.declared.connection.Digits.TheVariants.{Five}
use Rattle.rows.specs.Registers.{four}

-- all numbers 0, on a meter of five digits; no connection has code 0
abbrev pub no_connection : ConnectionRow
no_connection = record { code = 0; brp = 0; supplier = 0; class = 0; digits = Five; factor = 0; volumes = four (λ _. 0); stands = four (λ _. 0); mark = 0 }
