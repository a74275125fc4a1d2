use Rattle.std.proofs.Common.{refl}
use Rattle.allocation.specs.Correction.{share, correction_of}
use Rattle.allocation.specs.Scale.{weight_of}
use Rattle.allocation.specs.Settling.{value_at, amount_of}
use Rattle.allocation.proofs.WorkedQuarters.{worked_quarters}
use Rattle.rows.specs.Connections.{advance}
use Rattle.ledger.proofs.worked.worked_entries.Goals as goal

pub returns : goal.returns
unfolding advance weight_of share correction_of value_at amount_of
returns c = record {
  arithmetic = worked_quarters;
  half_up = refl;
  less_dropped = refl;
  two_groups = refl;
  in_line = refl;
  rolled_over = refl;
  code_taken = refl;
  code_refused = refl;
  code_notice = refl;
  nothing_left = refl;
  nothing_divided = refl;
  nothing_booked = refl;
  nothing_to_share = refl;
  thirteen = refl;
  longest = refl;
  too_long = refl;
  month_accepted = (((((((((((((((((((((((((refl, refl, refl), refl, refl), refl, refl), refl, refl), refl, refl), refl, refl), refl, refl), refl, refl), refl, refl), refl, refl), refl, refl), refl, refl), refl, refl), refl, refl), refl, refl), refl, refl), refl, refl), refl, refl), refl, refl), refl, refl), refl, refl), refl, refl), refl, refl), refl, refl), refl, refl);
  month_page = refl;
}
