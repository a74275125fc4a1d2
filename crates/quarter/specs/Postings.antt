-- Postings added up. Assumes nothing.
use Rattle.std.specs.Prelude.{◌≡◌, ℕ, ◌+◌, cond, ℤ, pos, ◌+ℤ◌, neg_ℤ, Some, None, Option, nat_lt}
use Rattle.fault.specs.declared.cause.Fault.{Fault}
use Rattle.fault.specs.declared.cause.Fault.TheVariants.{LimitPassed}
use Rattle.fault.specs.declared.cause.Limit.TheVariants.{Postings as PostingLimit}
use Rattle.allocation.specs.declared.line.Posted.{Posted}
use Rattle.quarter.specs.Bounds.{most_posted}
use Rattle.quarter.specs.declared.input.Net.{Net}
use Rattle.quarter.specs.declared.input.Net.TheVariants.{Exchange, Measured, Losses}
use Rattle.quarter.specs.declared.input.Posting.{Posting}
use Rattle.quarter.specs.declared.input.Postings.{Postings}
use Rattle.quarter.specs.declared.input.Way.{Way}
use Rattle.quarter.specs.declared.input.Way.TheVariants.{In, Out}

-- into the area is positive
abbrev pub signed : Way → ℕ → ℤ
signed In wh = pos wh
signed Out wh = neg_ℤ (pos wh)

-- a volume where it counts in the net asked for, else 0
abbrev pub counts : Net → Net → ℤ → ℤ
counts Exchange Exchange v = v
counts Exchange Measured v = pos 0
counts Exchange Losses v = pos 0
counts Measured Exchange v = pos 0
counts Measured Measured v = v
counts Measured Losses v = pos 0
counts Losses Exchange v = pos 0
counts Losses Measured v = pos 0
counts Losses Losses v = v

abbrev pub postings_refusal : ℕ → Option Fault
postings_refusal gross = cond (nat_lt most_posted gross) (Some (LimitPassed PostingLimit)) None

-- X, M and L
abbrev pub nets : Postings → Posted
nets p = p.nets

-- the nets with one posting more
abbrev pub with_posting : Posted → Posting → Posted
with_posting n o =
    let volume = signed o.way o.wh in
    record { exchange = n.exchange +ℤ counts Exchange o.net volume; measured = n.measured +ℤ counts Measured o.net volume; losses = n.losses +ℤ counts Losses o.net volume }

-- n is p with one posting more
pub record Posts (p : Postings) (o : Posting) (n : Postings) : Type 0 where
  pub nets : n.nets ≡ with_posting p.nets o
  pub gross : n.gross ≡ p.gross + o.wh
