-- When the rows of a quarter cannot be weighed, and what they come to. Assumes nothing.
use Rattle.std.specs.Prelude.{◌≡◌, ℕ, ◌+◌, ◌<◌, ◌≤◌, List, ℤ, pos, ◌-ℤ◌, Option, Result}
use Rattle.fault.specs.declared.cause.Fault.{Fault}
use Rattle.fault.specs.declared.cause.Quarter.{Quarter}
use Rattle.fault.specs.Values.{period_number}
use Rattle.allocation.specs.declared.line.Posted.{Posted}
use Rattle.allocation.specs.declared.line.Weights.{Weights}
use Rattle.allocation.specs.Correction.{residual_of}
use Rattle.allocation.specs.Lines.{weights_refusal}
use Rattle.allocation.specs.Refusals.{Decided, split_refusal}
use Rattle.allocation.specs.Scale.{most_weights}
use Rattle.profile.specs.Meanings.{Meaning}
use Rattle.rows.specs.declared.direction.ByDirection.{ByDirection}
use Rattle.rows.specs.declared.group.GroupRow.{GroupRow}
use Rattle.rows.specs.declared.weigh.Weighed.{Weighed}
use Rattle.rows.specs.declared.weigh.Weighing.{Weighing}
use Rattle.rows.specs.Weighing.{or_else, first_absent, weight_in, weights_total, weights_net}

-- what a definition over a meaning, a quarter and a period says where these are those of a weighing
abbrev pub under {ℓ} : {S : Type 0} {A : Type ℓ} → (S → Meaning) → Weighing S → (Meaning → Quarter → ℕ → A) → A
under means by definition = definition (means by.source.now) by.quarter (period_number by.period)

-- the first absent fraction, and then a total T beyond its limit
abbrev pub weigh_refusal : Meaning → Quarter → ℕ → List GroupRow → Option Fault
weigh_refusal meaning quarter period rows = or_else (first_absent meaning quarter period rows) (weights_refusal (weights_total meaning quarter period rows))

-- the answer is T and V of the rows, or why they have none
abbrev pub Counted : Meaning → Quarter → ℕ → List GroupRow → Result Weights Fault → Type 0
Counted meaning quarter period rows result = Decided (weigh_refusal meaning quarter period rows) result (λ w. (w.total ≡ weights_total meaning quarter period rows) × (w.net ≡ weights_net meaning quarter period rows))

-- w is what a row weighs in each direction
abbrev pub RowWeighed : Meaning → Quarter → ℕ → GroupRow → ByDirection ℕ → Type 0
RowWeighed meaning quarter period row w = (w.offtake ≡ weight_in meaning quarter period row 0) × (w.feed_in ≡ weight_in meaning quarter period row 1)

-- what rows weigh in each direction, as far as it matters: exact where T is within its limit, and past it where T is
pub record Tallied (meaning : Meaning) (quarter : Quarter) (period : ℕ) (rows : List GroupRow) (offtake feed_in : ℕ) : Type 0 where
  pub total_is : offtake + feed_in ≤ most_weights → offtake + feed_in ≡ weights_total meaning quarter period rows
  pub net_is : offtake + feed_in ≤ most_weights → (pos feed_in -ℤ pos offtake) ≡ weights_net meaning quarter period rows
  pub passed : most_weights < offtake + feed_in → most_weights < weights_total meaning quarter period rows

-- R, from the nets that were posted and V
abbrev pub row_residual : Meaning → Quarter → ℕ → Posted → List GroupRow → ℤ
row_residual meaning quarter period p rows = residual_of p.exchange p.measured (weights_net meaning quarter period rows) p.losses

-- the first absent fraction, and then what keeps a quarter of these postings from being divided
abbrev pub split_refused : Meaning → Quarter → ℕ → Posted → List GroupRow → Option Fault
split_refused meaning quarter period p rows = or_else (first_absent meaning quarter period rows) (split_refusal (weights_total meaning quarter period rows) (row_residual meaning quarter period p rows) quarter)

-- the answer is V, T and R of the rows for these postings, or why they have none
abbrev pub Splits : Meaning → Quarter → ℕ → Posted → List GroupRow → Result Weighed Fault → Type 0
Splits meaning quarter period p rows result = Decided (split_refused meaning quarter period p rows) result (λ w. (w.net ≡ weights_net meaning quarter period rows) × (w.split.total ≡ weights_total meaning quarter period rows) × (w.split.residual ≡ row_residual meaning quarter period p rows))
