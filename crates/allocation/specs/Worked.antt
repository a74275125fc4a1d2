-- Quarters worked by hand, as one table. Assumes nothing.
use Rattle.std.specs.Prelude.{◌≡◌, ℕ, ◌+◌, ◌*◌, List, [], ◌∷◌, map, ℤ, pos, neg_ℤ, Some, None}
use Rattle.fault.specs.declared.cause.Direction.TheVariants.{Offtake, FeedIn}
use Rattle.fault.specs.declared.cause.Fault.TheVariants.{NothingToShare}
use Rattle.fault.specs.declared.cause.Quarter.{Quarter}
use Rattle.fault.specs.Notices.{notice}
use Rattle.allocation.specs.declared.line.Posted.{Posted}
use Rattle.allocation.specs.declared.line.Share.{Share}
use Rattle.allocation.specs.declared.sums.Reconciled.{Reconciled}
use Rattle.allocation.specs.Amounts.{settled}
use Rattle.allocation.specs.Lines.{total, net, residual, divided}
use Rattle.allocation.specs.Refusals.{split_refusal}
use Rattle.allocation.specs.Scale.{weight_of}
use Rattle.allocation.specs.Settling.{price_of}

abbrev minus : ℕ → ℤ
minus n = neg_ℤ (pos n)

abbrev offtake : ℕ → Share
offtake w = record { direction = Offtake; weight = w; correction = pos 0; volume = pos 0 }

abbrev feed_in : ℕ → Share
feed_in w = record { direction = FeedIn; weight = w; correction = pos 0; volume = pos 0 }

-- two groups, the second with feed-in
abbrev two_groups : List Share
two_groups = offtake 30000 ∷ offtake 15000 ∷ feed_in 5000 ∷ []

abbrev two_groups_posted : Posted
two_groups_posted = record { exchange = pos 90000; measured = minus 41000; losses = minus 4000 }

abbrev three_ones : List Share
three_ones = offtake 1 ∷ offtake 1 ∷ offtake 1 ∷ []

abbrev volumes : List Share → List ℤ
volumes = map (λ s. s.volume)

abbrev corrections : List Share → List ℤ
corrections = map (λ s. s.correction)

abbrev reconciled : ℤ → Reconciled
reconciled v = record { volume = v; amount = pos 0 }

pub record Worked : Type 0 where
  -- half a watt-hour is rounded up, less is dropped
  pub half_up : weight_of 1 50000 ≡ 1
  pub less_dropped : weight_of 1 49999 ≡ 0
  -- the whole quarter of the two groups
  pub two_total : total two_groups ≡ 50000
  pub two_net : net two_groups ≡ minus 40000
  pub two_residual : residual two_groups_posted two_groups ≡ minus 5000
  pub two_volumes : volumes (divided 50000 (minus 5000) 0 two_groups) ≡ minus 33000 ∷ minus 16500 ∷ pos 4500 ∷ []
  -- what no share can have alone goes to the later ones, on either side of zero
  pub ones_up : corrections (divided 3 (pos 2) 0 three_ones) ≡ pos 0 ∷ pos 1 ∷ pos 1 ∷ []
  pub ones_down : corrections (divided 3 (minus 2) 0 three_ones) ≡ pos 0 ∷ minus 1 ∷ minus 1 ∷ []
  -- a residual above the weights turns offtake into feed-in, and nothing is cut off
  pub turned : volumes (divided 3 (pos 5) 0 (offtake 3 ∷ [])) ≡ pos 2 ∷ []
  -- without weights only a residual of zero can be shared
  pub nothing_left : (q : Quarter) → split_refusal 0 (pos 0) q ≡ None
  pub nothing_to_share : (q : Quarter) → split_refusal 0 (pos 1) q ≡ Some (NothingToShare q)
  pub thirteen : (q : Quarter) → (notice (NothingToShare q)).number ≡ 13
  -- a price weighed by volumes, and one rounded down below zero
  pub price : price_of (pos (54000 * 8000 + 18000 * 2000)) (54000 + 18000) ≡ pos 6500
  pub price_down : price_of (minus 1) 2 ≡ minus 1
  -- three volumes that come to zero, and so do their amounts
  pub money : map (λ x. x.amount) (settled (pos 6500) (pos 0) (reconciled (minus 1500000) ∷ reconciled (pos 500000) ∷ reconciled (pos 1000000) ∷ [])) ≡ minus 9750 ∷ pos 3250 ∷ pos 6500 ∷ []
