-- What the laws speak of, from the history alone: who is enrolled, what was posted, weighed, divided and read.
-- Only accepted entries count. What is posted, weighed and written means something while a quarter is open; between quarters it is that of the last one. Assumes nothing.
use Rattle.std.specs.Prelude.{ℕ, ◌+◌, ◌/◌, ◌%◌, cond, List, [], ◌∷◌, ℤ, pos, ◌+ℤ◌, ◌-ℤ◌, ◌*ℤ◌, neg_ℤ, ◌==◌, slice_index, unsigned_abs}
use Rattle.allocation.specs.Correction.{residual_of, corrected}
use Rattle.allocation.specs.Settling.{price_of}
use Rattle.profile.specs.Meanings.{Meaning}
use Rattle.profile.specs.Sources.{nothing}
use Rattle.profile.specs.Weights.{weight_meant}
use Rattle.record.specs.declared.entry.Enrolment.{Enrolment}
use Rattle.rows.specs.declared.connection.Digits.{Digits}
use Rattle.rows.specs.declared.connection.Digits.TheVariants.{Five}
use Rattle.rows.specs.declared.group.Group.{Group}
use Rattle.rows.specs.Connections.{digits_of, advance}
use Rattle.rows.specs.Registers.{four, register, way, signed_in}
use Rattle.rows.specs.Weighing.{or_zero}
use Rattle.rows.specs.Groups.{group_named}
use Rattle.tables.specs.BookRows.{connection_rules, group_rules}
use Rattle.tables.specs.Rules.{same}
use Rattle.ledger.specs.Events.{Turn, History, enrols, reads, switches, leaves, opens, posts, weighs, puts_back, divides, withdraws, settles, moved, turned, move_refused, turn_refused}
use Rattle.ledger.specs.Keys.{listing, unlisting, total, net}
use Rattle.ledger.specs.Postings.{measured, kind_direction, measured_volume, exchange, measurement, losses, with_posting}

-- one value at an open, a weigh or a divide, and another at every other turn
abbrev pub at_open : {A : Type 0} → Turn → (ℕ → ℤ → A) → A → A
at_open (opens p c) here other = here p c
at_open (posts k b s w) here other = other
at_open (weighs m) here other = other
at_open puts_back here other = other
at_open divides here other = other
at_open withdraws here other = other
at_open settles here other = other

abbrev pub at_weigh : {A : Type 0} → Turn → (Meaning → A) → A → A
at_weigh (opens p c) here other = other
at_weigh (posts k b s w) here other = other
at_weigh (weighs m) here other = here m
at_weigh puts_back here other = other
at_weigh divides here other = other
at_weigh withdraws here other = other
at_weigh settles here other = other

abbrev pub at_divide : {A : Type 0} → Turn → A → A → A
at_divide (opens p c) here other = other
at_divide (posts k b s w) here other = other
at_divide (weighs m) here other = other
at_divide puts_back here other = other
at_divide divides here other = here
at_divide withdraws here other = other
at_divide settles here other = other

-- the quarters divided: q
abbrev pub done : History → ℕ
done [] = 0
done (moved m ∷ h) = done h
done (turned t ∷ h) = at_divide t (done h + 1) (done h)
done (move_refused m f ∷ h) = done h
done (turn_refused t f ∷ h) = done h

-- the period and the price of the latest open
abbrev pub period_now : History → ℕ
period_now [] = 0
period_now (moved m ∷ h) = period_now h
period_now (turned t ∷ h) = at_open t (λ p c. p) (period_now h)
period_now (move_refused m f ∷ h) = period_now h
period_now (turn_refused t f ∷ h) = period_now h

abbrev pub price_now : History → ℤ
price_now [] = pos 0
price_now (moved m ∷ h) = price_now h
price_now (turned t ∷ h) = at_open t (λ p c. c) (price_now h)
price_now (move_refused m f ∷ h) = price_now h
price_now (turn_refused t f ∷ h) = price_now h

-- what was posted of a kind since open, in Wh; a withdraw drops it
abbrev pub posted : History → ℕ → ℕ
posted [] kind = 0
posted (moved m ∷ h) kind = posted h kind
posted (turned (opens p c) ∷ h) kind = 0
posted (turned (posts k b s w) ∷ h) kind = with_posting k w (posted h) kind
posted (turned (weighs m) ∷ h) kind = posted h kind
posted (turned puts_back ∷ h) kind = posted h kind
posted (turned divides ∷ h) kind = posted h kind
posted (turned withdraws ∷ h) kind = 0
posted (turned settles ∷ h) kind = posted h kind
posted (move_refused m f ∷ h) kind = posted h kind
posted (turn_refused t f ∷ h) kind = posted h kind

-- a volume with one posting more, if it goes to this group and direction
abbrev pub with_measured : ℕ → ℕ → ℕ → ℕ → Group → ℕ → ℤ → ℤ
with_measured kind b s wh g d v = cond (measured kind) (cond (same group_rules (group_named b s 0) g) (cond (d == kind_direction kind) (v +ℤ measured_volume kind wh) v) v) v

-- what was posted to a group of class 0 in a direction since open; a withdraw drops it
abbrev pub posted_to : History → Group → ℕ → ℤ
posted_to [] g d = pos 0
posted_to (moved m ∷ h) g d = posted_to h g d
posted_to (turned (opens p c) ∷ h) g d = pos 0
posted_to (turned (posts k b s w) ∷ h) g d = with_measured k b s w g d (posted_to h g d)
posted_to (turned (weighs m) ∷ h) g d = posted_to h g d
posted_to (turned puts_back ∷ h) g d = posted_to h g d
posted_to (turned divides ∷ h) g d = posted_to h g d
posted_to (turned withdraws ∷ h) g d = pos 0
posted_to (turned settles ∷ h) g d = posted_to h g d
posted_to (move_refused m f ∷ h) g d = posted_to h g d
posted_to (turn_refused t f ∷ h) g d = posted_to h g d

-- what the source of the latest weigh means
abbrev pub meant : History → Meaning
meant [] = nothing
meant (moved m ∷ h) = meant h
meant (turned t ∷ h) = at_weigh t (λ m. m) (meant h)
meant (move_refused m f ∷ h) = meant h
meant (turn_refused t f ∷ h) = meant h

-- what is known of a connection: latest BRP and supplier, the stands of its last enrol or read, and the quarter of that
pub record Connection : Type 0 where
  pub brp : ℕ
  pub supplier : ℕ
  pub class : ℕ
  pub digits : Digits
  pub factor : ℕ
  pub volumes : List ℕ
  pub stands : List ℕ
  pub mark : ℕ

abbrev nobody : Connection
nobody = record { brp = 0; supplier = 0; class = 0; digits = Five; factor = 0; volumes = four (λ _. 0); stands = four (λ _. 0); mark = 0 }

abbrev pub enrolled : Enrolment → ℕ → Connection
enrolled x q = record { brp = x.brp; supplier = x.supplier; class = x.class; digits = digits_of x.digits; factor = x.factor; volumes = x.volumes; stands = x.stands; mark = q }

abbrev pub read_at : List ℕ → ℕ → Connection → Connection
read_at stands q x = record { brp = x.brp; supplier = x.supplier; class = x.class; digits = x.digits; factor = x.factor; volumes = x.volumes; stands = stands; mark = q }

abbrev pub switched : ℕ → ℕ → Connection → Connection
switched b s x = record { brp = b; supplier = s; class = x.class; digits = x.digits; factor = x.factor; volumes = x.volumes; stands = x.stands; mark = x.mark }

abbrev pub connection : History → ℕ → Connection
connection [] c = nobody
connection (moved (enrols x) ∷ h) c = cond (same connection_rules x.code c) (enrolled x (done h)) (connection h c)
connection (moved (reads k s) ∷ h) c = cond (same connection_rules k c) (read_at s (done h) (connection h c)) (connection h c)
connection (moved (switches k b s) ∷ h) c = cond (same connection_rules k c) (switched b s (connection h c)) (connection h c)
connection (moved (leaves k) ∷ h) c = connection h c
connection (turned t ∷ h) c = connection h c
connection (move_refused m f ∷ h) c = connection h c
connection (turn_refused t f ∷ h) c = connection h c

-- the codes that are enrolled and have not left, in their order
abbrev pub codes : History → List ℕ
codes [] = []
codes (moved (enrols x) ∷ h) = listing connection_rules x.code (codes h)
codes (moved (reads k s) ∷ h) = codes h
codes (moved (switches k b s) ∷ h) = codes h
codes (moved (leaves k) ∷ h) = unlisting connection_rules k (codes h)
codes (turned t ∷ h) = codes h
codes (move_refused m f ∷ h) = codes h
codes (turn_refused t f ∷ h) = codes h

-- the group in which a connection stands
abbrev pub group_of : History → ℕ → Group
group_of h c = group_named (connection h c).brp (connection h c).supplier (connection h c).class

-- the groups that an enrol, a switch or a measured posting has named, in their order
abbrev pub known : History → List Group
known [] = []
known (moved (enrols x) ∷ h) = listing group_rules (group_named x.brp x.supplier x.class) (known h)
known (moved (reads k s) ∷ h) = known h
known (moved (switches k b s) ∷ h) = listing group_rules (group_named b s (connection h k).class) (known h)
known (moved (leaves k) ∷ h) = known h
known (turned (opens p c) ∷ h) = known h
known (turned (posts k b s w) ∷ h) = cond (measured k) (listing group_rules (group_named b s 0) (known h)) (known h)
known (turned (weighs m) ∷ h) = known h
known (turned puts_back ∷ h) = known h
known (turned divides ∷ h) = known h
known (turned withdraws ∷ h) = known h
known (turned settles ∷ h) = known h
known (move_refused m f ∷ h) = known h
known (turn_refused t f ∷ h) = known h

-- a connection's standard year volume of a register, if it stands in the group
abbrev pub volume_in : History → Group → ℕ → ℕ → ℕ
volume_in h g r c = cond (same group_rules (group_of h c) g) (slice_index (connection h c).volumes r) 0

-- the standing sum of a group and register: over the connections in the group
abbrev pub standing_sum : History → Group → ℕ → ℕ
standing_sum h g r = total (volume_in h g r) (codes h)

-- the weight of a group and direction in the running quarter: what the profile gives it; class 0 has none
abbrev pub weight : History → Group → ℕ → ℕ
weight h g d = cond (g.class == 0) 0 (or_zero (weight_meant (meant h g.class d (done h)) (standing_sum h g (register d (period_now h)))))

-- T and V
abbrev pub weights : History → ℕ
weights h = total (λ g. weight h g 0 + weight h g 1) (known h)

abbrev pub weights_net : History → ℤ
weights_net h = net (λ g. pos (weight h g 1) -ℤ pos (weight h g 0)) (known h)

-- R = -(X + M + V + L)
abbrev pub residual : History → ℤ
residual h = residual_of (exchange (posted h)) (measurement (posted h)) (weights_net h) (losses (posted h))

-- what a group g gets in the direction d: along the line of weights w, group by group, offtake before feed-in, with T = t, R = r and the total of the weights before
abbrev pub gets : ℕ → ℤ → (Group → ℕ → ℕ) → ℕ → List Group → Group → ℕ → ℤ
gets t r w before [] g d = pos 0
gets t r w before (k ∷ ks) g d = cond (same group_rules k g) (corrected t r (before + cond (d == 0) 0 (w k 0)) (way d) (w k d)) (gets t r w (before + (w k 0 + w k 1)) ks g d)

-- what a divide writes for a group and direction: its corrected volume, and for class 0 what was posted to it
abbrev pub wrote : History → Group → ℕ → ℤ
wrote h g d = cond (g.class == 0) (posted_to h g d) (gets (weights h) (residual h) (weight h) 0 (known h) g d)

-- the allocated volume of a group and register
abbrev pub allocated : History → Group → ℕ → ℤ
allocated [] g r = pos 0
allocated (moved m ∷ h) g r = allocated h g r
allocated (turned t ∷ h) g r = at_divide t (cond (r % 2 == period_now h) (allocated h g r +ℤ wrote h g (r / 2)) (allocated h g r)) (allocated h g r)
allocated (move_refused m f ∷ h) g r = allocated h g r
allocated (turn_refused t f ∷ h) g r = allocated h g r

-- the advance of a connection's register to its new stand, in Wh
abbrev pub advance_of : History → ℕ → List ℕ → ℕ → ℕ
advance_of h c stands r = advance (connection h c).digits (connection h c).factor (slice_index (connection h c).stands r) (slice_index stands r)

-- what the meters of a group counted: the advances of reads accepted while their connections stood in it, offtake negative
abbrev pub counted : History → Group → ℕ → ℤ
counted [] g r = pos 0
counted (moved (enrols x) ∷ h) g r = counted h g r
counted (moved (reads k s) ∷ h) g r = cond (same group_rules (group_of h k) g) (counted h g r +ℤ signed_in r (advance_of h k s r)) (counted h g r)
counted (moved (switches k b s) ∷ h) g r = counted h g r
counted (moved (leaves k) ∷ h) g r = counted h g r
counted (turned t ∷ h) g r = counted h g r
counted (move_refused m f ∷ h) g r = counted h g r
counted (turn_refused t f ∷ h) g r = counted h g r

-- the real volume of a group and register: what its meters counted; of class 0 all is measured
abbrev pub real : History → Group → ℕ → ℤ
real h g r = cond (g.class == 0) (allocated h g r) (counted h g r)

-- all advances of the month, in Wh
abbrev pub advanced : History → ℕ
advanced [] = 0
advanced (moved (enrols x) ∷ h) = advanced h
advanced (moved (reads k s) ∷ h) = advanced h + (advance_of h k s 0 + advance_of h k s 1 + advance_of h k s 2 + advance_of h k s 3)
advanced (moved (switches k b s) ∷ h) = advanced h
advanced (moved (leaves k) ∷ h) = advanced h
advanced (turned t ∷ h) = advanced h
advanced (move_refused m f ∷ h) = advanced h
advanced (turn_refused t f ∷ h) = advanced h

-- over the divided quarters of a period: what was posted of a kind
abbrev pub posted_in : History → ℕ → ℕ → ℕ
posted_in [] p kind = 0
posted_in (moved m ∷ h) p kind = posted_in h p kind
posted_in (turned t ∷ h) p kind = at_divide t (cond (period_now h == p) (posted_in h p kind + posted h kind) (posted_in h p kind)) (posted_in h p kind)
posted_in (move_refused m f ∷ h) p kind = posted_in h p kind
posted_in (turn_refused t f ∷ h) p kind = posted_in h p kind

-- what the profiled groups get in a direction of the running quarter
abbrev pub profiled_in : History → ℕ → ℤ
profiled_in h d = net (λ g. cond (g.class == 0) (pos 0) (wrote h g d)) (known h)

-- D of the running quarter
abbrev pub priced : History → ℕ
priced h = unsigned_abs (profiled_in h 0) + unsigned_abs (profiled_in h 1)

-- the sums of D and of D × price over the divided quarters of a period
abbrev pub volume_sum : History → ℕ → ℕ
volume_sum [] p = 0
volume_sum (moved m ∷ h) p = volume_sum h p
volume_sum (turned t ∷ h) p = at_divide t (cond (period_now h == p) (volume_sum h p + priced h) (volume_sum h p)) (volume_sum h p)
volume_sum (move_refused m f ∷ h) p = volume_sum h p
volume_sum (turn_refused t f ∷ h) p = volume_sum h p

abbrev pub value_sum : History → ℕ → ℤ
value_sum [] p = pos 0
value_sum (moved m ∷ h) p = value_sum h p
value_sum (turned t ∷ h) p = at_divide t (cond (period_now h == p) (value_sum h p +ℤ (pos (priced h) *ℤ price_now h)) (value_sum h p)) (value_sum h p)
value_sum (move_refused m f ∷ h) p = value_sum h p
value_sum (turn_refused t f ∷ h) p = value_sum h p

-- P of a period
abbrev pub price_in : History → ℕ → ℤ
price_in h p = price_of (value_sum h p) (volume_sum h p)

-- X, M and L of a period
abbrev pub exchange_in : History → ℕ → ℤ
exchange_in h p = exchange (posted_in h p)

abbrev pub measurement_in : History → ℕ → ℤ
measurement_in h p = measurement (posted_in h p)

abbrev pub losses_in : History → ℕ → ℤ
losses_in h p = losses (posted_in h p)

-- the real volumes of the profiled groups in a period
abbrev pub read_in : History → ℕ → ℤ
read_in h p = net (λ g. cond (g.class == 0) (pos 0) (real h g (register 0 p) +ℤ real h g (register 1 p))) (known h)

-- real loss, and the loss party's reconciliation volume
abbrev pub real_loss_in : History → ℕ → ℤ
real_loss_in h p = neg_ℤ (exchange_in h p +ℤ measurement_in h p +ℤ read_in h p)

abbrev pub loss_volume_in : History → ℕ → ℤ
loss_volume_in h p = real_loss_in h p -ℤ losses_in h p

-- the reconciliation volume of a group and register
abbrev pub reconciliation_of : History → Group → ℕ → ℤ
reconciliation_of h g r = real h g r -ℤ allocated h g r
