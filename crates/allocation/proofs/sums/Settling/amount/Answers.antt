use Rattle.std.proofs.Common.{◌≡◌, ◌-ℤ◌, refl, ap, ◌∙◌, w64, SFits, rules}
use Rattle.std.proofs.lemmas.Int.{to_z-of_z}
use Rattle.allocation.specs.Settling.{value_at, amount_of}
use Rattle.allocation.proofs.Floors.{amount_near}
use Rattle.allocation.proofs.sums.Settling.amount.Goals as goal

pub returns : goal.returns
unfolding amount_of
returns c =
    let self = c.args.self.now in
    let p = self.price.cents in
    let v = c.args.volume in
    let total : SFits w64 self.total = search rules in
    let next : SFits w64 c.in_ok-next.next = search rules in
    let a : SFits w64 c.value_of-after.result = search rules in
    let b : SFits w64 c.value_of-before.result = search rules in
    let d : SFits w64 (c.value_of-after.result -ℤ c.value_of-before.result) = search rules in
    let told = rw (to_z-of_z w64 _ c.ranges.volume) at c.in_ok-next.ensures in
    let next-is = to_z-of_z w64 _ next ∙ told.1 in
    let after = c.value_of-after.ensures.value ∙ ap (value_at p) next-is in
    let before = c.value_of-before.ensures.value ∙ ap (value_at p) (to_z-of_z w64 _ total) in
    let amount : ◌≡◌ _ (amount_of p self.total v) = rw (to_z-of_z w64 _ a, to_z-of_z w64 _ b) (to_z-of_z w64 _ d ∙ (λ i. after i -ℤ before i)) in
    record { answer = (told.0, (amount, next-is, refl)); near = rw amount (amount_near p self.total v) }
