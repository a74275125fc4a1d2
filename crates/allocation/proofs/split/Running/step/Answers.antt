use Rattle.std.proofs.Common.{ℤ, ◌+ℤ◌, refl, ap, ◌∙◌, w64, SFits, rules}
use Rattle.std.proofs.lemmas.Int.{to_z-of_z}
use Rattle.allocation.specs.Correction.{profiled}
use Rattle.allocation.proofs.Shares.{given_limited, given_grows, near}
use Rattle.allocation.proofs.split.Running.step.Goals as goal

pub gathered-self-requires : goal.gathered-self-requires
gathered-self-requires c = search (rules, given_limited c.args.self.now)

pub gathered-self-requires-2 : goal.gathered-self-requires-2
gathered-self-requires-2 c = search (rules, given_limited c.args.self.now)

pub invariant_of-self : goal.invariant_of-self
invariant_of-self c =
    let self = c.args.self.now in
    let gain : SFits w64 c.gain-correction.result = search rules in
    let volume : SFits w64 c.volume_of-volume.result = search rules in
    let offtake : SFits w64 self.offtake = search rules in
    let feed_in : SFits w64 self.feed_in = search rules in
    let o : SFits w64 c.gathered-self.result = search rules in
    let f : SFits w64 c.gathered-self-2.result = search rules in
    let grows = given_grows self.split.total self.passed c.args.weight self.split.residual self.offtake self.feed_in c.volume_of-volume.result c.args.direction self.bounded (rw (to_z-of_z w64 _ gain, c.gain-correction.ensures.value) at c.volume_of-volume.ensures.bound) in
    let to-offtake = rw (to_z-of_z w64 _ offtake, to_z-of_z w64 _ volume) at c.gathered-self.ensures in
    let to-feed_in = rw (to_z-of_z w64 _ feed_in, to_z-of_z w64 _ volume) at c.gathered-self-2.ensures in
    record { within = c.requires; bounded = rw (to_z-of_z w64 _ o, to_z-of_z w64 _ f, to-offtake, to-feed_in) grows }

pub returns : goal.returns
returns c =
    let self = c.args.self.now in
    let d = c.args.direction in
    let w = c.args.weight in
    let gain : SFits w64 c.gain-correction.result = search rules in
    let volume : SFits w64 c.volume_of-volume.result = search rules in
    let offtake : SFits w64 self.offtake = search rules in
    let feed_in : SFits w64 self.feed_in = search rules in
    let o : SFits w64 c.gathered-self.result = search rules in
    let f : SFits w64 c.gathered-self-2.result = search rules in
    let gained = to_z-of_z w64 _ gain ∙ c.gain-correction.ensures.value in
    let got = to_z-of_z w64 _ volume ∙ c.volume_of-volume.ensures.value ∙ ap (λ (z : ℤ). profiled d w +ℤ z) gained in
    record {
      stepped = record {
        correction = gained;
        volume = got;
        split = refl;
        passed = refl;
        offtake = to_z-of_z w64 _ o ∙ (rw (to_z-of_z w64 _ offtake) at c.gathered-self.ensures);
        feed_in = to_z-of_z w64 _ f ∙ (rw (to_z-of_z w64 _ feed_in) at c.gathered-self-2.ensures);
      };
      near = rw got (near self.split.total self.passed w self.split.residual d c.requires);
    }
