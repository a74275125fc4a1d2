use Rattle.std.proofs.Common.{ℕ, List, ◌≡◌, ◌<◌, ◌-◌, length, get_or, take, drop, Some, ◌∙◌, rules}
use Rattle.std.proofs.lemmas.Slice.{first_rest}
use Rattle.record.specs.Family.{numbered}
use Rattle.record.proofs.FamilyLaws.{apart}
use Rattle.record.proofs.apart.take_apart.Goals as goal

pub returns : goal.returns
returns g c =
    let bytes = c.args.bytes.now in
    let behind : List ℕ = take (length bytes - 1) (drop 1 bytes) in
    let some : 0 < length bytes = search rules in
    let known : numbered g.K.Kind.number_of g.K.Kind.kinds (get_or bytes 0 0) ≡ Some c.in_ok-kind.kind = search rules in
    let front : c.in_ok-body.body.now ≡ take c.length.result behind = search rules in
    let back : c.in_ok-body.rest.now ≡ drop c.length.result behind = search rules in
    let whole : length c.in_ok-body.body.now ≡ c.length.result = search rules in
    record { split = apart g.K.Kind.number_of g.K.Kind.kinds _ _ _ _ _ _ _ (first_rest bytes 0 some) known front back; whole = whole ∙ c.length.ensures }
