use Rattle.std.proofs.Common.{sym, ap, ◌∙◌, arith}
use Rattle.std.proofs.lemmas.List.{at_drop_all}
use Rattle.record.specs.Format.{over, encode}
use Rattle.record.proofs.Fields.{extent_more, put_more, over_none}
use Rattle.record.proofs.put.put_all.Goals as goal

pub loop-field-preserved : goal.loop-field-preserved
loop-field-preserved c =
    let at = c.loop-field.field-index in
    let field = c.field-item in
    let on = c.loop-field-test.true in
    let more = extent_more c.args.fields.now at field.result on field.is in (
      put_more c.args.out.now c.loop-field.out _ c.args.at c.loop-field.place _ at c.args.fields.now field.result on field.is (omega arith) c.loop-field.invariant.0 c.put_bytes-place.ensures.place c.put_bytes-place.ensures.bytes,
      omega arith,
    )

pub returns : goal.returns
returns c =
    sym (ap (over c.loop-field.out c.loop-field.place) (at_drop_all encode c.args.fields.now c.loop-field.field-index c.loop-field-test.false) ∙ over_none c.loop-field.out c.loop-field.place)
    ∙ c.loop-field.invariant.0
