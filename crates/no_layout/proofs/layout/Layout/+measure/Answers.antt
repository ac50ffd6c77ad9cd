use Rattle.no_layout.specs.Sizes.{measure_of}
use Rattle.no_layout.proofs.Fields.{fields_more, fields_unfit, fields_large}
use Rattle.no_layout.proofs.layout.Layout.+measure.Goals as goal

pub end_of-returns-in-None : goal.end_of-returns-in-None
end_of-returns-in-None t c =
    fields_unfit c.args.packed (measure_of c.args.self.now c.args.sizes.now) c.args.fields.now c.loop-field.all c.loop-field.field-index c.field-item.result _ c.loop-field-test.true c.field-item.is c.in-None.ensures c.loop-field.invariant.value

pub end_of-returns-in-None-with_field : goal.end_of-returns-in-None-with_field
end_of-returns-in-None-with_field t c =
    fields_large c.args.packed (measure_of c.args.self.now c.args.sizes.now) c.args.fields.now c.loop-field.all c.in-Some.one c.loop-field.field-index c.field-item.result _ c.loop-field-test.true c.field-item.is c.in-Some.ensures c.in-None-with_field.ensures c.loop-field.invariant.value

pub end_of-loop-field-preserved : goal.end_of-loop-field-preserved
end_of-loop-field-preserved t c = record {
  value = fields_more c.args.packed (measure_of c.args.self.now c.args.sizes.now) c.args.fields.now c.loop-field.all c.in-Some.one c.in-Some-with_field.more c.loop-field.field-index c.field-item.result _ c.loop-field-test.true c.field-item.is c.in-Some.ensures c.in-Some-with_field.ensures.0 c.loop-field.invariant.value;
  small = c.in-Some-with_field.ensures.1;
}
