use Rattle.no_layout.specs.Sizes.{measure_of}
use Rattle.no_layout.proofs.Fields.{before_fits, field_fits, offset_at}
use Rattle.no_layout.proofs.layout.Layout.place_of.Goals as goal

pub returns-in-None-clause-place : goal.returns-in-None-clause-place
returns-in-None-clause-place c =
    absurd (before_fits c.args.packed (measure_of c.args.self.now c.args.sizes.now) c.args.fields.now c.args.field c.requires.fits (rw c.split_at.ensures.front at c.in-None.ensures))

pub returns-in-None-measured-clause-place : goal.returns-in-None-measured-clause-place
returns-in-None-measured-clause-place c =
    absurd (field_fits c.args.packed (measure_of c.args.self.now c.args.sizes.now) c.args.fields.now c.args.field c.requires.fits c.index-fields-field.result c.requires.field c.index-fields-field.is c.in-None-measured.ensures)

pub returns-in-Some-measured-clause-place : goal.returns-in-Some-measured-clause-place
returns-in-Some-measured-clause-place c =
    let before = rw c.split_at.ensures.front at c.in-Some.ensures in
    offset_at c.args.packed (measure_of c.args.self.now c.args.sizes.now) c.args.fields.now c.args.field c.index-fields-field.result c.in-Some.before c.in-Some-measured.one _ c.requires.field c.index-fields-field.is c.in-Some-measured.ensures before.0 c.place_after.ensures.place
