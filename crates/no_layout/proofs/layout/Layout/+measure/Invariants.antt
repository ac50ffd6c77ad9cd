use Rattle.std.proofs.Common.{◌≡◌, map}
use Rattle.no_layout.specs.Sizes.{fields_of, measure_of}
use Rattle.no_layout.specs.Measured.{IsSmall}
use Rattle.no_layout.proofs.Fields.{rest_from}
use Rattle.no_layout.proofs.layout.Layout.+measure.Given as goal

abbrev pub invariant-end_of-loop-field : goal.invariant-end_of-loop-field
invariant-end_of-loop-field l =
    let f = measure_of l.self l.sizes in
    record {
      value : rest_from l.packed f l.fields l.all l.field-index ≡ fields_of l.packed (map f l.fields);
      small : IsSmall l.all;
    }
