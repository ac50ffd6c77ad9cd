use Rattle.no_verify_types.proofs.Marks.{unknown_found}
use Rattle.no_verify_types.proofs.unknown.unknown_function.Goals as goal

pub returns : goal.returns
returns c =
    unknown_found c.args.role c.first_unknown.result c.as_slice-2.result.now c.write_marks.new.marks.items c.in_ok-marks.marks.items c.len.result c.as_slice.result.now c.in_ok-names.names.items _ c.args.program.now.functions c.as_slice-3.result.now
    c.first_unknown.ensures c.as_slice-2.ensures.value c.as_slice-3.ensures c.write_marks.ensures c.in_ok-marks.ensures c.len.ensures c.as_slice.ensures.value c.in_ok-names.ensures
