use Rattle.std.proofs.Common.{◌≡◌, List, Option, Some, None, Result, Ok, Err, refl, sym, subst}
use Rattle.no_ir.specs.declared.function.Module.{Module}
use Rattle.no_ir.specs.declared.function.Role.{Role}
use Rattle.no_layout.specs.Text.{layout_of}
use Rattle.no_layout.specs.declared.extent.Extent.{Extent}
use Rattle.no_layout.specs.declared.layout.Layout.{Layout}
use Rattle.no_module.specs.Formed.{IsFormed}
use Rattle.no_module.specs.Marks.{MarksAllowed}
use Rattle.no_room.specs.Accepted.{Accepted}
use Rattle.no_verify_structure.specs.Large.{IsLargeAnswer}
use Rattle.no_verify.specs.Kinds.{IsPlace}
use Rattle.no_verify.specs.Verdict.{IsAccepted, IsLaterAnswer, later_kinds}
use Rattle.no_verify.specs.declared.fault.VerifyKind.TheVariants as kind
use Rattle.no_verify.proofs.Accepting.{accepted_begins, accepted_runs}
use Rattle.no_verify.proofs.Firsts.{later_first, later_nowhere}
use Rattle.no_verify.proofs.verdict.under.Goals as goal

whole : (m : Module) (role : Role) (l : Layout) (sizes : List Extent) → layout_of m.layout ≡ Ok l → IsFormed m → MarksAllowed role m → IsLargeAnswer l m (Ok sizes) → IsLaterAnswer (IsPlace l m role) later_kinds None
    → IsAccepted m role (record { «module» = m; layout = l; sizes = sizes; role = role })
whole m role l sizes stated formed marks large later = record {
  module_is = refl;
  role_is = refl;
  layout = stated;
  sizes = large.0;
  formed = formed;
  marks = marks;
  nowhere = later_nowhere (IsPlace l m role) later_kinds kind.BadType (sym large.1) later;
}

-- the module with its layout and sizes is accepted
abbrev accepted_in : goal.In-Ok-None → Accepted
accepted_in c = record { «module» = c.args.program; layout = c.args.layout; sizes = c.in-Ok-Ok.sizes; role = c.args.role }

is_accepted : (c : goal.In-Ok-None) → IsAccepted c.args.program c.args.role (accepted_in c)
is_accepted c =
    whole c.args.program c.args.role c.args.layout c.in-Ok-Ok.sizes c.requires.layout c.requires.formed c.requires.marks
    (subst (IsLargeAnswer c.args.layout c.args.program) c.in-Ok-Ok.field-0-is c.in-Ok-Ok.ensures)
    (subst (IsLaterAnswer (IsPlace c.args.layout c.args.program c.args.role) later_kinds) c.in-Ok-None.field-0-is c.in-Ok-None.ensures)

pub of-requires-clause-runs : goal.of-requires-clause-runs
of-requires-clause-runs c = accepted_runs c.args.program c.args.role (accepted_in c) (is_accepted c)

pub of-requires-clause-begins : goal.of-requires-clause-begins
of-requires-clause-begins c = accepted_begins c.args.program c.args.role (accepted_in c) (is_accepted c)

pub returns-in-Ok-None : goal.returns-in-Ok-None
returns-in-Ok-None c =
    subst (IsAccepted c.args.program c.args.role) (sym c.of.ensures)
    (whole c.args.program c.args.role c.args.layout c.in-Ok-Ok.sizes c.requires.layout c.requires.formed c.requires.marks
    (subst (IsLargeAnswer c.args.layout c.args.program) c.in-Ok-Ok.field-0-is c.in-Ok-Ok.ensures)
    (subst (IsLaterAnswer (IsPlace c.args.layout c.args.program c.args.role) later_kinds) c.in-Ok-None.field-0-is c.in-Ok-None.ensures))

pub returns-in-Ok-Some : goal.returns-in-Ok-Some
returns-in-Ok-Some c =
    let large : IsLargeAnswer c.args.layout c.args.program (Ok c.in-Ok-Ok.sizes) = subst (IsLargeAnswer c.args.layout c.args.program) c.in-Ok-Ok.field-0-is c.in-Ok-Ok.ensures in
    record {
      layout = c.args.layout;
      stated = c.requires.layout;
      first = later_first (IsPlace c.args.layout c.args.program c.args.role) later_kinds kind.BadType c.in-Ok-Some.fault (sym large.1) (subst (IsLaterAnswer (IsPlace c.args.layout c.args.program c.args.role) later_kinds) c.in-Ok-Some.field-0-is c.in-Ok-Some.ensures);
    }
