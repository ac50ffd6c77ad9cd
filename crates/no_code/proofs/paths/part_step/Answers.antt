use Rattle.std.proofs.Common.{◌≡◌, ◌∙◌, ℕ, Option, rules, sym, ap, subst}
use Rattle.no_ir.specs.declared.types.Ty.{Ty, out-Ty, the_lemmas}
use Rattle.no_ir.specs.declared.types.Ty.TheOpen.{Ty-F}
use Rattle.no_code.specs.Coded.{IsField, IsPartStep}
use Rattle.no_code.specs.Source.{source}
use Rattle.no_code.proofs.Grown.{adds_none}
use Rattle.no_code.proofs.paths.part_step.Goals as goal

pub returns-in-Struct : goal.returns-in-Struct
returns-in-Struct c =
    let a = c.args in
    let s = source a.from.program.now a.from.layout.now a.from.sizes.now a.from.addresses.now in
    let shape : out-Ty a.t.now ≡ Ty-F.Struct c.in-Struct.field-0 c.in-Struct.field-1 = ap out-Ty c.in-Struct.is ∙ search (rules, the_lemmas) in (
      adds_none a.code.now,
      subst (λ (x : Ty-F Ty). IsPartStep s a.n a.code.now a.t.now x a.index.now c.field_step.result) (sym shape)
          (subst (λ (k : Option ℕ). IsField s a.n a.code.now a.t.now k c.field_step.result) c.field_number.ensures (c.field_step.ensures a.n a.code.now)),
    )
