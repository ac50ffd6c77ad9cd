use Rattle.std.proofs.Common.{◌∙◌, ℕ, List, refl, subst}
use Rattle.no_ir.specs.declared.types.Ty.{Ty}
use Rattle.no_code.specs.Making.{PutsParameters}
use Rattle.no_code.proofs.Made.{puts_home}
use Rattle.no_code.proofs.building.make_home.Goals as goal

pub returns : goal.returns
returns c =
    let a = c.args in
    puts_home a.g.now a.base a.registers a.code.now c.parameters.new.code c.put_home.new.code
    (record { start = a.base; registers = a.registers; result = c.kind.result; from = c.in_ok-first.first; to = c.in_ok-last.last }) c.requires
    (subst (λ (l : List (ℕ × Ty)). PutsParameters a.code.now c.parameters.new.code l) c.as_slice.ensures c.in_ok-parameters.ensures)
    refl refl c.kind.ensures (c.in_ok-first.ensures.0 ∙ c.len.ensures) (c.in_ok-last.ensures.0 ∙ c.len-2.ensures) c.in_ok-put_home.ensures
