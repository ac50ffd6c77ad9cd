-- Operands that are taken one by one.
use Rattle.std.proofs.Common.{◌≡◌, ℕ, List, ◌∷◌, ◌++◌, sym, ap, ◌∙◌, append_assoc}
use Rattle.std.specs.List.{flat_map}
use Rattle.no_ir.specs.declared.instruction.Operand.{Operand}
use Rattle.no_verify_types.specs.Named.{operand_names}

-- the functions that one operand more names are listed
pub names_taken : (all out longer : List ℕ) (left more : List Operand) (o : Operand) → longer ≡ out ++ operand_names o → left ≡ o ∷ more
    → all ≡ out ++ flat_map operand_names left → all ≡ longer ++ flat_map operand_names more
names_taken all out longer left more o e is h =
    h
    ∙ ap (λ (xs : List Operand). out ++ flat_map operand_names xs) is
    ∙ sym (append_assoc out (operand_names o) (flat_map operand_names more))
    ∙ ap (λ (xs : List ℕ). xs ++ flat_map operand_names more) (sym e)
