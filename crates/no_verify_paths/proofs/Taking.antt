-- Operands and labels that are taken one by one.
use Rattle.std.proofs.Common.{◌≡◌, ℕ, List, [], ◌∷◌, ◌++◌, Option, sym, ap, ◌∙◌, append_assoc}
use Rattle.std.specs.List.{filter_map, flat_map}
use Rattle.std.proofs.lemmas.List.Elements.{filter_map-append}
use Rattle.no_ir.specs.declared.instruction.Operand.{Operand}
use Rattle.no_verify_paths.specs.Paths.{registers_of}

-- the registers of one operand more are listed
pub registers_taken : (all out longer : List ℕ) (left more : List Operand) (o : Operand) → longer ≡ out ++ registers_of o → left ≡ o ∷ more
    → all ≡ out ++ flat_map registers_of left → all ≡ longer ++ flat_map registers_of more
registers_taken all out longer left more o e is h =
    h
    ∙ ap (λ (xs : List Operand). out ++ flat_map registers_of xs) is
    ∙ sym (append_assoc out (registers_of o) (flat_map registers_of more))
    ∙ ap (λ (xs : List ℕ). xs ++ flat_map registers_of more) (sym e)

-- the block of one label more is found
pub labels_taken : (at : ℕ → Option ℕ) (all out longer left more : List ℕ) (l : ℕ) → longer ≡ out ++ filter_map at (l ∷ []) → left ≡ l ∷ more
    → all ≡ out ++ filter_map at left → all ≡ longer ++ filter_map at more
labels_taken at all out longer left more l e is h =
    h
    ∙ ap (λ (xs : List ℕ). out ++ filter_map at xs) is
    ∙ ap (λ (xs : List ℕ). out ++ xs) (filter_map-append at (l ∷ []) more)
    ∙ sym (append_assoc out (filter_map at (l ∷ [])) (filter_map at more))
    ∙ ap (λ (xs : List ℕ). xs ++ filter_map at more) (sym e)
