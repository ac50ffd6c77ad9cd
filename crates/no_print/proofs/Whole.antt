-- The text of a whole module.
use Rattle.std.proofs.Common.{◌≡◌, ℕ, List, [], ◌∷◌, ◌++◌, map, ap, ◌∙◌, append_assoc}
use Rattle.no_ir.specs.declared.types.Ty.{Ty}
use Rattle.no_ir.specs.declared.function.Function.{Function}
use Rattle.no_ir.specs.declared.function.GlobalVar.{GlobalVar}
use Rattle.no_ir.specs.declared.function.Module.{Module}
use Rattle.no_print.specs.Constants.{Spelled}
use Rattle.no_print.specs.Modules.{module_text, names_once, pieces_in, spelled_in}
use Rattle.no_print.specs.Pieces.{written}
use Rattle.no_print.specs.Wrote.{Wrote}

abbrev pub spelling_of : List (List ℕ × Ty) → List (List ℕ) → List (List ℕ) → Spelled
spelling_of types globals functions = record {
  named = map (λ (t : List ℕ × Ty). t.0) types;
  types = map (λ (t : List ℕ × Ty). t.1) types;
  globals = globals;
  functions = functions;
}

-- all pieces, and the end of the last line
pub whole_text : (m : Module) (types : List (List ℕ × Ty)) (globals functions : List (List ℕ)) (old mid new : List ℕ) → types ≡ m.types
    → globals ≡ names_once (map (λ (g : GlobalVar). g.name) m.globals) → functions ≡ names_once (map (λ (f : Function). f.name) m.functions)
    → Wrote old mid (pieces_in (spelling_of types globals functions) m) → new ≡ mid ++ 10 ∷ [] → new ≡ old ++ module_text m
unfolding module_text
whole_text m types globals functions old mid new t g f w e =
    let s : spelling_of types globals functions ≡ spelled_in m =
    ap (λ (ts : List (List ℕ × Ty)). spelling_of ts globals functions) t ∙ ap (λ (gs : List (List ℕ)). spelling_of m.types gs functions) g
    ∙ ap (λ (fs : List (List ℕ)). spelling_of m.types (names_once (map (λ (g : GlobalVar). g.name) m.globals)) fs) f in
    e ∙ ap (λ (l : List ℕ). l ++ 10 ∷ []) (w.is ∙ ap (λ (x : Spelled). old ++ written (pieces_in x m)) s)
    ∙ append_assoc old (written (pieces_in (spelled_in m) m)) (10 ∷ [])
