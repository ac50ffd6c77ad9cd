-- The scan finds exactly the names that the forms of a text define.
use Rattle.std.proofs.Common.{◌≡◌, ℕ, Bool, true, false, ◌&&◌, ◌==◌, ◌⊎◌, inl, inr, List, [], ◌∷◌, ◌++◌, bytes_eq, codes, Some, None, map, refl, sym, ap, subst, ◌∙◌, append-nil}
use Rattle.std.specs.List.{fold}
use Rattle.no_lex.specs.declared.token.Token.{Token}
use Rattle.no_lex.specs.declared.token.TokenKind.{TokenKind}
use Rattle.no_lex.specs.declared.token.TokenKind.TheVariants as kind
use Rattle.no_ir.specs.declared.types.Ty.{Ty}
use Rattle.no_ir.specs.declared.function.Role.{Role}
use Rattle.no_ir.specs.declared.function.Module.{Module}
use Rattle.no_ir.specs.Naming.{with_name}
use Rattle.no_read_rules.specs.Rules.{next_is, Avoids}
use Rattle.no_read_rules.specs.Scope.{Meaning}
use Rattle.no_read_rules.specs.Spelled.{kind_number, spelled}
use Rattle.no_read_toplevel.specs.declared.groups.Settings.{Settings}
use Rattle.no_read_toplevel.specs.declared.tops.Top.{Top}
use Rattle.no_read_toplevel.specs.declared.tops.Top.TheVariants as top
use Rattle.no_read_toplevel.specs.Grouping.{found_in, all_grouped, no_groups}
use Rattle.no_read_toplevel.specs.Modules.{functions_in, globals_in, IsModuleOf}
use Rattle.no_read_toplevel.specs.Tops.{begins_top, a_top, more_tops, tops}
use Rattle.no_read_symbols.specs.declared.symbols.Symbols.{Symbols}
use Rattle.no_read_symbols.specs.Scan.{symbols_from, symbols_in}
use Rattle.no_read_names.specs.Defined.{names_once, global_names, function_names, defined_by}
use Rattle.no_read_names.proofs.Spots.{at}
use Rattle.no_read_names.proofs.Globals.{equals, none_is_empty, list_begins}
use Rattle.no_read_names.proofs.Tops.{with_form, Names, top_names}

-- what begins a form is no equals sign
begins_apart : (text : List ℕ) (t : Token) → begins_top text t ≡ true → equals text t ≡ false
begins_apart text t e = by t.kind e
  where
    by : (k : TokenKind) → begins_top text (record { kind = k; start = t.start; end = t.end }) ≡ true → (kind_number k == 8 && bytes_eq (spelled text t) (codes "=")) ≡ false
    by kind.Sign e = absurd cc
    by kind.Word e = refl
    by kind.Integer e = refl
    by kind.Global e = refl
    by kind.Local e = refl
    by kind.Group e = refl
    by kind.Meta e = refl
    by kind.Quoted e = refl
    by kind.CMark e = refl
    by kind.Label e = refl

avoids : (text : List ℕ) (rest : List Token) → (rest ≡ []) ⊎ (next_is (begins_top text) rest ≡ true) → Avoids (equals text) rest
avoids text rest (inl e) = ap (next_is (equals text)) e
avoids text [] (inr e) = refl
avoids text (t ∷ rest) (inr e) = begins_apart text t e

-- the names with those of all forms
all_forms : List Top → Symbols → Symbols
all_forms [] y = y
all_forms (f ∷ fs) y = all_forms fs (with_form f y)

module _ (m : Meaning) (role : Role) where
  item_names : (s t : Bool) (used : List Token) (f : Top) → (more_tops m role).means s used (Some f) t → Names m.text f used
  item_names s t used f (inl k) = go k.1.front k.1.back k.1.first k.1.between k.1.parts k.1.in_front k.1.in_back
    where
      some_is : (a b : Top) → Some a ≡ Some b → a ≡ b
      some_is a b e = cc

      go : (front back : List Token) (first : Top) (between : Bool) → used ≡ front ++ back → (a_top m role).means s front first between → (back ≡ []) × (Some f ≡ Some first) × (t ≡ between) → Names m.text f used
      go front back first between parts p q =
          subst (Names m.text f) (sym (parts ∙ ap (λ (l : List Token). front ++ l) q.0 ∙ append-nil front)) (subst (λ (g : Top). Names m.text g front) (sym (some_is f first q.1)) (top_names m role s between front first p))
  item_names s t used f (inr k) = absurd (never k.1.1)
    where
      never : Some f ≡ None → ⊥
      never e = cc

  tops_names : (forms : List Top) (s t : Bool) (used : List Token) (y : Symbols) → (tops m role).means s used forms t → symbols_from m.text used (at 0 0 false) y ≡ all_forms forms y
  unfolding all_forms
  tops_names [] s t used y k = ap (λ (l : List Token). symbols_from m.text l (at 0 0 false) y) (none_is_empty (begins_top m.text) (a_top m role) s t used k)
  tops_names (f ∷ fs) s t used y k =
      ap (λ (l : List Token). symbols_from m.text l (at 0 0 false) y) k.parts
      ∙ item_names s k.between k.front f k.item k.back y (avoids m.text k.back (list_begins (begins_top m.text) (a_top m role) k.between t k.back fs k.others))
      ∙ tops_names fs k.between t k.back (with_form f y) k.others

-- ---- by their names

all_are : (forms : List Top) (y : Symbols) → all_forms forms y ≡ record { globals = fold with_name y.globals (global_names forms); functions = fold with_name y.functions (function_names forms) }
unfolding all_forms
all_are [] y = refl
all_are (top.Nothing ∷ fs) y = all_are fs y
all_are (top.Layout layout ∷ fs) y = all_are fs y
all_are (top.Group token marks ∷ fs) y = all_are fs y
all_are (top.Global g ∷ fs) y = all_are fs (with_form (top.Global g) y)
all_are (top.Function w ∷ fs) y = all_are fs (with_form (top.Function w) y)

globals_are : (forms : List Top) → map (λ g. g.name) (globals_in forms) ≡ global_names forms
globals_are [] = refl
globals_are (top.Nothing ∷ fs) = globals_are fs
globals_are (top.Layout layout ∷ fs) = globals_are fs
globals_are (top.Group token marks ∷ fs) = globals_are fs
globals_are (top.Global g ∷ fs) = ap (λ (l : List (List ℕ)). g.name ∷ l) (globals_are fs)
globals_are (top.Function w ∷ fs) = globals_are fs

functions_are : (text : List ℕ) (groups : List ℕ → Settings) (forms : List Top) → map (λ f. f.name) (functions_in text groups forms) ≡ function_names forms
functions_are text groups [] = refl
functions_are text groups (top.Nothing ∷ fs) = functions_are text groups fs
functions_are text groups (top.Layout layout ∷ fs) = functions_are text groups fs
functions_are text groups (top.Group token marks ∷ fs) = functions_are text groups fs
functions_are text groups (top.Global g ∷ fs) = functions_are text groups fs
functions_are text groups (top.Function w ∷ fs) = ap (λ (l : List (List ℕ)). w.head.name ∷ l) (functions_are text groups fs)

-- ---- the laws

pub forms_named : (m : Meaning) (role : Role) (tokens : List Token) (forms : List Top) (stated : Bool) → (tops m role).means false tokens forms stated → symbols_in m.text tokens ≡ defined_by forms
forms_named m role tokens forms stated k = tops_names m role forms false stated tokens (record { globals = []; functions = [] }) k ∙ all_are forms (record { globals = []; functions = [] })

pub globals_named : (m : Meaning) (role : Role) (types : List (List ℕ × Ty)) (tokens : List Token) (found : Module) → IsModuleOf m role types tokens found → (symbols_in m.text tokens).globals ≡ names_once (map (λ g. g.name) found.globals)
globals_named m role types tokens found k =
    ap (λ (y : Symbols). y.globals) (forms_named m role tokens k.forms k.stated k.meant) ∙ ap names_once (sym (globals_are k.forms)) ∙ ap (λ (f : Module). names_once (map (λ g. g.name) f.globals)) (sym k.is)

pub functions_named : (m : Meaning) (role : Role) (types : List (List ℕ × Ty)) (tokens : List Token) (found : Module) → IsModuleOf m role types tokens found → (symbols_in m.text tokens).functions ≡ names_once (map (λ f. f.name) found.functions)
functions_named m role types tokens found k =
    ap (λ (y : Symbols). y.functions) (forms_named m role tokens k.forms k.stated k.meant)
    ∙ ap names_once (sym (functions_are m.text (found_in (all_grouped m.text no_groups k.forms)) k.forms))
    ∙ ap (λ (f : Module). names_once (map (λ h. h.name) f.functions)) (sym k.is)
