-- What forms give, and the laws of whole modules.
use Rattle.std.proofs.Common.{◌≡◌, ℕ, Bool, false, List, [], ◌∷◌, ◌++◌, Ok, refl, sym, ap, subst, ◌∙◌, append_assoc, append-nil}
use Rattle.no_lex.specs.declared.token.Token.{Token}
use Rattle.no_ir.specs.declared.types.Ty.{Ty}
use Rattle.no_ir.specs.declared.function.Module.{Module}
use Rattle.no_ir.specs.declared.function.Role.{Role}
use Rattle.no_read_rules.specs.Rules.{after, all_taken}
use Rattle.no_read_rules.specs.Scope.{Meaning}
use Rattle.no_read_rules.proofs.Laws.{from_ok, after_ok}
use Rattle.no_read_toplevel.specs.declared.groups.Settings.{Settings}
use Rattle.no_read_toplevel.specs.declared.tops.Top.{Top}
use Rattle.no_read_toplevel.specs.declared.tops.Top.TheVariants as top
use Rattle.no_read_toplevel.specs.Gathered.{gathered}
use Rattle.no_read_toplevel.specs.Grouping.{found_in, all_grouped, no_groups}
use Rattle.no_read_toplevel.specs.Modules.{function_of, functions_in, globals_in, layout_or, module_of, IsModuleOf, with_module, forms_read}
use Rattle.no_read_toplevel.specs.Tops.{tops}
use Rattle.no_read_toplevel.proofs.TopsLaws.{tops_good}

-- ---- going through the forms

module _ (text : List ℕ) (groups : List ℕ → Settings) where
  more_forms : Module → List Top → Module
  more_forms m all = record { layout = layout_or m.layout all; types = m.types; globals = m.globals ++ globals_in all; functions = m.functions ++ functions_in text groups all }

  gathers : (all : List Top) (m : Module) → gathered text groups m all ≡ more_forms m all
  unfolding more_forms
  gathers [] m = rw (append-nil m.globals, append-nil m.functions) refl
  gathers (top.Nothing ∷ all) m = gathers all m
  gathers (top.Layout layout ∷ all) m = gathers all (record m { layout = layout })
  gathers (top.Group token marks ∷ all) m = gathers all m
  gathers (top.Global g ∷ all) m = gathers all (record m { globals = m.globals ++ g ∷ [] }) ∙ (rw (append_assoc m.globals (g ∷ []) (globals_in all)) refl)
  gathers (top.Function w ∷ all) m = gathers all (record m { functions = m.functions ++ function_of text groups w ∷ [] }) ∙ (rw (append_assoc m.functions (function_of text groups w ∷ []) (functions_in text groups all)) refl)

pub gathered_is : (text : List ℕ) (types : List (List ℕ × Ty)) (all : List Top)
    → gathered text (found_in (all_grouped text no_groups all)) (record { layout = []; types = types; globals = []; functions = [] }) all ≡ module_of text types all
unfolding more_forms
gathered_is text types all = gathers text (found_in (all_grouped text no_groups all)) all (record { layout = []; types = types; globals = []; functions = [] })

-- ---- whole modules

taken : (x : List Top × Bool × List Token) (y : List Top × Bool) → all_taken x ≡ Ok y → (x.0 ≡ y.0) × (x.1 ≡ y.1) × (x.2 ≡ [])
taken x y e = go x.0 x.1 x.2 e
  where
    go : (a : List Top) (s : Bool) (rest : List Token) → all_taken (a, s, rest) ≡ Ok y → (a ≡ y.0) × (s ≡ y.1) × (rest ≡ [])
    go a s [] e = let same = from_ok (a, s) y e in (ap (λ (z : List Top × Bool). z.0) same, ap (λ (z : List Top × Bool). z.1) same, refl)
    go a s (t ∷ rest) e = absurd cc

module _ (m : Meaning) (role : Role) (types : List (List ℕ × Ty)) (tokens : List Token) where
  pub read_is_meant : (found : Module) → forms_read m role types tokens ≡ Ok found → IsModuleOf m role types tokens found
  read_is_meant found e =
      let r = after_ok (after ((tops m role).read false tokens) all_taken) (with_module m.text types) found e in
      let q = after_ok ((tops m role).read false tokens) all_taken r.0 r.1 in
      let t = taken q.0 r.0 q.2 in
      let f = (tops_good m role).found false tokens q.0 q.1 in
      let whole : tokens ≡ f.used = f.parts ∙ ap (λ (l : List Token). f.used ++ l) t.2 ∙ append-nil f.used in
      record {
        forms = r.0.0;
        stated = r.0.1;
        meant = subst (λ (l : List Token). (tops m role).means false l r.0.0 r.0.1) (sym whole)
            (subst (λ (a : List Top). (tops m role).means false f.used a r.0.1) t.0 (subst (λ (s : Bool). (tops m role).means false f.used q.0.0 s) t.1 f.meant));
        is = sym (from_ok (module_of m.text types r.0.0) found r.2);
      }

  pub meant_is_read : (found : Module) → IsModuleOf m role types tokens found → forms_read m role types tokens ≡ Ok found
  meant_is_read found k =
      let read : (tops m role).read false (tokens ++ []) ≡ Ok (k.forms, k.stated, []) = (tops_good m role).only false k.stated tokens [] k.forms k.meant refl in
      let same : (tops m role).read false tokens ≡ Ok (k.forms, k.stated, []) = ap (λ (l : List Token). (tops m role).read false l) (sym (append-nil tokens)) ∙ read in
      rw (same, k.is) refl

  pub at_most_one : (a b : Module) → IsModuleOf m role types tokens a → IsModuleOf m role types tokens b → a ≡ b
  at_most_one a b x y = from_ok a b (sym (meant_is_read a x) ∙ meant_is_read b y)
