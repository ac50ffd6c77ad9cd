-- The laws of one form at the top.
use Rattle.std.proofs.Common.{◌≡◌, ℕ, Bool, true, false, ◌||◌, if◌then◌else◌, List, bytes_eq, codes, Option, Some, refl, ap, ◌∙◌}
use Rattle.std.proofs.lemmas.Slice.Eq.{bytes_eq-Decides}
use Rattle.no_lex.specs.declared.token.Token.{Token}
use Rattle.no_lex.specs.declared.token.TokenKind.{TokenKind}
use Rattle.no_lex.specs.declared.token.TokenKind.TheVariants as kind
use Rattle.no_ir.specs.declared.function.Role.{Role}
use Rattle.no_read_rules.specs.Rules.{Rule, lift, if_next, none, Good, IsSolid}
use Rattle.no_read_rules.specs.Scope.{Meaning}
use Rattle.no_read_rules.specs.Spelled.{spelled, is_kind}
use Rattle.no_read_rules.proofs.Laws.{weaker, plain_good, plain_solid, done_good, lift_good, lift_solid, then_good, first_solid, if_next_good, if_next_solid}
use Rattle.no_read_attributes.specs.Attributes.{may_go_on}
use Rattle.no_read_attributes.specs.Words.{is_attribute_word}
use Rattle.no_read_attributes.proofs.EndLaws.{avoids_less}
use Rattle.no_read_operations.proofs.FoldedLaws.{last_good}
use Rattle.no_read_toplevel.specs.Globals.{is_comma, a_global}
use Rattle.no_read_toplevel.proofs.GlobalLaws.{a_global_good, global_solid}
use Rattle.no_read_instructions.specs.Instructions.{instr_goes_on}
use Rattle.no_read_functions.proofs.InstrApart.{word_apart}
use Rattle.no_read_toplevel.specs.Entities.{a_source, a_group, a_node, a_declaration}
use Rattle.no_read_toplevel.proofs.EntityLaws.{source_good, target_good, group_good, node_good, node_solid, declaration_good}
use Rattle.no_read_toplevel.specs.declared.tops.Top.TheVariants as top
use Rattle.no_read_toplevel.specs.declared.tops.TopWord.{TopWord}
use Rattle.no_read_toplevel.specs.declared.tops.TopWord.TheVariants as begins
use Rattle.no_read_functions.specs.Functions.{a_function}
use Rattle.no_read_toplevel.specs.Tops.{word_of, is_top_word, top_word, begins_top, source_top, layout_top, target_top, function_top, declared, declared_top, group_top, global_top, node_top, after_word, worded, a_top}
use Rattle.no_read_functions.proofs.FunctionLaws.{function_good}

-- what goes on with less is as good where more is avoided
narrower : {S A : Type 0} (g h : Token → Bool) (p : Rule S A) → ((t : Token) → h t ≡ false → g t ≡ false) → Good g p → Good h p
narrower g h p less l = record { found = l.found; only = λ s t used rest a m av. l.only s t used rest a m (avoids_less g h less rest av) }

left_false : (b c : Bool) → (b || c) ≡ false → b ≡ false
left_false true c x = absurd cc
left_false false c x = refl

right_false : (b c : Bool) → (b || c) ≡ false → c ≡ false
right_false true c x = absurd cc
right_false false c x = x

comma_less : (text : List ℕ) (t : Token) → instr_goes_on text t ≡ false → is_comma text t ≡ false
comma_less text t e = left_false (is_comma text t) (may_go_on text t) e

marks_less : (text : List ℕ) (t : Token) → instr_goes_on text t ≡ false → may_go_on text t ≡ false
marks_less text t e = right_false (is_comma text t) (may_go_on text t) e

module _ (m : Meaning) (role : Role) where
  abbrev follows : Token → Bool
  follows = instr_goes_on m.text

  source_top_good : Good none (source_top m)
  unfolding source_top
  source_top_good = then_good none _ _ (lift_good none (a_source m.text) (source_good m.text)) (λ _. done_good none top.Nothing)

  target_top_good : Good none (target_top m)
  unfolding target_top
  target_top_good = then_good none _ _ (target_good m.text) (λ layout. done_good none (layout_top layout))

  function_top_good : Good none (function_top m role)
  unfolding function_top
  function_top_good = then_good none _ _ (lift_good none (a_function m role) (function_good m role)) (λ f. done_good none (top.Function f))

  declared_top_good : Good (may_go_on m.text) (declared_top m role)
  unfolding declared_top
  declared_top_good = last_good (may_go_on m.text) (lift (a_declaration m role)) (λ d. top.Function (declared d)) (lift_good (may_go_on m.text) (a_declaration m role) (declaration_good m role))

  group_top_good : Good none (group_top m role)
  unfolding group_top
  group_top_good = then_good none _ _ (lift_good none (a_group m.text role) (group_good m.text role)) (λ g. done_good none (top.Group g.0 g.1))

  global_top_good : Good (is_comma m.text) (global_top m)
  unfolding global_top
  global_top_good = last_good (is_comma m.text) (lift (a_global m)) (λ g. top.Global g) (lift_good (is_comma m.text) (a_global m) (a_global_good m))

  global_top_solid : IsSolid (global_top m)
  unfolding global_top
  global_top_solid = first_solid _ _ (lift_solid (a_global m) (global_solid m))

  node_top_good : Good none (node_top m)
  unfolding node_top
  node_top_good = then_good none _ _ (lift_good none (a_node m.text) (node_good m.text)) (λ _. done_good none top.Nothing)

  node_top_solid : IsSolid (node_top m)
  unfolding node_top
  node_top_solid = first_solid _ _ (lift_solid (a_node m.text) (node_solid m.text))

  after_word_good : (word : TopWord) → Good (may_go_on m.text) (after_word m role word)
  after_word_good begins.Source = weaker (may_go_on m.text) (source_top m) source_top_good
  after_word_good begins.Target = weaker (may_go_on m.text) (target_top m) target_top_good
  after_word_good begins.Define = weaker (may_go_on m.text) (function_top m role) function_top_good
  after_word_good begins.Declare = declared_top_good
  after_word_good begins.Attributes = weaker (may_go_on m.text) (group_top m role) group_top_good

  worded_good : Good (may_go_on m.text) (worded m role)
  unfolding worded
  worded_good = then_good (may_go_on m.text) _ _ (plain_good (top_word m.text)) after_word_good

  worded_solid : IsSolid (worded m role)
  unfolding worded
  worded_solid = first_solid _ _ (plain_solid (top_word m.text))

  pub top_good : Good (instr_goes_on m.text) (a_top m role)
  unfolding a_top
  top_good = if_next_good (instr_goes_on m.text) (is_kind kind.Global) (global_top m) (if_next (is_kind kind.Meta) (node_top m) (worded m role))
      (narrower (is_comma m.text) (instr_goes_on m.text) (global_top m) (comma_less m.text) global_top_good)
      (if_next_good (instr_goes_on m.text) (is_kind kind.Meta) (node_top m) (worded m role) (weaker (instr_goes_on m.text) (node_top m) node_top_good)
      (narrower (may_go_on m.text) (instr_goes_on m.text) (worded m role) (marks_less m.text) worded_good) node_top_solid worded_solid)
      global_top_solid (if_next_solid (is_kind kind.Meta) (node_top m) (worded m role) node_top_solid worded_solid)

  pub top_solid : IsSolid (a_top m role)
  unfolding a_top
  top_solid = if_next_solid (is_kind kind.Global) (global_top m) (if_next (is_kind kind.Meta) (node_top m) (worded m role)) global_top_solid (if_next_solid (is_kind kind.Meta) (node_top m) (worded m role) node_top_solid worded_solid)

-- ---- no form begins with what another goes on with

same_word : (word w : List ℕ) → is_attribute_word w ≡ false → bytes_eq word w ≡ true → is_attribute_word word ≡ false
same_word word w out is = ap is_attribute_word ((bytes_eq-Decides word w).0 is) ∙ out

or_else : (word w : List ℕ) (x : TopWord) (o : Option TopWord) → is_attribute_word w ≡ false → (is_top_word o ≡ true → is_attribute_word word ≡ false) → is_top_word (if bytes_eq word w then Some x else o) ≡ true → is_attribute_word word ≡ false
or_else word w x o out more e = go (bytes_eq word w) refl e
  where
    go : (b : Bool) → bytes_eq word w ≡ b → is_top_word (if b then Some x else o) ≡ true → is_attribute_word word ≡ false
    go true is f = same_word word w out is
    go false is f = more f

word_out : (word : List ℕ) → is_top_word (word_of word) ≡ true → is_attribute_word word ≡ false
word_out word e =
    or_else word (codes "source_filename") begins.Source _ refl (
    or_else word (codes "target") begins.Target _ refl (
    or_else word (codes "define") begins.Define _ refl (
    or_else word (codes "declare") begins.Declare _ refl (
    or_else word (codes "attributes") begins.Attributes _ refl (
    λ e. absurd cc))))) e

pub begins_apart : (text : List ℕ) (t : Token) → begins_top text t ≡ true → instr_goes_on text t ≡ false
begins_apart text t is = by t.kind is
  where
    at : TokenKind → Token
    at k = record { kind = k; start = t.start; end = t.end }

    by : (k : TokenKind) → begins_top text (record { kind = k; start = t.start; end = t.end }) ≡ true → instr_goes_on text (record { kind = k; start = t.start; end = t.end }) ≡ false
    by kind.Word is = word_apart text (at kind.Word) refl (word_out (spelled text (at kind.Word)) is)
    by kind.Integer is = absurd cc
    by kind.Global is = refl
    by kind.Local is = absurd cc
    by kind.Group is = absurd cc
    by kind.Meta is = refl
    by kind.Quoted is = absurd cc
    by kind.CMark is = absurd cc
    by kind.Sign is = absurd cc
    by kind.Label is = absurd cc
