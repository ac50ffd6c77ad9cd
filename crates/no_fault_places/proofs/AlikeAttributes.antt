-- Texts that begin alike are read alike: attributes.
use Rattle.std.proofs.Common.{◌≡◌, ℕ, Bool, true, false, List, Ok, Err, bytes_eq, codes, refl, sym, subst, if◌then◌else◌}
use Rattle.no_lex.specs.declared.token.Token.{Token}
use Rattle.no_lex.specs.declared.token.TokenKind.{TokenKind}
use Rattle.no_lex.specs.declared.token.TokenKind.TheVariants as kind
use Rattle.no_ir.specs.declared.function.Role.{Role}
use Rattle.no_read_rules.specs.declared.fault.Flaw.TheVariants.{Syntax}
use Rattle.no_read_rules.specs.Rules.{Rule, plain}
use Rattle.no_read_rules.specs.Scope.{Meaning}
use Rattle.no_read_rules.specs.Spelled.{spelled, is_kind}
use Rattle.no_read_attributes.specs.declared.attribute.Attribute.TheVariants as attribute
use Rattle.no_read_attributes.specs.declared.attribute.AttributeHead.{AttributeHead}
use Rattle.no_read_attributes.specs.declared.attribute.AttributeHead.TheVariants as head
use Rattle.no_read_attributes.specs.Words.{is_attribute_word, is_record}
use Rattle.no_read_attributes.specs.Attributes.{begins_attribute, head_by, goes_on, align_tail, value_tail, alignment_of, string_of, after_head, an_attribute, all_attributes, skip_attributes, all_go_on, behind_attributes, attribute_marks, attribute_head}
use Rattle.no_fault_places.specs.Alike.{IsAlike}
use Rattle.no_fault_places.proofs.Alike.{Same, Any, ValueAlike, Alike, plain_alike, plain_same, done_any, if_next_alike, then_alike, then_same, then_any, any_alike}
use Rattle.no_fault_places.proofs.AlikeLists.{kind_alike, sign_alike, a_sign_alike, items_where_alike, bracketed_alike, ahead_any}
use Rattle.no_fault_places.proofs.AlikeConstants.{either}

-- heads of one form, which may name other tokens
abbrev pub FormAlike : AttributeHead → AttributeHead → Type 0
FormAlike head.Word head.Word = Unit {0}
FormAlike head.Align head.Align = Unit {0}
FormAlike (head.Text t) (head.Text u) = Unit {0}
FormAlike (head.Group t) (head.Group u) = Unit {0}
FormAlike _ _ = ⊥

module _ (here there : Meaning) where
  begins_attribute_alike : (t u : Token) → IsAlike here there t u → begins_attribute there.text u ≡ begins_attribute here.text t
  begins_attribute_alike t u k = rw (k.kind, k.spelling) refl

  word_form : (a b : Bool) → ValueAlike FormAlike (if a then Ok (if b then head.Align else head.Word) else Err Syntax) (if a then Ok (if b then head.Align else head.Word) else Err Syntax)
  word_form true true = tt
  word_form true false = tt
  word_form false b = tt

  group_form : (a : Bool) (t u : Token) → ValueAlike FormAlike (if a then Err Syntax else Ok (head.Group t)) (if a then Err Syntax else Ok (head.Group u))
  group_form true t u = tt
  group_form false t u = tt

  forms_alike : (k : TokenKind) (s : List ℕ) (t u : Token) → ValueAlike FormAlike (head_by k s t) (head_by k s u)
  forms_alike kind.Word s t u = word_form (is_attribute_word s) (bytes_eq s (codes "align"))
  forms_alike kind.Quoted s t u = tt
  forms_alike kind.Group s t u = group_form (is_record s) t u
  forms_alike _ s t u = tt

  head_alike : (t u : Token) → IsAlike here there t u → ValueAlike FormAlike (attribute_head here.text t) (attribute_head there.text u)
  head_alike t u k =
      subst (λ (x : TokenKind). ValueAlike FormAlike (head_by t.kind (spelled here.text t) t) (head_by x (spelled there.text u) u)) (sym k.kind)
      (subst (λ (s : List ℕ). ValueAlike FormAlike (head_by t.kind (spelled here.text t) t) (head_by t.kind s u)) (sym k.spelling) (forms_alike t.kind (spelled here.text t) t u))

  pub alignment_alike : {S : Type 0} → Alike here there {S = S} Same (plain (alignment_of here.text)) (plain (alignment_of there.text))
  alignment_alike = plain_same (alignment_of here.text) (alignment_of there.text) (λ t u k. rw (k.kind, k.spelling) refl)

  pub string_alike : {S : Type 0} → Alike here there {S = S} Any (plain (string_of here.text)) (plain (string_of there.text))
  string_alike = plain_alike (string_of here.text) (string_of there.text) (λ t u k. rw (kind_alike kind.Quoted t u k) (either (is_kind kind.Quoted t) t u))

  number_or_bracket : (t u : Token) → IsAlike here there t u → goes_on there.text attribute.Align u ≡ goes_on here.text attribute.Align t
  number_or_bracket t u k = rw (kind_alike kind.Integer t u k, sign_alike (codes "(") t u k) refl

  align_alike : Alike here there Any (align_tail here.text) (align_tail there.text)
  unfolding align_tail
  align_alike = if_next_alike _ _ _ _ _ _ (kind_alike kind.Integer) (then_same _ _ _ _ alignment_alike (λ _. done_any _ _)) (any_alike _ _ (bracketed_alike (codes "(") (codes ")")))

  value_alike : Alike here there Any (value_tail here.text) (value_tail there.text)
  unfolding value_tail
  value_alike = then_same _ _ _ _ (a_sign_alike (codes "=")) (λ _. then_any _ _ _ _ string_alike (λ a b. done_any _ _))

  after_alike : (h i : AttributeHead) → FormAlike h i → Alike here there Any (after_head here.text h) (after_head there.text i)
  after_alike head.Word head.Word k = if_next_alike _ _ _ _ _ _ (sign_alike (codes "(")) (then_same _ _ _ _ (bracketed_alike (codes "(") (codes ")")) (λ _. done_any _ _)) (done_any _ _)
  after_alike head.Align head.Align k = if_next_alike _ _ _ _ _ _ number_or_bracket (then_any _ _ _ _ align_alike (λ a b. done_any _ _)) (done_any _ _)
  after_alike (head.Text t) (head.Text u) k = if_next_alike _ _ _ _ _ _ (sign_alike (codes "=")) (then_any _ _ _ _ value_alike (λ a b. done_any _ _)) (done_any _ _)
  after_alike (head.Group t) (head.Group u) k = done_any _ _
  after_alike _ _ k = absurd k

  attribute_alike : Alike here there Any (an_attribute here.text) (an_attribute there.text)
  unfolding an_attribute
  attribute_alike = then_alike {P = FormAlike} _ _ _ _ (plain_alike (attribute_head here.text) (attribute_head there.text) head_alike) after_alike

  pub all_alike : Alike here there Any (all_attributes here.text) (all_attributes there.text)
  all_alike = any_alike _ _ (items_where_alike (begins_attribute here.text) (begins_attribute there.text) (an_attribute here.text) (an_attribute there.text) begins_attribute_alike attribute_alike)

  pub skip_alike : Alike here there Any (skip_attributes here.text) (skip_attributes there.text)
  skip_alike = then_any _ _ _ _ all_alike (λ a b. done_any _ _)

  pub marks_alike : (role : Role) → Alike here there Any (attribute_marks here.text role) (attribute_marks there.text role)
  marks_alike role = then_any _ _ _ _ all_alike (λ a b. done_any _ _)

  pub behind_attributes_alike : {A : Type 0} {R : A → A → Type 0} (p q : Rule (Unit {0}) A) → Alike here there R p q → Alike here there R (behind_attributes here.text p) (behind_attributes there.text q)
  behind_attributes_alike p q h = ahead_any (all_go_on here.text) (all_go_on there.text) _ _ (λ _. p) (λ _. q) all_alike (λ a b. h)
