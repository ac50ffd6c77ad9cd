-- The laws of what stands at the top beside globals and defined functions.
use Rattle.std.proofs.Common.{◌≡◌, ℕ, Bool, true, false, List, [], ◌∷◌, ◌++◌, codes, bytes_eq, ◌==◌, ◌&&◌, if◌then◌else◌, Option, Some, None, Result, Ok, Err, inl, inr, refl, sym, ap, subst, ◌∙◌, append_assoc, ◌||◌}
use Rattle.no_lex.specs.declared.token.Token.{Token}
use Rattle.no_lex.specs.declared.token.TokenKind.{TokenKind}
use Rattle.no_lex.specs.declared.token.TokenKind.TheVariants as kind
use Rattle.no_ir.specs.declared.function.Role.{Role}
use Rattle.no_read_rules.specs.declared.fault.Stopped.{Stopped}
use Rattle.no_read_rules.specs.declared.fault.Flaw.{Flaw}
use Rattle.no_read_rules.specs.declared.fault.Flaw.TheVariants.{Syntax}
use Rattle.no_read_rules.specs.Rules.{Rule, keeping, plain, done, ◌>>=◌, maybe, next_is, IsOne, Found, Avoids, none, Good, IsSolid}
use Rattle.no_read_rules.specs.Scope.{Meaning}
use Rattle.no_read_rules.specs.Spelled.{kind_number, spelled, a_word, a_sign, is_sign, is_kind, is_word, only_where}
use Rattle.no_read_rules.proofs.Laws.{from_ok, avoids_none, one_good, one_solid, plain_good, plain_solid, done_good, lift_good, either_good, then_good, follow_good, first_solid}
use Rattle.no_read_attributes.specs.Attributes.{may_go_on, string_of, attribute_marks}
use Rattle.no_read_attributes.specs.Brackets.{bracketed}
use Rattle.no_read_attributes.proofs.AttributeLaws.{marks_good}
use Rattle.no_read_attributes.proofs.BracketLaws.{bracketed_good}
use Rattle.no_read_attributes.specs.declared.marks.Mark.{Mark}
use Rattle.no_read_functions.specs.declared.heads.Head.{Head}
use Rattle.no_read_functions.specs.Heads.{a_head, param_goes_on}
use Rattle.no_read_functions.proofs.HeadLaws.{head_good, head_solid, one_apart, sign_out}
use Rattle.no_read_registers.specs.declared.locals.Locals.{Locals}
use Rattle.no_read_registers.specs.Numbered.{no_locals_yet}
use Rattle.no_read_toplevel.specs.Entities.{a_source, target_of, layout_of, a_target, group_of, a_group, bare_of, is_distinct, a_node, a_declaration}
use Rattle.no_read_attributes.proofs.OwnLaws.{inside_good, inside_solid}

pub source_good : (text : List ℕ) → Good none (a_source text)
unfolding a_source
source_good text = then_good none _ _ (plain_good _) (λ _. then_good none _ _ (plain_good _) (λ _. done_good none tt))

pub source_solid : (text : List ℕ) → IsSolid (a_source text)
unfolding a_source
source_solid text = first_solid _ _ (plain_solid _)

pub target_good : (text : List ℕ) → Good none (a_target text)
unfolding a_target
target_good text = then_good none _ _ (one_good (target_of text)) (λ layout. then_good none _ _ (plain_good _) (λ _. then_good none _ _ (lift_good none (plain (string_of text)) (plain_good (string_of text))) (λ token. done_good none (layout_of text layout token))))

pub target_solid : (text : List ℕ) → IsSolid (a_target text)
unfolding a_target
target_solid text = first_solid _ _ (one_solid (target_of text))

-- ---- groups

pub group_good : (text : List ℕ) (role : Role) → Good none (a_group text role)
unfolding a_group
group_good text role = then_good none _ _ (plain_good _) (λ group. then_good none _ _ (plain_good _) (λ _. then_good none _ _ (plain_good _) (λ _.
    follow_good (may_go_on text) none (attribute_marks text role) (λ marks. a_sign text (codes "}") >>= λ _. done (group, marks)) (marks_good text role)
    (λ marks. then_good none _ _ (plain_good _) (λ _. done_good none (group, marks)))
    (λ marks s t used rest b m out. one_apart (may_go_on text) (λ token. only_where (is_sign text (codes "}") token)) (λ _. done (group, marks)) (λ t s u x k. sign_out text (codes "}") refl refl t s u x k) s t used rest b m))))

pub group_solid : (text : List ℕ) (role : Role) → IsSolid (a_group text role)
unfolding a_group
group_solid text role = first_solid _ _ (plain_solid _)

-- ---- metadata

kept_meta : {S : Type 0} (s t : S) (u : Unit {0}) (b : Bool) → keeping s (if b then Ok tt else Err Syntax) ≡ Ok (u, t) → b ≡ true
kept_meta s t u true e = refl
kept_meta s t u false e = absurd cc

both_true : (b c : Bool) → (b && c) ≡ true → b ≡ true
both_true true c e = refl
both_true false c e = absurd cc

meta_word : (text word : List ℕ) (t : Token) → is_kind kind.Meta t ≡ true → is_word text word t ≡ false
meta_word text word t is = by t.kind is
  where
    by : (k : TokenKind) → (kind_number k == 5) ≡ true → ((kind_number k == 0) && bytes_eq (spelled text t) word) ≡ false
    by kind.Word is = absurd cc
    by kind.Integer is = absurd cc
    by kind.Global is = absurd cc
    by kind.Local is = absurd cc
    by kind.Group is = absurd cc
    by kind.Meta is = refl
    by kind.Quoted is = absurd cc
    by kind.CMark is = absurd cc
    by kind.Sign is = absurd cc
    by kind.Label is = absurd cc

bare_out : (text : List ℕ) (t : Token) (s u : Unit {0}) (x : Unit {0}) → keeping s (bare_of text t) ≡ Ok (x, u) → is_distinct text t ≡ false
bare_out text t s u x k = meta_word text (codes "distinct") t (both_true (is_kind kind.Meta t) (bytes_eq (spelled text t) (codes "!")) (kept_meta s u x (is_kind kind.Meta t && bytes_eq (spelled text t) (codes "!")) k))

distinct_good : (text : List ℕ) → Good (is_distinct text) (maybe {S = Unit {0}} (is_distinct text) (a_word text (codes "distinct")))
distinct_good text = either_good (is_distinct text) (a_word text (codes "distinct") >>= λ a. done (Some a)) None
    (then_good none _ _ (plain_good _) (λ a. done_good none (Some a))) (first_solid (a_word text (codes "distinct")) (λ a. done (Some a)) (plain_solid _))

pub node_good : (text : List ℕ) → Good none (a_node text)
unfolding a_node
node_good text = then_good none _ _ (plain_good _) (λ _. then_good none _ _ (plain_good _) (λ _.
    follow_good (is_distinct text) none (maybe (is_distinct text) (a_word text (codes "distinct"))) (λ _. plain (bare_of text) >>= λ _. bracketed text (codes "{") (codes "}")) (distinct_good text)
    (λ _. then_good none _ _ (plain_good _) (λ _. bracketed_good text (codes "{") (codes "}")))
    (λ _ s t used rest b m out. one_apart (is_distinct text) (bare_of text) (λ _. bracketed text (codes "{") (codes "}")) (λ t s u x k. bare_out text t s u x k) s t used rest b m)))

pub node_solid : (text : List ℕ) → IsSolid (a_node text)
unfolding a_node
node_solid text = first_solid _ _ (plain_solid _)

-- ---- declared functions

pub declaration_good : (m : Meaning) (role : Role) → Good (may_go_on m.text) (a_declaration m role)
declaration_good m role = inside_good no_locals_yet (a_head m role false) (may_go_on m.text) (head_good m role false)

pub declaration_solid : (m : Meaning) (role : Role) → IsSolid (a_declaration m role)
declaration_solid m role = inside_solid no_locals_yet (a_head m role false) (head_solid m role false)
