-- What attributes do to the scan.
use Rattle.std.proofs.Common.{◌≡◌, ℕ, Bool, true, false, List, [], ◌∷◌, bytes_eq, codes, if◌then◌else◌, Ok, Err, refl}
use Rattle.no_lex.specs.declared.token.Token.{Token}
use Rattle.no_lex.specs.declared.token.TokenKind.{TokenKind}
use Rattle.no_lex.specs.declared.token.TokenKind.TheVariants as kind
use Rattle.no_ir.specs.declared.function.Role.{Role}
use Rattle.no_read_rules.specs.declared.fault.Flaw.TheVariants.{Syntax}
use Rattle.no_read_rules.specs.Numbers.{decimal}
use Rattle.no_read_rules.specs.Rules.{Rule, plain, done, ◌>>=◌}
use Rattle.no_read_rules.specs.Spelled.{spelled, is_kind, a_sign}
use Rattle.no_read_attributes.specs.declared.attribute.Attribute.TheVariants as attribute
use Rattle.no_read_attributes.specs.declared.attribute.AttributeHead.{AttributeHead}
use Rattle.no_read_attributes.specs.declared.attribute.AttributeHead.TheVariants as head
use Rattle.no_read_attributes.specs.Attributes.{aligned, alignment_of, begins_attribute, head_by, attribute_head, goes_on, align_tail, string_of, value_tail, after_head, an_attribute, all_attributes, all_go_on, behind_attributes, skip_attributes, all_marks, attribute_marks}
use Rattle.no_read_attributes.specs.Brackets.{bracketed}
use Rattle.no_read_attributes.specs.Words.{is_attribute_word}
use Rattle.no_read_symbols.specs.declared.standing.Bracket.TheVariants as bracket
use Rattle.no_read_names.proofs.Marks.{IsSo, where_true, word_so, token_so, kind_token, integer_so, group_so, quoted_so}
use Rattle.no_read_names.proofs.RuleMoves.{Runs, plain_at, done_runs, then_runs, ahead_runs, if_next_runs, items_where_runs, sign_runs, opens_round}
use Rattle.no_read_names.proofs.Spots.{flat, Moves, other_moves}
use Rattle.no_read_names.proofs.Places.{curved}
use Rattle.no_read_names.proofs.Groups.{close_moves}

module _ (text : List ℕ) where
  pub round_group_runs : {S : Type 0} → Runs {S = S} text flat flat (bracketed text (codes "(") (codes ")"))
  unfolding bracketed
  round_group_runs = then_runs text flat curved flat (a_sign text (codes "(")) _ (opens_round text (λ d. d)) (λ _ s t used a m. close_moves text used m.0)

  -- ---- one token

  pub alignment_moves : (n : ℕ) (t : Token) → alignment_of text t ≡ Ok n → Moves text flat flat (t ∷ [])
  alignment_moves n t e = other_moves text t (kind_token kind.Integer text t integer_so (where_true (is_kind kind.Integer t) (aligned (decimal 65536 (spelled text t))) n e).0)

  pub string_moves : (a t : Token) → string_of text t ≡ Ok a → Moves text flat flat (t ∷ [])
  string_moves a t e = other_moves text t (kind_token kind.Quoted text t quoted_so (where_true (is_kind kind.Quoted t) (Ok t) a e).0)

  word_passes : (b : Bool) (r : AttributeHead) (h : AttributeHead) → (if b then Ok r else Err Syntax) ≡ Ok h → b ≡ true
  word_passes true r h e = refl
  word_passes false r h e = absurd cc

  head_so : (k : TokenKind) (x : List ℕ) (t : Token) (h : AttributeHead) → head_by k x t ≡ Ok h → IsSo k x bracket.Other
  head_so kind.Word x t h e = word_so is_attribute_word x refl refl (word_passes (is_attribute_word x) (if bytes_eq x (codes "align") then head.Align else head.Word) h e)
  head_so kind.Quoted x t h e = quoted_so x
  head_so kind.Group x t h e = group_so x
  head_so kind.Integer x t h e = absurd cc
  head_so kind.Global x t h e = absurd cc
  head_so kind.Local x t h e = absurd cc
  head_so kind.Meta x t h e = absurd cc
  head_so kind.CMark x t h e = absurd cc
  head_so kind.Sign x t h e = absurd cc
  head_so kind.Label x t h e = absurd cc

  head_moves : (h : AttributeHead) (t : Token) → attribute_head text t ≡ Ok h → Moves text flat flat (t ∷ [])
  head_moves h t e = other_moves text t (token_so text t bracket.Other (head_so t.kind (spelled text t) t h e))

  -- ---- attributes

  align_tail_runs : Runs text flat flat (align_tail text)
  unfolding align_tail
  align_tail_runs = if_next_runs text flat flat (is_kind kind.Integer) (plain (alignment_of text) >>= λ _. done tt) (bracketed text (codes "(") (codes ")"))
      (then_runs text flat flat flat (plain (alignment_of text)) (λ _. done tt) (plain_at (λ _ used. Moves text flat flat used) (alignment_of text) (λ n t e. alignment_moves n t e)) (λ _. done_runs text flat tt))
      round_group_runs

  value_tail_runs : Runs text flat flat (value_tail text)
  unfolding value_tail
  value_tail_runs = then_runs text flat flat flat (a_sign text (codes "=")) _ (sign_runs text (codes "=") refl)
      (λ _. then_runs text flat flat flat (plain (string_of text)) _ (plain_at (λ _ used. Moves text flat flat used) (string_of text) (λ a t e. string_moves a t e)) (λ value. done_runs text flat value))

  after_runs : (h : AttributeHead) → Runs text flat flat (after_head text h)
  after_runs head.Word = if_next_runs text flat flat (goes_on text attribute.Word) (bracketed text (codes "(") (codes ")") >>= λ _. done attribute.Closed) (done attribute.Word)
      (then_runs text flat flat flat (bracketed text (codes "(") (codes ")")) (λ _. done attribute.Closed) round_group_runs (λ _. done_runs text flat attribute.Closed)) (done_runs text flat attribute.Word)
  after_runs head.Align = if_next_runs text flat flat (goes_on text attribute.Align) (align_tail text >>= λ _. done attribute.Closed) (done attribute.Align)
      (then_runs text flat flat flat (align_tail text) (λ _. done attribute.Closed) align_tail_runs (λ _. done_runs text flat attribute.Closed)) (done_runs text flat attribute.Align)
  after_runs (head.Text key) = if_next_runs text flat flat (goes_on text (attribute.Text key)) (value_tail text >>= λ value. done (attribute.Pair key value)) (done (attribute.Text key))
      (then_runs text flat flat flat (value_tail text) (λ value. done (attribute.Pair key value)) value_tail_runs (λ value. done_runs text flat (attribute.Pair key value))) (done_runs text flat (attribute.Text key))
  after_runs (head.Group group) = done_runs text flat (attribute.Group group)

  attribute_runs : Runs text flat flat (an_attribute text)
  unfolding an_attribute
  attribute_runs = then_runs text flat flat flat (plain (attribute_head text)) (after_head text) (plain_at (λ _ used. Moves text flat flat used) (attribute_head text) (λ h t e. head_moves h t e)) after_runs

  pub attributes_run : Runs text flat flat (all_attributes text)
  attributes_run = items_where_runs text flat (begins_attribute text) (an_attribute text) attribute_runs

  pub skip_runs : Runs text flat flat (skip_attributes text)
  skip_runs = then_runs text flat flat flat (all_attributes text) (λ _. done tt) attributes_run (λ _. done_runs text flat tt)

  pub marks_run : (role : Role) → Runs text flat flat (attribute_marks text role)
  marks_run role = then_runs text flat flat flat (all_attributes text) (λ all. done (all_marks text role all)) attributes_run (λ all. done_runs text flat (all_marks text role all))

  pub behind_attributes_runs : {A : Type 0} (p : Rule (Unit {0}) A) → Runs text flat flat p → Runs text flat flat (behind_attributes text p)
  behind_attributes_runs p h = ahead_runs text flat flat flat (all_go_on text) (all_attributes text) (λ all. p) attributes_run (λ all. h)
