-- Texts that begin alike are read alike: globals, and all forms at the top.
use Rattle.std.proofs.Common.{◌≡◌, false, codes, refl}
use Rattle.no_lex.specs.declared.token.Token.{Token}
use Rattle.no_lex.specs.declared.token.TokenKind.TheVariants as kind
use Rattle.no_ir.specs.declared.function.Role.{Role}
use Rattle.no_read_rules.specs.Rules.{plain}
use Rattle.no_read_rules.specs.Scope.{Meaning}
use Rattle.no_read_registers.specs.Numbered.{no_locals_yet}
use Rattle.no_read_functions.specs.Heads.{a_head}
use Rattle.no_read_toplevel.specs.declared.globals.TailHead.{TailHead}
use Rattle.no_read_toplevel.specs.declared.globals.TailHead.TheVariants.{Align, Section, Attachment}
use Rattle.no_read_toplevel.specs.declared.tops.TopWord.{TopWord}
use Rattle.no_read_toplevel.specs.declared.tops.TopWord.TheVariants as begins
use Rattle.no_read_toplevel.specs.Globals.{is_idle, constant_of, metadata_of, tail_head, after_tail_head, a_tail, is_comma, tails, a_global}
use Rattle.no_read_toplevel.specs.Entities.{a_source, target_of, a_target, group_of, a_group, bare_of, a_node}
use Rattle.no_read_toplevel.specs.Tops.{top_word, begins_top, source_top, target_top, function_top, declared_top, group_top, global_top, node_top, after_word, worded, a_top, tops}
use Rattle.no_fault_places.specs.Alike.{IsAlike}
use Rattle.no_fault_places.proofs.Alike.{Same, Any, Alike, one_same, plain_alike, plain_same, done_any, if_next_alike, lift_alike, then_same, then_any, any_alike, maybe_same}
use Rattle.no_fault_places.proofs.AlikeLists.{kind_alike, word_alike, sign_alike, a_word_alike, a_sign_alike, items_where_alike, behind_alike, bracketed_alike, inside_any}
use Rattle.no_fault_places.proofs.AlikeAttributes.{alignment_alike, string_alike, marks_alike}
use Rattle.no_fault_places.proofs.AlikeConstants.{Typing, then_kept, either, type_alike, const_alike}
use Rattle.no_fault_places.proofs.AlikeFunctions.{name_alike, head_alike, function_alike}

-- ---- globals

module _ (here there : Meaning) where
  metadata_alike : {S : Type 0} → Alike here there {S = S} Same (plain (metadata_of here.text)) (plain (metadata_of there.text))
  metadata_alike = plain_same (metadata_of here.text) (metadata_of there.text) (λ t u k. rw (k.kind, k.spelling) refl)

  tail_head_alike : (h : TailHead) → Alike here there Any (after_tail_head here.text h) (after_tail_head there.text h)
  tail_head_alike Align = then_same _ _ _ _ (alignment_alike here there) (λ n. done_any _ _)
  tail_head_alike Section = then_any _ _ _ _ (string_alike here there) (λ a b. done_any _ _)
  tail_head_alike Attachment = then_same _ _ _ _ metadata_alike (λ _. done_any _ _)

  tail_alike : Alike here there Any (a_tail here.text) (a_tail there.text)
  unfolding a_tail
  tail_alike = then_same _ _ _ _ (a_sign_alike (codes ",")) (λ _. then_same _ _ _ _ (plain_same (tail_head here.text) (tail_head there.text) (λ t u k. rw (k.kind, k.spelling) refl)) (λ h. then_any _ _ _ _ (tail_head_alike h) (λ a b. done_any _ _)))

  tails_alike : Alike here there Any (tails here.text) (tails there.text)
  tails_alike = then_any _ _ _ _ (any_alike _ _ (items_where_alike (is_comma here.text) (is_comma there.text) (a_tail here.text) (a_tail there.text) (sign_alike (codes ",")) tail_alike)) (λ a b. done_any _ _)

  -- ---- what has no effect, the layout, and groups

  source_alike : Alike here there Any (a_source here.text) (a_source there.text)
  unfolding a_source
  source_alike = then_same _ _ _ _ (a_sign_alike (codes "=")) (λ _. then_any _ _ _ _ (string_alike here there) (λ a b. done_any _ _))

  target_alike : Alike here there Any (a_target here.text) (a_target there.text)
  unfolding a_target
  target_alike = then_same _ _ _ _ (one_same (target_of here.text) (target_of there.text) (λ s t u k. rw (word_alike (codes "triple") t u k, word_alike (codes "datalayout") t u k) refl)) (λ layout.
      then_same _ _ _ _ (a_sign_alike (codes "=")) (λ _. then_any _ _ _ _ (lift_alike _ _ (string_alike here there)) (λ a b. done_any _ _)))

  group_name_alike : {S : Type 0} → Alike here there {S = S} Any (plain (group_of here.text)) (plain (group_of there.text))
  group_name_alike = plain_alike (group_of here.text) (group_of there.text) (λ t u k. rw (kind_alike kind.Group t u k, k.spelling) (either _ t u))

  group_alike : (role : Role) → Alike here there Any (a_group here.text role) (a_group there.text role)
  unfolding a_group
  group_alike role = then_any _ _ _ _ group_name_alike (λ a b. then_same _ _ _ _ (a_sign_alike (codes "=")) (λ _. then_same _ _ _ _ (a_sign_alike (codes "{")) (λ _. then_any _ _ _ _ (marks_alike here there role) (λ _ _.
      then_same _ _ _ _ (a_sign_alike (codes "}")) (λ _. done_any _ _)))))

  node_alike : Alike here there Any (a_node here.text) (a_node there.text)
  unfolding a_node
  node_alike = then_same _ _ _ _ metadata_alike (λ _. then_same _ _ _ _ (a_sign_alike (codes "=")) (λ _. then_same _ _ _ _ (maybe_same _ _ _ _ (word_alike (codes "distinct")) (a_word_alike (codes "distinct"))) (λ _.
      then_same _ _ _ _ (plain_same (bare_of here.text) (bare_of there.text) (λ t u k. rw (k.kind, k.spelling) refl)) (λ _. any_alike _ _ (bracketed_alike (codes "{") (codes "}"))))))

module _ (here there : Meaning) (typing : Typing here there) where
  idle_alike : (t u : Token) → IsAlike here there t u → is_idle there.text u ≡ is_idle here.text t
  idle_alike t u k = rw (k.kind, k.spelling) refl

  constant_alike : {S : Type 0} → Alike here there {S = S} Same (plain (constant_of here.text)) (plain (constant_of there.text))
  constant_alike = plain_same (constant_of here.text) (constant_of there.text) (λ t u k. rw (word_alike (codes "constant") t u k, word_alike (codes "global") t u k) refl)

  global_alike : Alike here there Any (a_global here) (a_global there)
  unfolding a_global
  global_alike = then_same _ _ _ _ name_alike (λ name. then_same _ _ _ _ (a_sign_alike (codes "=")) (λ _. then_same _ _ _ _ (behind_alike _ _ _ _ idle_alike constant_alike) (λ constant.
      then_kept _ _ _ _ (type_alike here there typing 64) (λ of k. then_any _ _ _ _ (const_alike here there typing 64 of k) (λ _ _. then_any _ _ _ _ (tails_alike here there) (λ _ _. done_any _ _))))))

  module _ (role : Role) where
    -- ---- the forms at the top

    after_word_alike : (w : TopWord) → Alike here there Any (after_word here role w) (after_word there role w)
    unfolding source_top target_top function_top declared_top group_top
    after_word_alike begins.Source = then_any _ _ _ _ (lift_alike _ _ (source_alike here there)) (λ _ _. done_any _ _)
    after_word_alike begins.Target = then_any _ _ _ _ (target_alike here there) (λ _ _. done_any _ _)
    after_word_alike begins.Define = then_any _ _ _ _ (lift_alike _ _ (function_alike here there typing role)) (λ _ _. done_any _ _)
    after_word_alike begins.Declare = then_any _ _ _ _ (lift_alike _ _ (inside_any no_locals_yet (a_head here role false) (a_head there role false) (head_alike here there typing role false))) (λ _ _. done_any _ _)
    after_word_alike begins.Attributes = then_any _ _ _ _ (lift_alike _ _ (group_alike here there role)) (λ _ _. done_any _ _)

    worded_alike : Alike here there Any (worded here role) (worded there role)
    unfolding worded
    worded_alike = then_same _ _ _ _ (plain_same (top_word here.text) (top_word there.text) (λ t u k. rw (k.kind, k.spelling) refl)) after_word_alike

    top_alike : Alike here there Any (a_top here role) (a_top there role)
    unfolding a_top global_top node_top
    top_alike = if_next_alike _ _ _ _ _ _ (kind_alike kind.Global) (then_any _ _ _ _ (lift_alike _ _ global_alike) (λ _ _. done_any _ _))
        (if_next_alike _ _ _ _ _ _ (kind_alike kind.Meta) (then_any _ _ _ _ (lift_alike _ _ (node_alike here there)) (λ _ _. done_any _ _)) worded_alike)

    begins_alike : (t u : Token) → IsAlike here there t u → begins_top there.text u ≡ begins_top here.text t
    begins_alike t u k = rw (k.kind, k.spelling) refl

    pub tops_alike : Alike here there Any (tops here role) (tops there role)
    tops_alike = any_alike _ _ (items_where_alike (begins_top here.text) (begins_top there.text) (a_top here role) (a_top there role) begins_alike top_alike)
