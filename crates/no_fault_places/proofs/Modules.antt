-- Reading is decided by a prefix: globals, all forms at the top, and whole modules.
use Rattle.std.proofs.Common.{ℕ, false, List, codes, Some, None}
use Rattle.no_lex.specs.declared.token.TokenKind.TheVariants as kind
use Rattle.no_ir.specs.declared.function.Role.{Role}
use Rattle.no_read_rules.specs.Scope.{Meaning}
use Rattle.no_read_rules.specs.Spelled.{is_kind, only_where, is_sign}
use Rattle.no_read_attributes.specs.Symbols.{symbol_name}
use Rattle.no_read_registers.specs.Numbered.{no_locals_yet}
use Rattle.no_read_functions.specs.Heads.{a_head}
use Rattle.no_read_toplevel.specs.declared.globals.TailHead.{TailHead}
use Rattle.no_read_toplevel.specs.declared.globals.TailHead.TheVariants.{Align, Section, Attachment}
use Rattle.no_read_toplevel.specs.declared.tops.TopWord.{TopWord}
use Rattle.no_read_toplevel.specs.declared.tops.TopWord.TheVariants as begins
use Rattle.no_read_toplevel.specs.Globals.{is_idle, constant_of, metadata_of, after_tail_head, a_tail, is_comma, tails, a_global}
use Rattle.no_read_toplevel.specs.Entities.{a_source, target_of, a_target, a_group, is_distinct, a_node}
use Rattle.no_read_toplevel.specs.Tops.{top_word, begins_top, source_top, target_top, function_top, declared_top, group_top, global_top, node_top, after_word, worded, a_top, tops}
use Rattle.no_fault_places.specs.Prefixes.{Steady, Eats}
use Rattle.no_fault_places.proofs.Prefix.{one_steady, plain_steady, done_steady, lift_steady, if_next_steady, then_steady, plain_eats, lift_eats, then_eats, if_next_eats}
use Rattle.no_fault_places.proofs.Lists.{items_where_steady, behind_steady}
use Rattle.no_fault_places.proofs.Attributes.{bracketed_steady, inside_steady, marks_steady}
use Rattle.no_fault_places.proofs.Constants.{type_steady, const_steady}
use Rattle.no_fault_places.proofs.Functions.{head_steady, function_steady}

-- ---- globals

module _ (text : List ℕ) where
  tail_head_steady : (h : TailHead) → Steady (after_tail_head text h)
  tail_head_steady Align = then_steady _ _ (plain_steady _) (λ n. done_steady (Some n))
  tail_head_steady Section = then_steady _ _ (plain_steady _) (λ _. done_steady None)
  tail_head_steady Attachment = then_steady _ _ (plain_steady _) (λ _. done_steady None)

  tail_steady : Steady (a_tail text)
  unfolding a_tail
  tail_steady = then_steady _ _ (plain_steady _) (λ _. then_steady _ _ (plain_steady _) (λ head. then_steady _ _ (tail_head_steady head) (λ align. done_steady align)))

  tail_eats : Eats (a_tail text)
  unfolding a_tail
  tail_eats = then_eats _ _ (plain_eats (λ token. only_where (is_sign text (codes ",") token))) (λ _. then_steady _ _ (plain_steady _) (λ head. then_steady _ _ (tail_head_steady head) (λ align. done_steady align)))

  tails_steady : Steady (tails text)
  tails_steady = then_steady _ _ (items_where_steady (is_comma text) (a_tail text) tail_steady tail_eats) (λ all. done_steady _)

  -- ---- what has no effect, the layout, and groups

  source_steady : Steady (a_source text)
  unfolding a_source
  source_steady = then_steady _ _ (plain_steady _) (λ _. then_steady _ _ (plain_steady _) (λ _. done_steady tt))

  target_steady : Steady (a_target text)
  unfolding a_target
  target_steady = then_steady _ _ (one_steady (target_of text)) (λ layout. then_steady _ _ (plain_steady _) (λ _. then_steady _ _ (lift_steady _ (plain_steady _)) (λ token. done_steady _)))

  group_steady : (role : Role) → Steady (a_group text role)
  unfolding a_group
  group_steady role = then_steady _ _ (plain_steady _) (λ group. then_steady _ _ (plain_steady _) (λ _. then_steady _ _ (plain_steady _) (λ _. then_steady _ _ (marks_steady text role) (λ marks. then_steady _ _ (plain_steady _) (λ _. done_steady _)))))

  node_steady : Steady (a_node text)
  unfolding a_node
  node_steady = then_steady _ _ (plain_steady _) (λ _. then_steady _ _ (plain_steady _) (λ _. then_steady _ _ (if_next_steady (is_distinct text) _ _ (then_steady _ _ (plain_steady _) (λ a. done_steady (Some a))) (done_steady None))
      (λ _. then_steady _ _ (plain_steady _) (λ _. bracketed_steady text (codes "{") (codes "}")))))

  node_eats : Eats (a_node text)
  unfolding a_node
  node_eats = then_eats _ _ (plain_eats (metadata_of text)) (λ _. then_steady _ _ (plain_steady _) (λ _. then_steady _ _ (if_next_steady (is_distinct text) _ _ (then_steady _ _ (plain_steady _) (λ a. done_steady (Some a))) (done_steady None))
      (λ _. then_steady _ _ (plain_steady _) (λ _. bracketed_steady text (codes "{") (codes "}")))))

module _ (m : Meaning) where
  global_steady : Steady (a_global m)
  unfolding a_global
  global_steady = then_steady _ _ (plain_steady _) (λ name. then_steady _ _ (plain_steady _) (λ _. then_steady _ _ (behind_steady (is_idle m.text) _ (plain_steady (constant_of m.text))) (λ constant.
      then_steady _ _ (type_steady m 64) (λ ty. then_steady _ _ (const_steady m 64 ty) (λ init. then_steady _ _ (tails_steady m.text) (λ align. done_steady _))))))

  global_eats : Eats (a_global m)
  unfolding a_global
  global_eats = then_eats _ _ (plain_eats (symbol_name m.text)) (λ name. then_steady _ _ (plain_steady _) (λ _. then_steady _ _ (behind_steady (is_idle m.text) _ (plain_steady (constant_of m.text))) (λ constant.
      then_steady _ _ (type_steady m 64) (λ ty. then_steady _ _ (const_steady m 64 ty) (λ init. then_steady _ _ (tails_steady m.text) (λ align. done_steady _))))))

  module _ (role : Role) where
    -- ---- the forms at the top

    word_steady : (w : TopWord) → Steady (after_word m role w)
    unfolding source_top target_top function_top declared_top group_top
    word_steady begins.Source = then_steady _ _ (lift_steady _ (source_steady m.text)) (λ _. done_steady _)
    word_steady begins.Target = then_steady _ _ (target_steady m.text) (λ layout. done_steady _)
    word_steady begins.Define = then_steady _ _ (lift_steady _ (function_steady m role)) (λ f. done_steady _)
    word_steady begins.Declare = then_steady _ _ (lift_steady _ (inside_steady no_locals_yet (a_head m role false) (head_steady m role false))) (λ d. done_steady _)
    word_steady begins.Attributes = then_steady _ _ (lift_steady _ (group_steady m.text role)) (λ g. done_steady _)

    worded_steady : Steady (worded m role)
    unfolding worded
    worded_steady = then_steady _ _ (plain_steady _) word_steady

    worded_eats : Eats (worded m role)
    unfolding worded
    worded_eats = then_eats _ _ (plain_eats (top_word m.text)) word_steady

    top_steady : Steady (a_top m role)
    unfolding a_top global_top node_top
    top_steady = if_next_steady (is_kind kind.Global) _ _ (then_steady _ _ (lift_steady _ global_steady) (λ g. done_steady _))
        (if_next_steady (is_kind kind.Meta) _ _ (then_steady _ _ (lift_steady _ (node_steady m.text)) (λ _. done_steady _)) worded_steady)

    top_eats : Eats (a_top m role)
    unfolding a_top global_top node_top
    top_eats = if_next_eats (is_kind kind.Global) _ _ (then_eats _ _ (lift_eats _ global_eats) (λ g. done_steady _))
        (if_next_eats (is_kind kind.Meta) _ _ (then_eats _ _ (lift_eats _ (node_eats m.text)) (λ _. done_steady _)) worded_eats)

    pub tops_steady : Steady (tops m role)
    tops_steady = items_where_steady (begins_top m.text) (a_top m role) top_steady top_eats
