-- Operands and instructions that were read are formed.
use Rattle.std.proofs.Common.{◌≡◌, ◌<◌, ◌≤◌, ℕ, suc, zero, Bool, true, false, not, ◌&&◌, nat_lt, List, [], ◌∷◌, ◌++◌, length, codes, if◌then◌else◌, bytes_eq, cond, reverse, ◌+◌, ◌||◌, true≢false, Option, Some, None, is_some, Result, Ok, Err, refl, sym, ap, subst, ◌∙◌, inl, inr, arith}
use Rattle.std.specs.List.{list_all, list_any, position_or_len}
use Rattle.std.proofs.lemmas.List.{length-append}
use Rattle.std.proofs.lemmas.Bool.{lt-ltb}
use Rattle.no_lex.specs.declared.token.Token.{Token}
use Rattle.no_lex.specs.declared.token.TokenKind.TheVariants as kind
use Rattle.no_ir.specs.Naming.{place_of, with_name, is_known}
use Rattle.no_ir.specs.declared.function.Role.{Role}
use Rattle.no_ir.specs.declared.function.Role.TheVariants.{Source, Part}
use Rattle.no_ir.specs.declared.types.Ty.{Ty}
use Rattle.no_ir.specs.declared.types.Ty.TheVariants as ty
use Rattle.no_ir.specs.declared.constant.Const.{Const}
use Rattle.no_ir.specs.declared.instruction.BinOp.{BinOp}
use Rattle.no_ir.specs.declared.instruction.CastOp.{CastOp}
use Rattle.no_ir.specs.declared.instruction.Operand.{Operand}
use Rattle.no_ir.specs.declared.instruction.Operand.TheVariants as operand
use Rattle.no_ir.specs.declared.instruction.Op.{Op}
use Rattle.no_ir.specs.declared.instruction.Op.TheVariants as op
use Rattle.no_read_rules.specs.declared.fault.Flaw.{Flaw}
use Rattle.no_read_rules.specs.declared.fault.Flaw.TheVariants.{Syntax, Number}
use Rattle.no_read_rules.specs.Repeated.{repeat}
use Rattle.no_read_rules.specs.Rules.{Rule, one, plain, done, change, ◌>>=◌, lift, if_next, checked}
use Rattle.no_read_rules.specs.Scope.{Meaning}
use Rattle.no_read_rules.specs.Spelled.{spelled, is_kind, is_word, is_sign, a_word, a_sign}
use Rattle.no_read_rules.specs.Types.{a_type, must_be}
use Rattle.no_read_rules.specs.Unescaped.{name_of}
use Rattle.no_read_constants.specs.Places.{is_flag, width_of, number_at}
use Rattle.no_read_constants.specs.Constants.{a_const}
use Rattle.no_read_attributes.specs.Attributes.{is_alignment as listed_alignment, aligned, alignment_of}
use Rattle.no_read_registers.specs.declared.locals.Locals.{Locals}
use Rattle.no_read_registers.specs.Counting.{next, label_fits}
use Rattle.no_read_registers.specs.Numbered.{register_named, label_named, register_defined, label_defined, register_unnamed, label_unnamed, local_name, used_register, a_register, written_register, a_definition, no_name, used_label, a_label_name, a_label, label_by, without_colon, written_label, a_block_label, numbered_label, fitting, no_block_label}
use Rattle.no_read_operations.specs.declared.ends.Ending.{Ending}
use Rattle.no_read_operations.specs.declared.ends.Listed.{Listed}
use Rattle.no_read_operations.specs.declared.memory.AllocaEnd.{AllocaEnd}
use Rattle.no_read_operations.specs.Folded.{folded, AreSteps}
use Rattle.no_read_operations.specs.Operands.{DEPTH, word, sign, some_type, this_type, a_width, register_operand, const_operand, an_operand, a_pointer, sized_operand, is_flag_word}
use Rattle.no_read_operations.specs.Ends.{is_comma, an_alignment, node_is, marks, an_attachment, opens_alignment, end_alignment, end_attachment, end_step, ends, end_mark, finish, ended, opens_item, list_item, list_attachment, list_step, listed}
use Rattle.no_read_operations.specs.Simple.{binary_flags, binary_parts, binary, cast_flags, cast_parts, cast_form, pred_of, compare_parts, compare, freeze, select}
use Rattle.no_read_operations.specs.Memory as memory
use Rattle.no_read_operations.specs.Flow.{return_void, return_value, ret, branch, branch_if, br, same_width, a_case, no_case, one_case, more_case, switch, a_pair, phi}
use Rattle.no_read_operations.specs.declared.operands.Flags.TheVariants as flags
use Rattle.no_module.specs.Formed.{Counts, Within, type_formed, a_type_formed, operand_formed, value_formed, integer_formed, label_formed, pair_formed, case_formed, count_formed, returned_formed, alignment_formed, op_formed}
use Rattle.no_module.specs.Widths.{is_width, is_below, is_alignment}
use Rattle.no_read_formed.proofs.Saying.{All, Each, Maybe, kept_state, plain_all, done_all, then_all, skip_all, each_true, Grows, Holds, Says, stays, stays_as, goes_on, held, anything, done_says, if_next_says, behind_says, lift_says, lift_any, then_says, skip_says, repeat_says, some_says, if_next_all, folded_all, folded_says, each_push}
use Rattle.no_read_formed.proofs.Types.{from_got, IsType}
use Rattle.no_read_formed.proofs.Values.{Agrees, IsTypeHere, IsConst, type_here, const_all, width_all, number_all}

-- ---- names

place_most : (p : List ℕ → Bool) (names : List (List ℕ)) → position_or_len p names ≤ length names
place_most p [] = omega arith
place_most p (first ∷ names) = by (p first) refl (place_most p names)
  where
    by : (b : Bool) → p first ≡ b → position_or_len p names ≤ length names → cond (not (p first)) (1 + position_or_len p names) 0 ≤ length (first ∷ names)
    by true e h = rw e (omega arith)
    by false e h = rw e (omega (arith, h))

pub known_place : (p : List ℕ → Bool) (names : List (List ℕ)) → list_any p names ≡ true → position_or_len p names < length names
known_place p [] h = absurd (true≢false (sym h))
known_place p (first ∷ names) h = by (p first) refl h (known_place p names)
  where
    by : (b : Bool) → p first ≡ b → (p first || list_any p names) ≡ true → (list_any p names ≡ true → position_or_len p names < length names) → cond (not (p first)) (1 + position_or_len p names) 0 < length (first ∷ names)
    by true e k more = rw e (omega arith)
    by false e k more = let n = more (sym (ap (λ b. b || list_any p names) e) ∙ k) in rw e (omega (arith, n))

-- the list of names never gets shorter, and a name that has appeared has a place in it
longer_with : (names : List (List ℕ)) (name : List ℕ) → length names ≤ length (with_name names name)
longer_with names name = go (is_known names name)
  where
    go : (b : Bool) → length names ≤ length (if b then names else names ++ name ∷ [])
    go true = omega arith
    go false = let e = length-append names (name ∷ []) in omega (arith, e)

place_below : (names : List (List ℕ)) (name : List ℕ) → place_of names name < length (with_name names name)
place_below names name = go (is_known names name) refl
  where
    go : (b : Bool) → is_known names name ≡ b → place_of names name < length (if b then names else names ++ name ∷ [])
    go true e = known_place (bytes_eq name) names e
    go false e = let l = length-append names (name ∷ []) in let p = place_most (bytes_eq name) names in omega (arith, l, p)

-- ---- numbers of registers and labels

abbrev pub IsRegister : ℕ → ℕ → ℕ → Type 0
IsRegister r l k = nat_lt k r ≡ true

abbrev pub IsLabel : ℕ → ℕ → ℕ → Type 0
IsLabel r l k = nat_lt k l ≡ true

record Register (s : Locals) (x : ℕ × Locals) : Type 0 where
  pub grows : Grows s x.1
  pub below : x.0 < length x.1.registers

record LabelOf (s : Locals) (x : ℕ × Locals) : Type 0 where
  pub grows : Grows s x.1
  pub below : x.0 < length x.1.labels

below_all : (k n r : ℕ) → k < n → n ≤ r → nat_lt k r ≡ true
below_all k n r p q = lt-ltb k r (go p q)
  where
    go : k < n → n ≤ r → k < r
    go p q = omega (arith, p, q)

abbrev okay : {A : Type 0} → A → Result A Flaw
okay x = Ok x

one_register : (f : Locals → Token → Result (ℕ × Locals) Flaw) → ((s : Locals) (u : Token) (x : ℕ × Locals) → f s u ≡ Ok x → Register s x) → Says IsRegister (one f)
one_register f h s t used a m =
    let g = h s m.token (a, t) m.value in
    (g.grows, λ r l k. below_all a (length t.registers) r g.below k.registers)

one_label : (f : Locals → Token → Result (ℕ × Locals) Flaw) → ((s : Locals) (u : Token) (x : ℕ × Locals) → f s u ≡ Ok x → LabelOf s x) → Says IsLabel (one f)
one_label f h s t used a m =
    let g = h s m.token (a, t) m.value in
    (g.grows, λ r l k. below_all a (length t.labels) l g.below k.labels)

same : (n : ℕ) → n ≤ n
same n = omega arith

register_got : (s : Locals) (name counter : List ℕ) → Register s (place_of s.registers name, record { registers = with_name s.registers name; labels = s.labels; counter = counter })
register_got s name counter = record { grows = record { registers = longer_with s.registers name; labels = same (length s.labels) }; below = place_below s.registers name }

label_got : (s : Locals) (name counter : List ℕ) → LabelOf s (place_of s.labels name, record { registers = s.registers; labels = with_name s.labels name; counter = counter })
label_got s name counter = record { grows = record { registers = same (length s.registers); labels = longer_with s.labels name }; below = place_below s.labels name }

module _ (text : List ℕ) where
  pub register_says : Says IsRegister (a_register text)
  register_says = one_register (used_register text) (λ s u x e. go s u x (is_kind kind.Local u) e)
    where
      go : (s : Locals) (u : Token) (x : ℕ × Locals) (b : Bool) → (if b then Ok (register_named s (local_name text u)) else Err Syntax) ≡ Ok x → Register s x
      go s u x true e = subst (Register s) (from_got (register_named s (local_name text u)) x e) (register_got s (local_name text u) s.counter)
      go s u x false e = absurd cc

  pub definition_says : Says IsRegister (a_definition text)
  definition_says = one_register (written_register text) (λ s u x e. go s u x (is_kind kind.Local u) e)
    where
      go : (s : Locals) (u : Token) (x : ℕ × Locals) (b : Bool) → (if b then Ok (register_defined s (local_name text u)) else Err Syntax) ≡ Ok x → Register s x
      go s u x true e = subst (Register s) (from_got (register_defined s (local_name text u)) x e) (register_got s (local_name text u) _)
      go s u x false e = absurd cc

  pub label_name_says : Says IsLabel (a_label_name text)
  label_name_says = one_label (used_label text) (λ s u x e. go s u x (is_kind kind.Local u) e)
    where
      go : (s : Locals) (u : Token) (x : ℕ × Locals) (b : Bool) → (if b then Ok (label_named s (local_name text u)) else Err Syntax) ≡ Ok x → LabelOf s x
      go s u x true e = subst (LabelOf s) (from_got (label_named s (local_name text u)) x e) (label_got s (local_name text u) s.counter)
      go s u x false e = absurd cc

  pub label_says : Says IsLabel (a_label text)
  unfolding a_label
  label_says s t used a m =
      let x = label_name_says m.between t m.back a m.in_back in
      let k = from_word s m.between m.front m.first m.in_front in
      (goes_on s m.between t k x.0, x.1)
    where
      from_word : (s t : Locals) (used : List Token) (a : Unit {0}) → (a_word text (codes "label")).means s used a t → Grows s t
      from_word s t used a m = stays_as s t (kept_state s t a _ m.value)

  pub block_label_says : Says IsLabel (a_block_label text)
  block_label_says = one_label (written_label text) (λ s u x e. go s u x (is_kind kind.Label u) e)
    where
      in_range : (s : Locals) (name : List ℕ) (x : ℕ × Locals) (b : Bool) → (if b then Ok (label_defined s name) else Err Number) ≡ Ok x → LabelOf s x
      in_range s name x true e = subst (LabelOf s) (from_got (label_defined s name) x e) (label_got s name _)
      in_range s name x false e = absurd cc

      go : (s : Locals) (u : Token) (x : ℕ × Locals) (b : Bool) → (if b then label_by s (name_of (without_colon (spelled text u))) else Err Syntax) ≡ Ok x → LabelOf s x
      go s u x true e = in_range s (name_of (without_colon (spelled text u))) x _ e
      go s u x false e = absurd cc

pub no_name_says : Says IsRegister no_name
no_name_says s t used a m =
    let g = register_got s (reverse s.counter) (next s.counter) in
    (subst (Grows s) (sym m.2) g.grows, λ r l k. subst (λ (n : ℕ). nat_lt n r ≡ true) (sym m.1) (below_all (register_unnamed s).0 (length (register_unnamed s).1.registers) r g.below (subst (λ (x : Locals). length x.registers ≤ r) m.2 k.registers)))

pub no_label_says : Says IsLabel no_block_label
no_label_says s t used a m = go (label_fits (reverse s.counter)) refl
  where
    g : LabelOf s (label_unnamed s)
    g = label_got s (reverse s.counter) (next s.counter)

    go : (b : Bool) → label_fits (reverse s.counter) ≡ b → Grows s t × ((r l : ℕ) → Holds t r l → IsLabel r l a)
    go true e =
        let is : (label_unnamed s).0 ≡ a = from_got (label_unnamed s).0 a (sym (ap (λ (z : ℕ × Bool). fitting z) m.read.1 ∙ ap (λ (c : Bool). if c then okay (label_unnamed s).0 else Err Number) e) ∙ m.passes) in
        (subst (Grows s) (sym m.read.2) g.grows, λ r l k. subst (λ (n : ℕ). nat_lt n l ≡ true) is (below_all (label_unnamed s).0 (length (label_unnamed s).1.labels) l g.below (subst (λ (x : Locals). length x.labels ≤ l) m.read.2 k.labels)))
    go false e = absurd (none a (sym (ap (λ (z : ℕ × Bool). fitting z) m.read.1 ∙ ap (λ (c : Bool). if c then okay (label_unnamed s).0 else Err Number) e) ∙ m.passes))
      where
        none : (n : ℕ) → (Err Number ≡ okay n) → ⊥
        none n q = cc

-- ---- operands

module _ (m : Meaning) (c : Counts) (a : Agrees m c) where
  abbrev pub W : ℕ → ℕ → Within
  W r l = record { counts = c; registers = r; labels = l }

  abbrev pub IsOperand : Ty → ℕ → ℕ → Operand → Type 0
  IsOperand t r l o = operand_formed (W r l) t o ≡ true

  abbrev pub IsOp : ℕ → ℕ → Op → Type 0
  IsOp r l o = op_formed (W r l) o ≡ true

  abbrev pub IsSomeType : ℕ → ℕ → Ty → Type 0
  IsSomeType r l t = type_formed (length c.types) t ≡ true

  abbrev pub IsWidth : ℕ → ℕ → ℕ → Type 0
  IsWidth r l w = is_width w ≡ true

  abbrev pub IsInteger : ℕ → ℕ → ℕ × Operand → Type 0
  IsInteger r l x = integer_formed (W r l) x ≡ true

  register_operand_says : (t : Ty) → Says (IsOperand t) (register_operand m.text)
  unfolding register_operand
  register_operand_says t = then_says IsRegister (IsOperand t) (a_register m.text) _ (register_says m.text) (λ k. done_says (λ r l o. IsRegister r l k → IsOperand t r l o) (operand.Reg k) (λ r l e. e))

  const_operand_says : (t : Ty) → Says (IsOperand t) (const_operand m t)
  unfolding const_operand
  const_operand_says t = then_says (λ r l. IsConst m c a t) (IsOperand t) (lift (a_const m DEPTH t)) _ (lift_says (IsConst m c a t) (a_const m DEPTH t) (const_all m c a DEPTH t))
      (λ k. done_says (λ r l o. IsConst m c a t k → IsOperand t r l o) (operand.Const k) (λ r l e. e))

  pub operand_says : (t : Ty) → Says (IsOperand t) (an_operand m t)
  unfolding an_operand
  operand_says t = if_next_says (IsOperand t) (is_kind kind.Local) (register_operand m.text) (const_operand m t) (register_operand_says t) (const_operand_says t)

  pub pointer_says : Says (IsOperand ty.Ptr) (a_pointer m)
  unfolding a_pointer
  pointer_says = skip_says (IsOperand ty.Ptr) (a_word m.text (codes "ptr")) (λ _. an_operand m ty.Ptr) (λ _. operand_says ty.Ptr)

  pub some_type_says : Says IsSomeType (some_type m)
  some_type_says = lift_says (IsTypeHere m c a) (a_type m DEPTH) (type_here m c a DEPTH)

  pub width_says : Says IsWidth (a_width m)
  width_says = lift_says (λ w. is_width w ≡ true) (plain (width_of m.text)) (width_all m.text)

  pub sized_says : Says IsInteger (sized_operand m)
  unfolding sized_operand
  sized_says = then_says IsWidth IsInteger (a_width m) _ width_says
      (λ w. then_says (IsOperand (ty.Int w)) (λ r l x. IsWidth r l w → IsInteger r l x) (an_operand m (ty.Int w)) _ (operand_says (ty.Int w))
      (λ o. done_says (λ r l x. IsOperand (ty.Int w) r l o → IsWidth r l w → IsInteger r l x) (w, o) (λ r l e f. rw (f, e) refl)))

  -- ---- values

  pub binary_says : (b : BinOp) → Says IsOp (binary m b)
  unfolding binary_parts
  binary_says b = behind_says IsOp (is_flag_word m.text (binary_flags b)) (binary_parts m b) (then_says IsWidth IsOp (a_width m) _ width_says
      (λ w. then_says (IsOperand (ty.Int w)) (λ r l o. IsWidth r l w → IsOp r l o) (an_operand m (ty.Int w)) _ (operand_says (ty.Int w))
      (λ x. skip_says (λ r l o. IsOperand (ty.Int w) r l x → IsWidth r l w → IsOp r l o) (a_sign m.text (codes ",")) _
      (λ _. then_says (IsOperand (ty.Int w)) (λ r l o. IsOperand (ty.Int w) r l x → IsWidth r l w → IsOp r l o) (an_operand m (ty.Int w)) _ (operand_says (ty.Int w))
      (λ y. done_says (λ r l o. IsOperand (ty.Int w) r l y → IsOperand (ty.Int w) r l x → IsWidth r l w → IsOp r l o) (op.Binary b w x y) (λ r l e f g. rw (g, f, e) refl))))))

  pub cast_says : (o : CastOp) → Says IsOp (cast_form m o)
  unfolding cast_parts
  cast_says k = behind_says IsOp (is_flag_word m.text (cast_flags k)) (cast_parts m k) (then_says IsSomeType IsOp (some_type m) _ some_type_says
      (λ t. then_says (IsOperand t) (λ r l o. IsSomeType r l t → IsOp r l o) (an_operand m t) _ (operand_says t)
      (λ x. skip_says (λ r l o. IsOperand t r l x → IsSomeType r l t → IsOp r l o) (a_word m.text (codes "to")) _
      (λ _. then_says IsSomeType (λ r l o. IsOperand t r l x → IsSomeType r l t → IsOp r l o) (some_type m) _ some_type_says
      (λ u. done_says (λ r l o. IsSomeType r l u → IsOperand t r l x → IsSomeType r l t → IsOp r l o) (op.Cast k t x u) (λ r l e f g. rw (g, f, e) refl))))))

  pub compare_says : Says IsOp (compare m)
  unfolding compare_parts
  compare_says = behind_says IsOp (is_flag_word m.text flags.SameSign) (compare_parts m) (skip_says IsOp (plain (pred_of m.text)) _ (λ p. then_says IsSomeType IsOp (some_type m) _ some_type_says
      (λ t. then_says (IsOperand t) (λ r l o. IsSomeType r l t → IsOp r l o) (an_operand m t) _ (operand_says t)
      (λ x. skip_says (λ r l o. IsOperand t r l x → IsSomeType r l t → IsOp r l o) (a_sign m.text (codes ",")) _
      (λ _. then_says (IsOperand t) (λ r l o. IsOperand t r l x → IsSomeType r l t → IsOp r l o) (an_operand m t) _ (operand_says t)
      (λ y. done_says (λ r l o. IsOperand t r l y → IsOperand t r l x → IsSomeType r l t → IsOp r l o) (op.Compare p t x y) (λ r l e f g. rw (g, f, e) refl)))))))

  pub freeze_says : Says IsOp (freeze m)
  unfolding freeze
  freeze_says = then_says IsSomeType IsOp (some_type m) _ some_type_says (λ t. then_says (IsOperand t) (λ r l o. IsSomeType r l t → IsOp r l o) (an_operand m t) _ (operand_says t)
      (λ x. done_says (λ r l o. IsOperand t r l x → IsSomeType r l t → IsOp r l o) (op.Freeze t x) (λ r l e f. rw (f, e) refl)))

  pub select_says : Says IsOp (select m)
  unfolding select
  select_says = skip_says IsOp (a_word m.text (codes "i1")) _ (λ _. then_says (IsOperand (ty.Int 1)) IsOp (an_operand m (ty.Int 1)) _ (operand_says (ty.Int 1))
      (λ x. skip_says (λ r l o. IsOperand (ty.Int 1) r l x → IsOp r l o) (a_sign m.text (codes ",")) _
      (λ _. then_says IsSomeType (λ r l o. IsOperand (ty.Int 1) r l x → IsOp r l o) (some_type m) _ some_type_says
      (λ t. then_says (IsOperand t) (λ r l o. IsSomeType r l t → IsOperand (ty.Int 1) r l x → IsOp r l o) (an_operand m t) _ (operand_says t)
      (λ y. skip_says (λ r l o. IsOperand t r l y → IsSomeType r l t → IsOperand (ty.Int 1) r l x → IsOp r l o) (a_sign m.text (codes ",")) _
      (λ _. skip_says (λ r l o. IsOperand t r l y → IsSomeType r l t → IsOperand (ty.Int 1) r l x → IsOp r l o) (checked (a_type m DEPTH) (must_be t)) _
      (λ _. then_says (IsOperand t) (λ r l o. IsOperand t r l y → IsSomeType r l t → IsOperand (ty.Int 1) r l x → IsOp r l o) (an_operand m t) _ (operand_says t)
      (λ z. done_says (λ r l o. IsOperand t r l z → IsOperand t r l y → IsSomeType r l t → IsOperand (ty.Int 1) r l x → IsOp r l o) (op.Select x t y z) (λ r l e f g h. rw (h, g, f, e) refl)))))))))

  -- ---- memory

  load_parts_says : (v : Bool) → Says IsOp (memory.load_parts m v)
  unfolding memory.load_parts
  load_parts_says v = then_says IsSomeType IsOp (some_type m) _ some_type_says (λ t. skip_says (λ r l o. IsSomeType r l t → IsOp r l o) (a_sign m.text (codes ",")) _
      (λ _. then_says (IsOperand ty.Ptr) (λ r l o. IsSomeType r l t → IsOp r l o) (a_pointer m) _ pointer_says
      (λ p. done_says (λ r l o. IsOperand ty.Ptr r l p → IsSomeType r l t → IsOp r l o) (op.Load v t p) (λ r l e f. rw (f, e) refl))))

  pub load_says : Says IsOp (memory.load m)
  unfolding memory.volatile_load
  load_says = if_next_says IsOp (memory.is_volatile m.text) (memory.volatile_load m) (memory.load_parts m false) (skip_says IsOp (a_word m.text (codes "volatile")) (λ _. memory.load_parts m true) (λ _. load_parts_says true)) (load_parts_says false)

  store_parts_says : (v : Bool) → Says IsOp (memory.store_parts m v)
  unfolding memory.store_parts
  store_parts_says v = then_says IsSomeType IsOp (some_type m) _ some_type_says (λ t. then_says (IsOperand t) (λ r l o. IsSomeType r l t → IsOp r l o) (an_operand m t) _ (operand_says t)
      (λ x. skip_says (λ r l o. IsOperand t r l x → IsSomeType r l t → IsOp r l o) (a_sign m.text (codes ",")) _
      (λ _. then_says (IsOperand ty.Ptr) (λ r l o. IsOperand t r l x → IsSomeType r l t → IsOp r l o) (a_pointer m) _ pointer_says
      (λ p. done_says (λ r l o. IsOperand ty.Ptr r l p → IsOperand t r l x → IsSomeType r l t → IsOp r l o) (op.Store v t x p) (λ r l e f g. rw (g, f, e) refl)))))

  pub store_says : Says IsOp (memory.store m)
  unfolding memory.volatile_store
  store_says = if_next_says IsOp (memory.is_volatile m.text) (memory.volatile_store m) (memory.store_parts m false) (skip_says IsOp (a_word m.text (codes "volatile")) (λ _. memory.store_parts m true) (λ _. store_parts_says true)) (store_parts_says false)

-- ---- what follows an operation

-- in a source nothing says that the partition made an instruction
unfoldable pub Unmarked : Role → Bool → Type 0
Unmarked Source b = b ≡ false
Unmarked Part b = Unit {0}

module _ (text : List ℕ) (role : Role) where
  abbrev pub IsMark : Bool → Type 0
  IsMark b = Unmarked role b

  pub no_mark : IsMark false
  unfolding Unmarked
  no_mark = go role
    where
      go : (x : Role) → Unmarked x false
      go Source = refl
      go Part = tt

  marked : (inserted kind node : Bool) → IsMark inserted → IsMark (inserted || marks role kind node)
  unfolding Unmarked
  marked inserted kind node k = go role inserted k
    where
      go : (x : Role) (i : Bool) → Unmarked x i → Unmarked x (i || marks x kind node)
      go Source false k = refl
      go Source true k = absurd (true≢false k)
      go Part i k = tt

  pub attachment_all : (inserted : Bool) → IsMark inserted → All IsMark (an_attachment text role inserted)
  unfolding an_attachment
  attachment_all inserted k = skip_all IsMark (plain (node_is text (codes "!no.x"))) _ (λ kind. skip_all IsMark (plain (node_is text (codes "!0"))) _ (λ node. done_all IsMark (inserted || marks role kind node) (marked inserted kind node k)))

  abbrev EndIs : Ending → Type 0
  EndIs e = IsMark e.inserted

  end_step_all : (e : Ending) → EndIs e → All EndIs (end_step text role e)
  unfolding end_step end_alignment end_attachment
  end_step_all e k = skip_all EndIs (a_sign text (codes ",")) _ (λ _. if_next_all EndIs (opens_alignment text e) (end_alignment text e) (end_attachment text role e)
      (skip_all EndIs (an_alignment text) _ (λ _. done_all EndIs (record { aligns = false; inserted = e.inserted }) k))
      (then_all IsMark EndIs (an_attachment text role e.inserted) _ (attachment_all e.inserted k) (λ i l. done_all EndIs (record { aligns = false; inserted = i }) l)))

  pub end_mark_all : (aligns : Bool) → All IsMark (end_mark text role aligns)
  unfolding end_mark
  end_mark_all aligns = then_all EndIs IsMark (ends text role (record { aligns = aligns; inserted = false })) _ (folded_all EndIs (is_comma text) (end_step text role) end_step_all (record { aligns = aligns; inserted = false }) no_mark) (λ e k. done_all IsMark e.inserted k)

  -- ---- items behind commas, and then attachments

  module _ {A : Type 0} (P : ℕ → ℕ → A → Type 0) (item : Rule Locals A) (h : Says P item) where
    abbrev pub AreListed : ℕ → ℕ → Listed A → Type 0
    AreListed r l x = Each (P r l) x.items × IsMark x.inserted

    list_item_says : (x : Listed A) → Says (λ r l y. AreListed r l x → AreListed r l y) (list_item item x)
    unfolding list_item
    list_item_says x = then_says P (λ r l y. AreListed r l x → AreListed r l y) item _ h
        (λ a. done_says (λ r l y. P r l a → AreListed r l x → AreListed r l y) (record { items = x.items ++ a ∷ []; begun = false; inserted = x.inserted }) (λ r l p k. (each_push (P r l) x.items a k.0 p, k.1)))

    list_attachment_says : (x : Listed A) → Says (λ r l y. AreListed r l x → AreListed r l y) (list_attachment text role x)
    unfolding list_attachment
    list_attachment_says x s t used y m =
        let e = stays_as s m.between m.in_front.1 in
        let d = m.in_back in
        (goes_on s m.between t e (stays_as m.between t d.2), λ r l z k. subst (AreListed r l) (sym d.1) (k.0, attachment_all x.inserted k.1 tt tt m.front m.first m.in_front.0))

    list_step_says : (x : Listed A) → Says (λ r l y. AreListed r l x → AreListed r l y) (list_step text role item x)
    unfolding list_step
    list_step_says x = skip_says (λ r l y. AreListed r l x → AreListed r l y) (a_sign text (codes ",")) _
        (λ _. if_next_says (λ r l y. AreListed r l x → AreListed r l y) (opens_item x) (list_item item x) (list_attachment text role x) (list_item_says x) (list_attachment_says x))

    pub listed_says : (x : Listed A) → Says (λ r l y. AreListed r l x → AreListed r l y) (listed text role item x)
    listed_says x = folded_says AreListed (is_comma text) (list_step text role item) list_step_says x

-- ---- operations with what follows them

module _ (m : Meaning) (c : Counts) (a : Agrees m c) (role : Role) where
  abbrev pub IsForm : ℕ → ℕ → Op × Bool → Type 0
  IsForm r l x = IsOp m c a r l x.0 × IsMark m.text role x.1

  pub finish_says : (aligns : Bool) (o : Op) → Says (λ r l x. IsOp m c a r l o → IsForm r l x) (finish m.text role aligns o)
  unfolding finish
  finish_says aligns o = then_says (λ r l. IsMark m.text role) (λ r l x. IsOp m c a r l o → IsForm r l x) (lift (end_mark m.text role aligns)) _ (lift_says (IsMark m.text role) (end_mark m.text role aligns) (end_mark_all m.text role aligns))
      (λ i. done_says (λ r l x. IsMark m.text role i → IsOp m c a r l o → IsForm r l x) (o, i) (λ r l e f. (f, e)))

  pub ended_says : (aligns : Bool) (form : Rule Locals Op) → Says (IsOp m c a) form → Says IsForm (ended m.text role aligns form)
  ended_says aligns form h = then_says (IsOp m c a) IsForm form (finish m.text role aligns) h (finish_says aligns)

  -- ---- `getelementptr`, `alloca`

  integers_true : (r l : ℕ) (xs : List (ℕ × Operand)) → Each (IsInteger m c a r l) xs → list_all (integer_formed (W m c a r l)) xs ≡ true
  integers_true r l xs k = each_true (integer_formed (W m c a r l)) xs k

  pub address_says : Says IsForm (memory.address m role)
  unfolding memory.address_parts
  address_says = behind_says IsForm (is_flag m.text) (memory.address_parts m role) (then_says (IsSomeType m c a) IsForm (some_type m) _ (some_type_says m c a)
      (λ t. skip_says (λ r l x. IsSomeType m c a r l t → IsForm r l x) (a_sign m.text (codes ",")) _
      (λ _. then_says (IsOperand m c a ty.Ptr) (λ r l x. IsSomeType m c a r l t → IsForm r l x) (a_pointer m) _ (pointer_says m c a)
      (λ p. skip_says (λ r l x. IsOperand m c a ty.Ptr r l p → IsSomeType m c a r l t → IsForm r l x) (a_sign m.text (codes ",")) _
      (λ _. then_says (IsInteger m c a) (λ r l x. IsOperand m c a ty.Ptr r l p → IsSomeType m c a r l t → IsForm r l x) (sized_operand m) _ (sized_says m c a)
      (λ i. then_says (λ r l y. AreListed m.text role (IsInteger m c a) (sized_operand m) (sized_says m c a) r l (record { items = i ∷ []; begun = false; inserted = false }) → AreListed m.text role (IsInteger m c a) (sized_operand m) (sized_says m c a) r l y)
      (λ r l x. IsInteger m c a r l i → IsOperand m c a ty.Ptr r l p → IsSomeType m c a r l t → IsForm r l x)
      (listed m.text role (sized_operand m) (record { items = i ∷ []; begun = false; inserted = false })) _ (listed_says m.text role (IsInteger m c a) (sized_operand m) (sized_says m c a) (record { items = i ∷ []; begun = false; inserted = false }))
      (λ all. done_says (λ r l x. (AreListed m.text role (IsInteger m c a) (sized_operand m) (sized_says m c a) r l (record { items = i ∷ []; begun = false; inserted = false }) → AreListed m.text role (IsInteger m c a) (sized_operand m) (sized_says m c a) r l all) → IsInteger m c a r l i → IsOperand m c a ty.Ptr r l p → IsSomeType m c a r l t → IsForm r l x)
      (op.Gep t p all.items, all.inserted) (λ r l e f g h. let k = e ((f, tt), no_mark m.text role) in (rw (h, g, integers_true r l all.items k.0) refl, k.1)))))))))
