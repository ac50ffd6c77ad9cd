-- Forms read by their parts: what is read part by part is what is read with neighbouring parts grouped.
use Rattle.std.proofs.Common.{◌≡◌, ℕ, Bool, false, List, [], ◌∷◌, Some, Result, Ok, Err, codes, refl, sym, ◌∙◌}
use Rattle.no_lex.specs.declared.token.Token.{Token}
use Rattle.no_ir.specs.declared.function.Role.{Role}
use Rattle.no_ir.specs.declared.types.Ty.{Ty}
use Rattle.no_ir.specs.declared.types.Ty.TheVariants as ty
use Rattle.no_ir.specs.declared.instruction.BinOp.{BinOp}
use Rattle.no_ir.specs.declared.instruction.CastOp.{CastOp}
use Rattle.no_ir.specs.declared.instruction.Operand.{Operand}
use Rattle.no_ir.specs.declared.instruction.Op.TheVariants as op
use Rattle.no_read_rules.specs.declared.fault.Stopped.{Stopped}
use Rattle.no_read_rules.specs.Repeated.{repeat}
use Rattle.no_read_rules.specs.Rules.{Rule, after, plain, lift, checked}
use Rattle.no_read_rules.specs.Scope.{Meaning}
use Rattle.no_read_constants.specs.Places.{width_of, number_at}
use Rattle.no_read_registers.specs.declared.locals.Locals.{Locals}
use Rattle.no_read_registers.specs.Numbered.{a_label}
use Rattle.no_read_operations.specs.declared.ends.Listed.{Listed}
use Rattle.no_read_operations.specs.Ends.{listed, some_listed}
use Rattle.no_read_operations.specs.Operands.{word, sign, some_type, this_type, a_width, an_operand, a_pointer, sized_operand, typed_operand, two_operands, bit_operand, comma_same, to_type, comma_pointer, comma_label}
use Rattle.no_read_operations.specs.Simple.{pred_of, binary_parts, cast_parts, compare_parts, freeze, select}
use Rattle.no_read_operations.specs.Memory.{load_parts, store_parts, all_indices, address_parts}
use Rattle.no_read_operations.specs.Flow.{return_value, branch_if, same_width, a_case, more_case, all_cases, switch, a_pair, phi}

-- one reading behind another: the order of grouping doesn't matter
after_after : {A B C : Type 0} (r : Result A Stopped) (f : A → Result B Stopped) (g : B → Result C Stopped) → after (after r f) g ≡ after r (λ x. after (f x) g)
after_after (Ok x) f g = refl
after_after (Err e) f g = refl

under : {A B : Type 0} (r : Result A Stopped) (f g : A → Result B Stopped) → ((x : A) → f x ≡ g x) → after r f ≡ after r g
under (Ok x) f g h = h x
under (Err e) f g h = refl

abbrev Read : Type 0 → Type 0
Read A = Result (A × Locals × List Token) Stopped

abbrev Then : Type 0 → Type 0 → Type 0
Then A B = A × Locals × List Token → Read B

module _ (m : Meaning) {B : Type 0} (s : Locals) (tokens : List Token) where
  typed_grouped : (k : Then (Ty × Operand) B) → after ((typed_operand m).read s tokens) k ≡ after ((some_type m).read s tokens) (λ x. after ((an_operand m x.0).read x.1 x.2) (λ y. k ((x.0, y.0), y.1, y.2)))
  unfolding typed_operand
  typed_grouped k = after_after ((some_type m).read s tokens) _ k ∙ under ((some_type m).read s tokens) _ _ (λ x. after_after ((an_operand m x.0).read x.1 x.2) _ k)

  two_grouped : (of : Ty) (k : Then (Operand × Operand) B) → after ((two_operands m of).read s tokens) k ≡ after ((an_operand m of).read s tokens) (λ x. after ((sign m.text (codes ",")).read x.1 x.2) (λ y. after ((an_operand m of).read y.1 y.2) (λ z. k ((x.0, z.0), z.1, z.2))))
  unfolding two_operands
  two_grouped of k = after_after ((an_operand m of).read s tokens) _ k ∙ under ((an_operand m of).read s tokens) _ _ (λ x. after_after ((sign m.text (codes ",")).read x.1 x.2) _ k
      ∙ under ((sign m.text (codes ",")).read x.1 x.2) _ _ (λ y. after_after ((an_operand m of).read y.1 y.2) _ k))

  bit_grouped : (k : Then Operand B) → after ((bit_operand m).read s tokens) k ≡ after ((word m.text (codes "i1")).read s tokens) (λ x. after ((an_operand m (ty.Int 1)).read x.1 x.2) k)
  unfolding bit_operand
  bit_grouped k = after_after ((word m.text (codes "i1")).read s tokens) _ k

  same_grouped : (of : Ty) (k : Then Operand B) → after ((comma_same m of).read s tokens) k ≡ after ((sign m.text (codes ",")).read s tokens) (λ x. after ((this_type m of).read x.1 x.2) (λ y. after ((an_operand m of).read y.1 y.2) k))
  unfolding comma_same
  same_grouped of k = after_after ((sign m.text (codes ",")).read s tokens) _ k ∙ under ((sign m.text (codes ",")).read s tokens) _ _ (λ x. after_after ((this_type m of).read x.1 x.2) _ k)

  to_grouped : (k : Then Ty B) → after ((to_type m).read s tokens) k ≡ after ((word m.text (codes "to")).read s tokens) (λ x. after ((some_type m).read x.1 x.2) k)
  unfolding to_type
  to_grouped k = after_after ((word m.text (codes "to")).read s tokens) _ k

  pointer_grouped : (k : Then Operand B) → after ((comma_pointer m).read s tokens) k ≡ after ((sign m.text (codes ",")).read s tokens) (λ x. after ((a_pointer m).read x.1 x.2) k)
  unfolding comma_pointer
  pointer_grouped k = after_after ((sign m.text (codes ",")).read s tokens) _ k

  label_grouped : (k : Then ℕ B) → after ((comma_label m.text).read s tokens) k ≡ after ((sign m.text (codes ",")).read s tokens) (λ x. after ((a_label m.text).read x.1 x.2) k)
  unfolding comma_label
  label_grouped k = after_after ((sign m.text (codes ",")).read s tokens) _ k

  cases_grouped : (width : ℕ) (k : Then (List (ℕ × ℕ)) B) → after ((all_cases m width).read s tokens) k ≡ after ((sign m.text (codes "[")).read s tokens) (λ x. after ((repeat (more_case m width)).read x.1 x.2) k)
  unfolding all_cases
  cases_grouped width k = after_after ((sign m.text (codes "[")).read s tokens) _ k

  listed_grouped : {A : Type 0} (role : Role) (item : Rule Locals A) (k : Then (Listed A) B) → after ((some_listed m.text role item).read s tokens) k
      ≡ after (item.read s tokens) (λ x. after ((listed m.text role item (record { items = x.0 ∷ []; begun = false; inserted = false })).read x.1 x.2) k)
  unfolding some_listed
  listed_grouped role item k = after_after (item.read s tokens) _ k

module _ (m : Meaning) {B : Type 0} (s : Locals) (tokens : List Token) where
  indices_grouped : (role : Role) (k : Then (Listed (ℕ × Operand)) B) → after ((all_indices m role).read s tokens) k
      ≡ after ((sign m.text (codes ",")).read s tokens) (λ x. after ((sized_operand m).read x.1 x.2) (λ y. after ((listed m.text role (sized_operand m) (record { items = y.0 ∷ []; begun = false; inserted = false })).read y.1 y.2) k))
  unfolding all_indices
  indices_grouped role k = after_after ((sign m.text (codes ",")).read s tokens) _ k ∙ under ((sign m.text (codes ",")).read s tokens) _ _ (λ x. listed_grouped m x.1 x.2 role (sized_operand m) k)

module _ (m : Meaning) (s : Locals) (tokens : List Token) where
  pub binary_is : (b : BinOp) → (binary_parts m b).read s tokens ≡ after ((a_width m).read s tokens) (λ w. after ((two_operands m (ty.Int w.0)).read w.1 w.2) (λ p. Ok (op.Binary b w.0 p.0.0 p.0.1, p.1, p.2)))
  unfolding binary_parts
  binary_is b = under ((a_width m).read s tokens) _ _ (λ w. sym (two_grouped m w.1 w.2 (ty.Int w.0) (λ p. Ok (op.Binary b w.0 p.0.0 p.0.1, p.1, p.2))))

  pub cast_is : (c : CastOp) → (cast_parts m c).read s tokens ≡ after ((typed_operand m).read s tokens) (λ p. after ((to_type m).read p.1 p.2) (λ t. Ok (op.Cast c p.0.0 p.0.1 t.0, t.1, t.2)))
  unfolding cast_parts
  cast_is c = sym (typed_grouped m s tokens (λ p. after ((to_type m).read p.1 p.2) (λ t. Ok (op.Cast c p.0.0 p.0.1 t.0, t.1, t.2)))
      ∙ under ((some_type m).read s tokens) _ _ (λ x. under ((an_operand m x.0).read x.1 x.2) _ _ (λ y. to_grouped m y.1 y.2 (λ t. Ok (op.Cast c x.0 y.0 t.0, t.1, t.2)))))

  pub compare_is : (compare_parts m).read s tokens ≡ after ((lift (plain (pred_of m.text))).read s tokens) (λ c. after ((some_type m).read c.1 c.2) (λ t. after ((two_operands m t.0).read t.1 t.2) (λ p. Ok (op.Compare c.0 t.0 p.0.0 p.0.1, p.1, p.2))))
  unfolding compare_parts
  compare_is = under ((lift (plain (pred_of m.text))).read s tokens) _ _ (λ c. under ((some_type m).read c.1 c.2) _ _ (λ t. sym (two_grouped m t.1 t.2 t.0 (λ p. Ok (op.Compare c.0 t.0 p.0.0 p.0.1, p.1, p.2)))))

  pub freeze_is : (freeze m).read s tokens ≡ after ((typed_operand m).read s tokens) (λ p. Ok (op.Freeze p.0.0 p.0.1, p.1, p.2))
  unfolding freeze
  freeze_is = sym (typed_grouped m s tokens (λ p. Ok (op.Freeze p.0.0 p.0.1, p.1, p.2)))

  pub select_is : (select m).read s tokens ≡ after ((bit_operand m).read s tokens) (λ c. after ((sign m.text (codes ",")).read c.1 c.2) (λ n. after ((typed_operand m).read n.1 n.2) (λ p. after ((comma_same m p.0.0).read p.1 p.2) (λ o. Ok (op.Select c.0 p.0.0 p.0.1 o.0, o.1, o.2)))))
  unfolding select
  select_is = sym (bit_grouped m s tokens (λ c. after ((sign m.text (codes ",")).read c.1 c.2) (λ n. after ((typed_operand m).read n.1 n.2) (λ p. after ((comma_same m p.0.0).read p.1 p.2) (λ o. Ok (op.Select c.0 p.0.0 p.0.1 o.0, o.1, o.2)))))
      ∙ under ((word m.text (codes "i1")).read s tokens) _ _ (λ w. under ((an_operand m (ty.Int 1)).read w.1 w.2) _ _ (λ c. under ((sign m.text (codes ",")).read c.1 c.2) _ _ (λ n.
      typed_grouped m n.1 n.2 (λ p. after ((comma_same m p.0.0).read p.1 p.2) (λ o. Ok (op.Select c.0 p.0.0 p.0.1 o.0, o.1, o.2)))
      ∙ under ((some_type m).read n.1 n.2) _ _ (λ t. under ((an_operand m t.0).read t.1 t.2) _ _ (λ v. same_grouped m v.1 v.2 t.0 (λ o. Ok (op.Select c.0 t.0 v.0 o.0, o.1, o.2))))))))

  pub load_is : (v : Bool) → (load_parts m v).read s tokens ≡ after ((some_type m).read s tokens) (λ t. after ((comma_pointer m).read t.1 t.2) (λ p. Ok (op.Load v t.0 p.0, p.1, p.2)))
  unfolding load_parts
  load_is v = under ((some_type m).read s tokens) _ _ (λ t. sym (pointer_grouped m t.1 t.2 (λ p. Ok (op.Load v t.0 p.0, p.1, p.2))))

  pub store_is : (v : Bool) → (store_parts m v).read s tokens ≡ after ((typed_operand m).read s tokens) (λ t. after ((comma_pointer m).read t.1 t.2) (λ p. Ok (op.Store v t.0.0 t.0.1 p.0, p.1, p.2)))
  unfolding store_parts
  store_is v = sym (typed_grouped m s tokens (λ t. after ((comma_pointer m).read t.1 t.2) (λ p. Ok (op.Store v t.0.0 t.0.1 p.0, p.1, p.2)))
      ∙ under ((some_type m).read s tokens) _ _ (λ x. under ((an_operand m x.0).read x.1 x.2) _ _ (λ y. pointer_grouped m y.1 y.2 (λ p. Ok (op.Store v x.0 y.0 p.0, p.1, p.2)))))

  pub address_is : (role : Role) → (address_parts m role).read s tokens
      ≡ after ((some_type m).read s tokens) (λ t. after ((comma_pointer m).read t.1 t.2) (λ p. after ((all_indices m role).read p.1 p.2) (λ all. Ok ((op.Gep t.0 p.0 all.0.items, all.0.inserted), all.1, all.2))))
  unfolding address_parts
  address_is role = under ((some_type m).read s tokens) _ _ (λ t. sym (pointer_grouped m t.1 t.2 (λ p. after ((all_indices m role).read p.1 p.2) (λ all. Ok ((op.Gep t.0 p.0 all.0.items, all.0.inserted), all.1, all.2)))
      ∙ under ((sign m.text (codes ",")).read t.1 t.2) _ _ (λ n. under ((a_pointer m).read n.1 n.2) _ _ (λ p. indices_grouped m p.1 p.2 role (λ all. Ok ((op.Gep t.0 p.0 all.0.items, all.0.inserted), all.1, all.2))))))

  pub return_is : (return_value m).read s tokens ≡ after ((typed_operand m).read s tokens) (λ p. Ok (op.Ret (Some p.0), p.1, p.2))
  unfolding return_value
  return_is = sym (typed_grouped m s tokens (λ p. Ok (op.Ret (Some p.0), p.1, p.2)))

  pub branch_is : (branch_if m).read s tokens ≡ after ((bit_operand m).read s tokens) (λ c. after ((comma_label m.text).read c.1 c.2) (λ l. after ((comma_label m.text).read l.1 l.2) (λ r. Ok (op.CondBr c.0 l.0 r.0, r.1, r.2))))
  unfolding branch_if
  branch_is = sym (bit_grouped m s tokens (λ c. after ((comma_label m.text).read c.1 c.2) (λ l. after ((comma_label m.text).read l.1 l.2) (λ r. Ok (op.CondBr c.0 l.0 r.0, r.1, r.2))))
      ∙ under ((word m.text (codes "i1")).read s tokens) _ _ (λ w. under ((an_operand m (ty.Int 1)).read w.1 w.2) _ _ (λ c. label_grouped m c.1 c.2 (λ l. after ((comma_label m.text).read l.1 l.2) (λ r. Ok (op.CondBr c.0 l.0 r.0, r.1, r.2)))
      ∙ under ((sign m.text (codes ",")).read c.1 c.2) _ _ (λ n. under ((a_label m.text).read n.1 n.2) _ _ (λ l. label_grouped m l.1 l.2 (λ r. Ok (op.CondBr c.0 l.0 r.0, r.1, r.2)))))))

  pub case_is : (width : ℕ) → (a_case m width).read s tokens ≡ after ((lift (checked (plain (width_of m.text)) (same_width width))).read s tokens) (λ w. after ((lift (plain (number_at m.text width))).read w.1 w.2) (λ n. after ((comma_label m.text).read n.1 n.2) (λ l. Ok ((n.0, l.0), l.1, l.2))))
  unfolding a_case
  case_is width = under ((lift (checked (plain (width_of m.text)) (same_width width))).read s tokens) _ _ (λ w. under ((lift (plain (number_at m.text width))).read w.1 w.2) _ _ (λ n. sym (label_grouped m n.1 n.2 (λ l. Ok ((n.0, l.0), l.1, l.2)))))

  pub switch_is : (switch m).read s tokens
      ≡ after ((a_width m).read s tokens) (λ w. after ((an_operand m (ty.Int w.0)).read w.1 w.2) (λ v. after ((comma_label m.text).read v.1 v.2) (λ l. after ((all_cases m w.0).read l.1 l.2) (λ c. Ok (op.Switch w.0 v.0 l.0 c.0, c.1, c.2)))))
  unfolding switch
  switch_is = under ((a_width m).read s tokens) _ _ (λ w. under ((an_operand m (ty.Int w.0)).read w.1 w.2) _ _ (λ v. sym (label_grouped m v.1 v.2 (λ l. after ((all_cases m w.0).read l.1 l.2) (λ c. Ok (op.Switch w.0 v.0 l.0 c.0, c.1, c.2)))
      ∙ under ((sign m.text (codes ",")).read v.1 v.2) _ _ (λ n. under ((a_label m.text).read n.1 n.2) _ _ (λ l. cases_grouped m l.1 l.2 w.0 (λ c. Ok (op.Switch w.0 v.0 l.0 c.0, c.1, c.2)))))))

  pub phi_is : (role : Role) → (phi m role).read s tokens ≡ after ((some_type m).read s tokens) (λ t. after ((some_listed m.text role (a_pair m t.0)).read t.1 t.2) (λ all. Ok ((op.Phi t.0 all.0.items, all.0.inserted), all.1, all.2)))
  unfolding phi
  phi_is role = under ((some_type m).read s tokens) _ _ (λ t. sym (listed_grouped m t.1 t.2 role (a_pair m t.0) (λ all. Ok ((op.Phi t.0 all.0.items, all.0.inserted), all.1, all.2))))
