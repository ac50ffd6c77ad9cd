-- The laws of calls.
use Rattle.std.proofs.Common.{◌≡◌, ℕ, suc, zero, ◌<◌, Bool, true, false, ◌&&◌, ◌||◌, ◌==◌, ◌⊎◌, inl, inr, List, [], ◌∷◌, ◌++◌, length, bytes_eq, codes, Option, Some, None, is_some, Result, Ok, Err, refl, sym, ap, subst, ◌∙◌}
use Rattle.std.specs.Cmp.Lexicographic.{same_text}
use Rattle.no_lex.specs.declared.token.Token.{Token}
use Rattle.no_lex.specs.declared.token.TokenKind.{TokenKind}
use Rattle.no_lex.specs.declared.token.TokenKind.TheVariants as kind
use Rattle.no_ir.specs.declared.function.Role.{Role}
use Rattle.no_ir.specs.declared.types.Ty.{Ty}
use Rattle.no_ir.specs.declared.types.Ty.TheVariants as ty
use Rattle.no_ir.specs.declared.instruction.Operand.{Operand}
use Rattle.no_ir.specs.declared.instruction.Instr.{Instr}
use Rattle.no_read_rules.specs.declared.fault.Stop.{Stop}
use Rattle.no_read_rules.specs.declared.fault.Stop.TheVariants as stop
use Rattle.no_read_rules.specs.declared.fault.Stopped.{Stopped}
use Rattle.no_read_rules.specs.Rules.{Rule, Fails, after, passed, plain, done, lift, lift_value, next_is, none, Avoids, Good, IsSolid, ◌>>=◌}
use Rattle.no_read_rules.specs.Repeated.{repeat_all, with_front}
use Rattle.no_read_rules.specs.Scope.{Meaning}
use Rattle.no_read_rules.specs.Lists.{more_item}
use Rattle.no_read_rules.specs.Spelled.{kind_number, is_word, spelled}
use Rattle.no_read_rules.proofs.Laws.{from_ok, plain_good, plain_solid, done_good, change_good, lift_good, lift_solid, then_good, follow_good, first_solid, if_next_good, if_next_solid}
use Rattle.no_read_rules.proofs.ListLaws.{items_good, more_good, more_solid}
use Rattle.no_read_rules.proofs.Repeats as repeats
use Rattle.no_read_attributes.specs.declared.attribute.Attribute.{Attribute}
use Rattle.no_read_attributes.specs.Attributes.{begins_by, all_attributes, all_go_on, may_go_on, skip_attributes}
use Rattle.no_read_attributes.specs.Ending.{Ends}
use Rattle.no_read_attributes.proofs.AttributeLaws.{all_ends, all_good, skip_good}
use Rattle.no_read_attributes.proofs.EndLaws.{ahead_good, ahead_solid}
use Rattle.no_read_registers.specs.declared.locals.Locals.{Locals}
use Rattle.no_read_registers.specs.Numbered.{register_unnamed}
use Rattle.no_read_operations.specs.Folded.{AreSteps}
use Rattle.no_read_operations.specs.Operands.{an_operand}
use Rattle.no_read_operations.specs.Ends.{is_comma, end_step, end_mark}
use Rattle.no_read_operations.proofs.FoldedLaws.{last_good}
use Rattle.no_read_operations.proofs.FormLaws.{sign_good, some_type_good, some_type_solid, operand_good, operand_solid, end_mark_good}
use Rattle.no_read_instructions.specs.Calls.{result_of, behind_attributes, an_argument, call_parts, void_of, void_call, typed_call, call_type, call_form}
use Rattle.no_read_instructions.specs.Instructions.{instr_goes_on}

-- ---- attributes in front

lifted_stops : (text : List ℕ) (s : Locals) (tokens : List Token) (r : Result (List Attribute × Unit {0} × List Token) Stopped) (x : List Attribute × Locals × List Token) → (all_attributes text).read tt tokens ≡ r → lift_value s r ≡ Ok x → Avoids (all_go_on text x.0) x.2
lifted_stops text s tokens (Ok y) x is e = subst (λ (z : List Attribute × Locals × List Token). Avoids (all_go_on text z.0) z.2) (from_ok (y.0, s, y.2) x e) ((all_ends text).stops tt tokens y is)
lifted_stops text s tokens (Err d) x is e = absurd cc

lifted_ends : (text : List ℕ) → Ends {S = Locals} (all_go_on text) (lift (all_attributes text))
lifted_ends text = record {
  found = (lift_good (may_go_on text) (all_attributes text) (all_good text)).found;
  stops = λ s tokens x e. lifted_stops text s tokens ((all_attributes text).read tt tokens) x refl e;
  only = λ s t used rest a m av. rw ((all_ends text).only tt tt used rest a m.0 av, m.1) refl;
}

module _ {A : Type 0} (text : List ℕ) (p : Rule Locals A) where
  pub attributed_good : (g : Token → Bool) → Good g p → IsSolid p → Good g (behind_attributes text p)
  attributed_good g l solid = ahead_good (all_go_on text) g (lift (all_attributes text)) (λ all. p) (lifted_ends text) (λ all. l) (λ all. solid)

  pub attributed_solid : IsSolid p → IsSolid (behind_attributes text p)
  attributed_solid solid = ahead_solid (all_go_on text) (lift (all_attributes text)) (λ all. p) (λ all. solid)

  pub behind_reads : (s : Locals) (tokens rest : List Token) → (skip_attributes text).read tt tokens ≡ Ok (passed rest) → (behind_attributes text p).read s tokens ≡ p.read s rest
  behind_reads s tokens rest e = go ((all_attributes text).read tt tokens) e
    where
      go : (r : Result (List Attribute × Unit {0} × List Token) Stopped) → after r (λ x. (done {S = Unit {0}} tt).read x.1 x.2) ≡ Ok (passed rest) → after (lift_value s r) (λ x. p.read x.1 x.2) ≡ p.read s rest
      go (Ok y) e = ap (λ (z : Unit {0} × Unit {0} × List Token). p.read s z.2) (from_ok (tt, y.1, y.2) (passed rest) e)
      go (Err d) e = absurd cc

  fault_stays : (d : Stopped) (s : Locals) (r : Result (List Attribute × Unit {0} × List Token) Stopped) → after {B = Unit {0} × Unit {0} × List Token} r (λ x. (done {S = Unit {0}} {A = Unit {0}} tt).read x.1 x.2) ≡ Err d → after (lift_value s r) (λ x. p.read x.1 x.2) ≡ Err d
  fault_stays d s (Ok y) e = absurd cc
  fault_stays d s (Err k) e = cc

  pub behind_fails : (e : Stop) (s : Locals) (tokens : List Token) → Fails e ((skip_attributes text).read tt tokens) → Fails e ((behind_attributes text p).read s tokens)
  behind_fails stop.NoMemory s tokens f = tt
  behind_fails (stop.Fault d) s tokens f = fault_stays d s ((all_attributes text).read tt tokens) f

-- ---- arguments

pub argument_good : (m : Meaning) → Good none (an_argument m)
unfolding an_argument
argument_good m = then_good none _ _ (some_type_good m) (λ of. then_good none _ _ (attributed_good m.text (an_operand m of) none (operand_good m of) (operand_solid m of)) (λ v. done_good none _))

pub argument_solid : (m : Meaning) → IsSolid (an_argument m)
unfolding an_argument
argument_solid m = first_solid _ _ (some_type_solid m)

module _ (m : Meaning) where
  abbrev step : Rule Locals (Option (Ty × Operand))
  step = more_item m.text (codes ")") (an_argument m)

  abbrev Total : Type 0
  Total = Result (List (Ty × Operand) × Locals × List Token) Stopped

  step_good : Good none step
  step_good = more_good m.text (codes ")") (an_argument m) (argument_good m)

  step_solid : IsSolid step
  step_solid = more_solid m.text (codes ")") (an_argument m)

  pub arguments_fail : (e : Stop) (front : List (Ty × Operand)) (s : Locals) (tokens : List Token) (total : Total) → Fails e (step.read s tokens) → with_front front (repeat_all step s tokens) ≡ total → Fails e total
  arguments_fail e front s tokens total f so_far = repeats.fails none step step_good step_solid e front s tokens total f so_far

  pub arguments_stop : (front : List (Ty × Operand)) (s t : Locals) (tokens rest : List Token) (o : Option (Ty × Operand)) (total : Total) → step.read s tokens ≡ Ok (o, t, rest) → o ≡ None
      → with_front front (repeat_all step s tokens) ≡ total → total ≡ Ok (front, t, rest)
  arguments_stop front s t tokens rest o total e is so_far = repeats.stops none step step_good step_solid front s t tokens rest o total e is so_far

  pub arguments_fall : (s t : Locals) (tokens rest : List Token) (o : Option (Ty × Operand)) → step.read s tokens ≡ Ok (o, t, rest) → length rest < length tokens
  arguments_fall s t tokens rest o e = repeats.shorter none step step_good step_solid s t tokens rest o e

  pub arguments_go : (front : List (Ty × Operand)) (s t : Locals) (tokens aft : List Token) (o : Option (Ty × Operand)) (a : Ty × Operand) (total : Total) → step.read s tokens ≡ Ok (o, t, aft) → o ≡ Some a
      → with_front front (repeat_all step s tokens) ≡ total → with_front (front ++ a ∷ []) (repeat_all step t aft) ≡ total
  arguments_go front s t tokens aft o a total e is so_far = repeats.goes_on none step step_good step_solid front s t tokens aft o a total e is so_far

-- ---- the end of a call

either : (a b : Bool) → (a || b) ≡ false → (a ≡ false) × (b ≡ false)
either true b e = absurd cc
either false b e = (refl, e)

pub widen : {S A : Type 0} (g h : Token → Bool) (p : Rule S A) → ((t : Token) → h t ≡ false → g t ≡ false) → Good g p → Good h p
widen {S} {A} g h p less l = record { found = l.found; only = λ s t used rest a m av. l.only s t used rest a m (avoids rest av) }
  where
    avoids : (rest : List Token) → Avoids h rest → Avoids g rest
    avoids [] av = refl
    avoids (t ∷ ts) av = less t av

pub comma_less : (text : List ℕ) (t : Token) → instr_goes_on text t ≡ false → is_comma text t ≡ false
comma_less text t e = (either (is_comma text t) (may_go_on text t) e).0

attributes_less : (text : List ℕ) (rest : List Token) → Avoids (instr_goes_on text) rest → Avoids (may_go_on text) rest
attributes_less text [] av = refl
attributes_less text (t ∷ ts) av = (either (is_comma text t) (may_go_on text t) av).1

-- a comma is nothing that attributes go on with
comma_apart : (text : List ℕ) (t : Token) → is_comma text t ≡ true → may_go_on text t ≡ false
comma_apart text t e = go t.kind (spelled text t) e
  where
    sign : (spelling : List ℕ) → bytes_eq spelling (codes ",") ≡ true → (bytes_eq spelling (codes "(") || bytes_eq spelling (codes "=")) ≡ false
    sign spelling e = subst (λ s. (bytes_eq s (codes "(") || bytes_eq s (codes "=")) ≡ false) (sym (same_text spelling (codes ",") (sym e))) refl

    go : (k : TokenKind) (spelling : List ℕ) → (kind_number k == 8 && bytes_eq spelling (codes ",")) ≡ true
        → (begins_by k spelling || kind_number k == 1 || (kind_number k == 8 && bytes_eq spelling (codes "(")) || (kind_number k == 8 && bytes_eq spelling (codes "="))) ≡ false
    go kind.Sign spelling e = sign spelling e
    go kind.Word spelling e = absurd cc
    go kind.Integer spelling e = absurd cc
    go kind.Global spelling e = absurd cc
    go kind.Local spelling e = absurd cc
    go kind.Group spelling e = absurd cc
    go kind.Meta spelling e = absurd cc
    go kind.Quoted spelling e = absurd cc
    go kind.CMark spelling e = absurd cc
    go kind.Label spelling e = absurd cc

begun : (test : Token → Bool) (front back : List Token) → next_is test front ≡ true → next_is test (front ++ back) ≡ true
begun test [] back e = absurd cc
begun test (t ∷ front) back e = e

-- the end of an instruction is empty, or begins with a comma
end_begins : (text : List ℕ) (role : Role) (used : List Token) (inserted : Bool) → (end_mark text role false).means tt used inserted tt → (used ≡ []) ⊎ (next_is (is_comma text) used ≡ true)
unfolding end_mark
end_begins text role used inserted m = go m.in_front.0 m.in_front.1
  where
    go : (n : ℕ) → AreSteps (is_comma text) (end_step text role) n tt m.front (record { aligns = false; inserted = false }) m.first m.between → (used ≡ []) ⊎ (next_is (is_comma text) used ≡ true)
    go zero k = inl (m.parts ∙ ap (λ (l : List Token). l ++ m.back) k.0 ∙ m.in_back.0)
    go (suc n) k = inr (ap (next_is (is_comma text)) m.parts ∙ begun (is_comma text) m.front m.back (ap (next_is (is_comma text)) k.parts ∙ begun (is_comma text) k.front k.back k.begins))

end_apart : (text : List ℕ) (used rest : List Token) → (used ≡ []) ⊎ (next_is (is_comma text) used ≡ true) → Avoids (instr_goes_on text) rest → Avoids (may_go_on text) (used ++ rest)
end_apart text used rest (inl e) av = subst (λ l. Avoids (may_go_on text) (l ++ rest)) (sym e) (attributes_less text rest av)
end_apart text [] rest (inr e) av = absurd cc
end_apart text (u ∷ used) rest (inr e) av = comma_apart text u e

-- ---- whole calls

pub result_good : (register : Option ℕ) → Good none (result_of register)
result_good (Some r) = done_good none r
result_good None = change_good none register_unnamed

parts_good : (m : Meaning) (role : Role) (of : Ty) (register : Option ℕ) → Good (instr_goes_on m.text) (call_parts m role of register)
unfolding call_parts
parts_good m role of register = then_good _ _ _ (operand_good m ty.Ptr) (λ callee. then_good _ _ _ (sign_good _ _) (λ _. then_good _ _ _ (items_good m.text (codes ")") (an_argument m) (argument_good m) (argument_solid m)) (λ arguments.
    follow_good (may_go_on m.text) _ _ _ (lift_good (may_go_on m.text) _ (skip_good m.text))
    (λ _. widen (is_comma m.text) _ _ (comma_less m.text) (last_good (is_comma m.text) _ _ (lift_good (is_comma m.text) _ (end_mark_good m.text role false))))
    (λ _ s t used rest b n av. end_apart m.text used rest (begins s t used b n) av))))
  where
    begins : (s t : Locals) (used : List Token) (b : Instr) → {f : Bool → Instr} → (lift (end_mark m.text role false) >>= λ inserted. done (f inserted)).means s used b t → (used ≡ []) ⊎ (next_is (is_comma m.text) used ≡ true)
    begins s t used b n = move used n.front n.back n.parts n.in_back.0 (end_begins m.text role n.front n.first n.in_front.0)
      where
        move : (used front back : List Token) → used ≡ front ++ back → back ≡ [] → (front ≡ []) ⊎ (next_is (is_comma m.text) front ≡ true) → (used ≡ []) ⊎ (next_is (is_comma m.text) used ≡ true)
        move used front back parts e (inl k) = inl (parts ∙ ap (λ (l : List Token). l ++ back) k ∙ e)
        move used front back parts e (inr k) = inr (ap (next_is (is_comma m.text)) parts ∙ begun (is_comma m.text) front back k)

void_good : (m : Meaning) (role : Role) (register : Option ℕ) → Good (instr_goes_on m.text) (void_call m role register)
unfolding void_call
void_good m role register = then_good _ _ _ (lift_good none _ (plain_good _)) (λ _. parts_good m role ty.Void None)

void_solid : (m : Meaning) (role : Role) (register : Option ℕ) → IsSolid (void_call m role register)
unfolding void_call
void_solid m role register = first_solid _ _ (lift_solid (plain (void_of m.text (is_some register))) (plain_solid (void_of m.text (is_some register))))

typed_good : (m : Meaning) (role : Role) (register : Option ℕ) → Good (instr_goes_on m.text) (typed_call m role register)
unfolding typed_call
typed_good m role register = then_good _ _ _ (some_type_good m) (λ of. then_good _ _ _ (result_good register) (λ r. last_id (parts_good m role of (Some r))))
  where
    last_id : {g : Token → Bool} {p : Rule Locals Instr} → Good g p → Good g (p >>= λ call. done call)
    last_id {g} {p} l = last_good g p (λ call. call) l

typed_solid : (m : Meaning) (role : Role) (register : Option ℕ) → IsSolid (typed_call m role register)
unfolding typed_call
typed_solid m role register = first_solid _ _ (some_type_solid m)

type_good : (m : Meaning) (role : Role) (register : Option ℕ) → Good (instr_goes_on m.text) (call_type m role register)
type_good m role register = if_next_good _ (is_word m.text (codes "void")) _ _ (void_good m role register) (typed_good m role register) (void_solid m role register) (typed_solid m role register)

type_solid : (m : Meaning) (role : Role) (register : Option ℕ) → IsSolid (call_type m role register)
type_solid m role register = if_next_solid (is_word m.text (codes "void")) (void_call m role register) (typed_call m role register) (void_solid m role register) (typed_solid m role register)

pub call_good : (m : Meaning) (role : Role) (register : Option ℕ) → Good (instr_goes_on m.text) (call_form m role register)
call_good m role register = attributed_good m.text (call_type m role register) (instr_goes_on m.text) (type_good m role register) (type_solid m role register)
