-- Control flow is read again behind its words.
use Rattle.std.proofs.Common.{◌≡◌, ℕ, suc, zero, ◌^◌, ◌<◌, ◌==◌, Bool, true, false, not, List, [], ◌∷◌, ◌++◌, codes, Some, None, Result, Ok, Err, if◌then◌else◌, inl, inr, refl, sym, ap, subst, ◌∙◌, append_assoc, arith}
use Rattle.std.specs.Fmt.{signed_decimal}
use Rattle.std.proofs.lemmas.Bool.{eqb-true}
use Rattle.no_lex.specs.declared.token.Token.{Token}
use Rattle.no_lex.specs.declared.token.TokenKind.TheVariants as kind
use Rattle.no_ir.specs.declared.function.Role.{Role}
use Rattle.no_ir.specs.declared.types.Ty.{Ty}
use Rattle.no_ir.specs.declared.types.Ty.TheVariants as ty
use Rattle.no_ir.specs.declared.instruction.Operand.{Operand}
use Rattle.no_ir.specs.declared.instruction.Op.{Op}
use Rattle.no_ir.specs.declared.instruction.Op.TheVariants as op
use Rattle.no_read_rules.specs.declared.fault.Flaw.{Flaw}
use Rattle.no_read_rules.specs.declared.fault.Flaw.TheVariants.{Syntax}
use Rattle.no_read_rules.specs.Repeated.{IsRepeated, repeat}
use Rattle.no_read_rules.specs.Rules.{Rule, plain, checked}
use Rattle.no_read_rules.specs.Scope.{Meaning}
use Rattle.no_read_rules.specs.Spelled.{spelled, is_kind, is_sign}
use Rattle.no_read_constants.specs.Places.{width_of, number_by, number_at}
use Rattle.no_read_registers.specs.declared.locals.Locals.{Locals}
use Rattle.no_read_operations.specs.Ends.{finish}
use Rattle.no_read_operations.specs.Flow.{return_void, return_value, ret, branch, branch_if, br, same_width, a_case, no_case, one_case, more_case, switch, a_pair, phi}
use Rattle.no_eval.specs.Numbers.{signed}
use Rattle.no_print.specs.Names.{name_at, local_name, int_type, number, truth}
use Rattle.no_print.specs.Pieces.{Piece, spaced, glued, comma, word, sign, piece, behind_commas}
use Rattle.no_print.specs.Constants.{type_at}
use Rattle.no_print.specs.Instructions.{inserted_pieces, operand_pieces, label, pair_pieces, case_pieces, op_pieces}
use Rattle.no_round_trip.specs.Spells.{AreBytes, Spells, TypeFits, TypesFit, over, spelled_by}
use Rattle.no_round_trip.proofs.RuleFrame.{plain_spells, checked_spells}
use Rattle.no_round_trip.proofs.WordNumbers.{integer_again}
use Rattle.no_round_trip.proofs.RuleOpening.{kept_value}
use Rattle.no_round_trip.proofs.ConstPlaces.{number_small, width_spells}
use Rattle.no_round_trip.proofs.RuleStanding.{Begins, begins, kind_tested, sign_tested}
use Rattle.no_round_trip.proofs.WordWidths.{IsWidth}
use Rattle.no_round_trip.proofs.WordWidths as widths
use Rattle.no_round_trip.specs.States.{named_by}
use Rattle.no_round_trip.proofs.BodyEnds.{finish_back}
use Rattle.no_round_trip.proofs.BodyForms.{OpBack, FormBack, one_bit}
use Rattle.no_round_trip.proofs.BodyLists.{listed_back}
use Rattle.no_round_trip.proofs.BodyOperands.{int_fits, word_first, word_back, sign_back, type_back, type_fits, type_not, width_read, width_back, operand_back, label_back}
use Rattle.no_round_trip.proofs.BodyRegisters.{label_name_again}
use Rattle.no_round_trip.proofs.BodyReturning.{Returns, ending, lifted, value_is, pieces_are, yes_returns, no_returns, end_returns, more_returns, then_returns, made_returns}

-- ---- numbers of cases

truth_spells : (text : List ℕ) (w n : ℕ) → w ≡ 1 → n < 2 → Spells {S = Unit {0}} text (plain (number_at text w)) tt (truth spaced n) n tt
truth_spells text w zero is h = plain_spells {S = Unit {0}} text (number_by w) tt (record { gap = spaced; kind = kind.Word; bytes = codes "false" }) zero (rw is refl)
truth_spells text w (suc zero) is h = plain_spells {S = Unit {0}} text (number_by w) tt (record { gap = spaced; kind = kind.Word; bytes = codes "true" }) (suc zero) (rw is refl)
truth_spells text w (suc (suc n)) is h = absurd (omega arith)

pub number_spells : (text : List ℕ) (w n : ℕ) → IsWidth w → n < 2 ^ w → Spells {S = Unit {0}} text (plain (number_at text w)) tt (number w spaced n) n tt
number_spells text w n width h = by (w == 1) refl
  where
    by : (b : Bool) → (w == 1) ≡ b → Spells {S = Unit {0}} text (plain (number_at text w)) tt (if b then truth spaced n else piece kind.Integer spaced (signed_decimal (signed w n))) n tt
    by true e = let is : w ≡ 1 = eqb-true w 1 e in truth_spells text w n is (let k : n < 2 ^ 1 = subst (λ v. n < 2 ^ v) is h in omega arith)
    by false e = plain_spells {S = Unit {0}} text (number_by w) tt (record { gap = spaced; kind = kind.Integer; bytes = signed_decimal (signed w n) }) n (integer_again w n width.some width.most h)

width_passes : (want w : ℕ) → same_width want w ≡ Ok tt → (w ≡ want) × (same_width want want ≡ Ok tt)
width_passes want w e = by (w == want) refl e
  where
    by : (b : Bool) → (w == want) ≡ b → (let r : Result (Unit {0}) Flaw = (if b then Ok tt else Err Syntax) in r) ≡ Ok tt → (w ≡ want) × (same_width want want ≡ Ok tt)
    by true is k = let same : w ≡ want = eqb-true w want is in (same, subst (λ v. same_width want v ≡ Ok tt) same e)
    by false is k = absurd cc

-- parts that stand behind one another, and what stands behind them all
regroup : (a b : Piece) (n l r i : List Piece) → (a ∷ (n ++ (b ∷ l))) ++ (r ++ i) ≡ (a ∷ (n ++ (b ∷ (l ++ r)))) ++ i
regroup a b n l r i = simp append_assoc

stretched : (a b g i : List Piece) → a ++ (b ++ (g ++ i)) ≡ (a ++ (b ++ g)) ++ i
stretched a b g i = simp append_assoc

module _ (m : Meaning) (text : List ℕ) (bytes : AreBytes m.text) (fit : TypesFit m.types) (last : Locals) where
  abbrev shown : Ty → Operand → List Piece
  shown = operand_pieces (spelled_by m) (named_by last)

  abbrev type_shown : Ty → List Piece
  type_shown = type_at (spelled_by m) spaced

  abbrev label_shown : ℕ → List Piece
  label_shown = label (spelled_by m) (named_by last)

  abbrev Back : Rule Locals Op → List ℕ → Op → Locals → Locals → Type 0
  Back = OpBack m text last

  -- ---- `ret`

  pub ret_back : (s t : Locals) (tokens : List Token) (o : Op) → (ret m).means s tokens o t → Back (ret (over m text)) (codes "ret") o s t
  unfolding return_void return_value
  ret_back s t tokens o (inl r) =
      subst (λ o. Back (ret (over m text)) (codes "ret") o s t) (sym r.1.in_back.1) (record {
        pieces = word spaced (codes "void");
        are = λ gap. refl;
        back = ending r.1.in_back.2 (yes_returns (word_first text spaced (codes "void") (codes "void") [] true refl) (made_returns (word_back m text bytes fit last spaced (codes "void") refl r.1.in_front.1)));
      })
  ret_back s t tokens o (inr r) =
      let k = r.1 in
      let x = k.in_back in
      let of : Ty = k.first in
      subst (λ o. Back (ret (over m text)) (codes "ret") o s t) (sym x.in_back.1) (record {
        pieces = type_shown of ++ shown of x.first;
        are = λ gap. refl;
        back = ending x.in_back.2
            (no_returns (type_not m text bytes fit last spaced (codes "void") s k.between k.front of (shown of x.first) (record { one = refl; byte = refl; short = refl; half = refl; full = refl; pointer = refl }) k.in_front)
            (then_returns (type_back m text bytes fit last spaced k.front of k.in_front)
            (made_returns (operand_back m text bytes fit last of (type_fits m text bytes fit last s k.between k.front of k.in_front) x.front x.first x.in_front))));
      })

  -- ---- `br`

  pub br_back : (s t : Locals) (tokens : List Token) (o : Op) → (br m).means s tokens o t → Back (br (over m text)) (codes "br") o s t
  unfolding branch branch_if
  br_back s t tokens o (inl r) =
      let l : ℕ = r.1.first in
      subst (λ o. Back (br (over m text)) (codes "br") o s t) (sym r.1.in_back.1) (record {
        pieces = label_shown l;
        are = λ gap. refl;
        back = ending r.1.in_back.2 (yes_returns (word_first text spaced (codes "label") (codes "label") (local_name spaced (name_at last.labels l)) true refl) (made_returns (label_back m text bytes fit last r.1.front l r.1.in_front)));
      })
  br_back s t tokens o (inr r) =
      let c = r.1.in_back in
      let x = c.in_back.in_back in
      let y = x.in_back.in_back in
      let rest : List Piece = shown (ty.Int 1) c.first ++ (comma ++ (label_shown x.first ++ (comma ++ label_shown y.first))) in
      subst (λ o. Back (br (over m text)) (codes "br") o s t) (sym y.in_back.1) (record {
        pieces = word spaced (codes "i1") ++ rest;
        are = λ gap. ap (λ w. word gap (codes "br") ++ (w ++ rest)) (one_bit spaced);
        back = ending y.in_back.2
            (no_returns (word_first text spaced (codes "i1") (codes "label") rest false refl)
            (then_returns (word_back m text bytes fit last spaced (codes "i1") refl r.1.in_front.1)
            (then_returns (operand_back m text bytes fit last (ty.Int 1) (int_fits 1 widths.one_bit) c.front c.first c.in_front)
            (then_returns (sign_back m text bytes fit last glued (codes ",") refl c.in_back.in_front.1)
            (then_returns (label_back m text bytes fit last x.front x.first x.in_front)
            (then_returns (sign_back m text bytes fit last glued (codes ",") refl x.in_back.in_front.1)
            (made_returns (label_back m text bytes fit last y.front y.first y.in_front))))))));
      })

  -- ---- `switch`

  abbrev case_shown : ℕ → ℕ × ℕ → List Piece
  case_shown w c = int_type spaced w ++ (number w spaced c.0 ++ (comma ++ label_shown c.1))

  case_back : (w : ℕ) → IsWidth w → (s t : Locals) (tokens : List Token) (c : ℕ × ℕ) → (a_case m w).means s tokens c t → Returns text last (a_case (over m text) w) (case_shown w c) c s t
  unfolding a_case
  case_back w width s t tokens c r =
      let n = r.in_back in
      let l = n.in_back.in_back in
      let token = n.in_front.0.token in
      let small = number_small w token.kind (spelled m.text token) n.first (kept_value tt (number_at m.text w token) n.first tt n.in_front.0.value) in
      let same = width_passes w r.in_front.0.value r.in_front.0.passes in
      value_is (a_case (over m text) w) (case_shown w) l.in_back.1 (ending l.in_back.2
      (then_returns (lifted (checked (plain (width_of text)) (same_width w)) r.in_front.1 (checked_spells text (plain (width_of text)) (same_width w) tt tt (int_type spaced w) w tt (width_spells text spaced w width) same.1))
      (then_returns (lifted (plain (number_at text w)) n.in_front.1 (number_spells text w n.first width small))
      (then_returns (sign_back m text bytes fit last glued (codes ",") refl n.in_back.in_front.1)
      (made_returns (label_back m text bytes fit last l.front l.first l.in_front))))))

  some_case : (c : ℕ × ℕ) → Some c ≡ None → ⊥
  some_case c e = cc

  case_none : (c : ℕ × ℕ) → None ≡ Some c → ⊥
  case_none c e = cc

  same_case : (c d : ℕ × ℕ) → Some c ≡ Some d → c ≡ d
  same_case c d e = cc

  abbrev Cases : ℕ → Rule Locals (List (ℕ × ℕ))
  Cases w = repeat (more_case (over m text) w)

  no_bracket : (w : ℕ) (rest : List Piece) → Begins text (is_sign text (codes "]")) false (int_type spaced w ++ rest)
  no_bracket w rest = begins text (is_sign text (codes "]")) false (int_type spaced w ++ rest) (λ token h. sign_tested text (codes "]") _ token h)

  bracket : Begins text (is_sign text (codes "]")) true (sign spaced (codes "]"))
  bracket = begins text (is_sign text (codes "]")) true (sign spaced (codes "]")) (λ token h. sign_tested text (codes "]") _ token h)

  cases_back : (w : ℕ) → IsWidth w → (s t : Locals) (tokens : List Token) (cases : List (ℕ × ℕ)) → IsRepeated (more_case m w) s tokens cases t
      → Returns text last (Cases w) (case_pieces (spelled_by m) (named_by last) w cases ++ sign spaced (codes "]")) cases s t
  unfolding no_case one_case
  cases_back w width s t tokens [] (inl r) = end_returns (ending r.1.in_back.2 (yes_returns bracket (made_returns (sign_back m text bytes fit last spaced (codes "]") refl r.1.in_front.1))))
  cases_back w width s t tokens [] (inr r) = absurd (case_none r.1.first r.1.in_back.1)
  cases_back w width s t tokens (c ∷ cases) r = by r.item (cases_back w width r.between t r.back cases r.others)
    where
      by : (more_case m w).means s r.front (Some c) r.between → Returns text last (Cases w) (case_pieces (spelled_by m) (named_by last) w cases ++ sign spaced (codes "]")) cases r.between t
          → Returns text last (Cases w) (case_pieces (spelled_by m) (named_by last) w (c ∷ cases) ++ sign spaced (codes "]")) (c ∷ cases) s t
      by (inl k) more = absurd (some_case c k.1.in_back.1)
      by (inr k) more =
          let d : ℕ × ℕ = k.1.first in
          let is : c ≡ d = same_case c d k.1.in_back.1 in
          let one = case_back w width s k.1.between k.1.front d k.1.in_front in
          let first = subst (λ (x : ℕ × ℕ). Returns text last (more_case (over m text) w) (case_shown w x) (Some x) s r.between) (sym is) (ending k.1.in_back.2 (no_returns (no_bracket w (number w spaced d.0 ++ (comma ++ label_shown d.1))) (made_returns one))) in
          pieces_are (regroup _ _ (number w spaced c.0) (label_shown c.1) (case_pieces (spelled_by m) (named_by last) w cases) (sign spaced (codes "]"))) (more_returns first more)

  pub switch_back : (s t : Locals) (tokens : List Token) (o : Op) → (switch m).means s tokens o t → Back (switch (over m text)) (codes "switch") o s t
  unfolding switch
  switch_back s t tokens o r =
      let w : ℕ = r.first in
      let x = r.in_back in
      let l = x.in_back.in_back in
      let k = l.in_back.in_back in
      let width = width_read m text bytes fit last r.front w r.in_front in
      subst (λ o. Back (switch (over m text)) (codes "switch") o s t) (sym k.in_back.1) (record {
        pieces = int_type spaced w ++ (shown (ty.Int w) x.first ++ (comma ++ (label_shown l.first ++ (sign spaced (codes "[") ++ (case_pieces (spelled_by m) (named_by last) w k.first ++ sign spaced (codes "]"))))));
        are = λ gap. refl;
        back = ending k.in_back.2
            (then_returns (width_back m text bytes fit last spaced r.front w r.in_front)
            (then_returns (operand_back m text bytes fit last (ty.Int w) (int_fits w width) x.front x.first x.in_front)
            (then_returns (sign_back m text bytes fit last glued (codes ",") refl x.in_back.in_front.1)
            (then_returns (label_back m text bytes fit last l.front l.first l.in_front)
            (then_returns (sign_back m text bytes fit last spaced (codes "[") refl l.in_back.in_front.1)
            (made_returns (cases_back w width l.in_back.between k.between k.front k.first k.in_front)))))));
      })

  -- ---- `phi`

  abbrev pair_shown : Ty → Operand × ℕ → List Piece
  pair_shown of = pair_pieces (spelled_by m) (named_by last) of spaced

  pair_opens : (of : Ty) (p : Operand × ℕ) → Begins text (λ t. not (is_kind kind.Meta t)) true (pair_shown of p)
  pair_opens of p = begins text (λ t. not (is_kind kind.Meta t)) true (pair_shown of p) (λ token h. ap not (kind_tested text kind.Meta _ token h))

  pair_back : (of : Ty) → TypeFits of → (s t : Locals) (tokens : List Token) (p : Operand × ℕ) → (a_pair m of).means s tokens p t → Returns text last (a_pair (over m text) of) (pair_shown of p) p s t
  unfolding a_pair
  pair_back of fits s t tokens p r =
      let x = r.in_back in
      let l = x.in_back.in_back in
      let close = l.in_back in
      value_is (a_pair (over m text) of) (pair_shown of) close.in_back.1 (ending close.in_back.2
      (then_returns (sign_back m text bytes fit last spaced (codes "[") refl r.in_front.1)
      (then_returns (operand_back m text bytes fit last of fits x.front x.first x.in_front)
      (then_returns (sign_back m text bytes fit last glued (codes ",") refl x.in_back.in_front.1)
      (then_returns (label_name_again m.text text bytes last spaced x.in_back.between l.between l.front l.first l.in_front)
      (made_returns (sign_back m text bytes fit last spaced (codes "]") refl close.in_front.1)))))))

  pub phi_back : (role : Role) (s t : Locals) (tokens : List Token) (x : Op × Bool) → (phi m role).means s tokens x t → FormBack m text last (phi (over m text) role) (codes "phi") x s t
  unfolding phi
  phi_back role s t tokens x r =
      let of : Ty = r.first in
      let fits = type_fits m text bytes fit last s r.between r.front of r.in_front in
      let p = r.in_back in
      let all = p.in_back in
      let b : Bool = all.first.inserted in
      let l = listed_back m.text text last role (a_pair m of) (a_pair (over m text) of) (pair_shown of) (pair_back of fits) (λ s t tokens a r. pair_opens of a)
      p.between all.between all.front (p.first ∷ []) all.first all.in_front in
      let is : x ≡ (op.Phi of (p.first ∷ l.more), b) = all.in_back.1 ∙ ap (λ (items : List (Operand × ℕ)). let y : Op × Bool = (op.Phi of items, b) in y) l.are in
      subst (λ x. FormBack m text last (phi (over m text) role) (codes "phi") x s t) (sym is) (record {
        pieces = type_shown of ++ (pair_shown of p.first ++ behind_commas (pair_shown of) l.more);
        are = λ gap. refl;
        back = ending all.in_back.2 (pieces_are (stretched (type_shown of) (pair_shown of p.first) (behind_commas (pair_shown of) l.more) (inserted_pieces b))
            (then_returns (type_back m text bytes fit last spaced r.front of r.in_front)
            (then_returns (pair_back of fits r.between p.between p.front p.first p.in_front)
            (made_returns l.back))));
      })

  -- ---- `unreachable`

  pub unreachable_back : (role : Role) (s t : Locals) (tokens : List Token) (x : Op × Bool) → (finish m.text role false op.Unreachable).means s tokens x t → FormBack m text last (finish text role false op.Unreachable) (codes "unreachable") x s t
  unreachable_back role s t tokens x r =
      let f = finish_back m.text text last role false op.Unreachable tokens x r in
      record { pieces = []; are = λ gap. ap (λ (y : Op × Bool). op_pieces (spelled_by m) (named_by last) gap y.0) f.0; back = f.1 }
