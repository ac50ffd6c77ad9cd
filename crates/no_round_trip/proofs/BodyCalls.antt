-- Calls are read again behind their word: no attributes stand anywhere.
use Rattle.std.proofs.Common.{◌≡◌, ℕ, Bool, false, List, [], ◌∷◌, ◌++◌, codes, Option, inr, refl, sym, subst, append_assoc}
use Rattle.no_lex.specs.declared.token.Token.{Token}
use Rattle.no_ir.specs.declared.function.Role.{Role}
use Rattle.no_ir.specs.declared.types.Ty.{Ty}
use Rattle.no_ir.specs.declared.types.Ty.TheVariants as ty
use Rattle.no_ir.specs.declared.instruction.Operand.{Operand}
use Rattle.no_ir.specs.declared.instruction.Op.TheVariants as op
use Rattle.no_ir.specs.declared.instruction.Instr.{Instr}
use Rattle.no_read_rules.specs.Lists.{more_item, items}
use Rattle.no_read_rules.specs.Repeated.{IsRepeated}
use Rattle.no_read_rules.specs.Rules.{Rule}
use Rattle.no_read_rules.specs.Scope.{Meaning}
use Rattle.no_read_rules.specs.Spelled.{is_sign}
use Rattle.no_read_rules.specs.Types.{a_type}
use Rattle.no_read_attributes.specs.Attributes.{begins_attribute, all_attributes, skip_attributes}
use Rattle.no_read_registers.specs.declared.locals.Locals.{Locals}
use Rattle.no_read_operations.specs.Operands.{DEPTH, some_type, an_operand}
use Rattle.no_read_operations.specs.Ends.{end_mark}
use Rattle.no_read_instructions.specs.Calls.{behind_attributes, an_argument, call_parts}
use Rattle.no_print.specs.Pieces.{Piece, spaced, glued, sign, with_commas}
use Rattle.no_print.specs.Instructions.{inserted_pieces, operand_pieces, argument_pieces}
use Rattle.no_round_trip.specs.Spells.{AreBytes, Spells, TypesFit, over, spelled_by}
use Rattle.no_round_trip.proofs.RuleFrame.{made_spells}
use Rattle.no_round_trip.proofs.RuleItems.{ItemsAre, items_are, more_reads, ended_keeps}
use Rattle.no_round_trip.proofs.RuleListing.{EachSpells, IsClose, items_spell, no_items_spell}
use Rattle.no_round_trip.proofs.RuleOpening.{Opens, lift_opens, then_opens}
use Rattle.no_round_trip.proofs.RuleStanding.{Begins, begins_none, stand_none}
use Rattle.no_round_trip.proofs.TypeAgain.{type_opens}
use Rattle.no_round_trip.specs.States.{Like, Follows, IsFine, named_by}
use Rattle.no_round_trip.proofs.BodyEnds.{mark_read, mark_spells}
use Rattle.no_round_trip.proofs.BodyOperands.{ptr_fits, sign_back, type_back, type_fits, operand_back, operand_plain}
use Rattle.no_round_trip.proofs.BodyReturning.{Returns, ending, lifted, value_is, pieces_are, then_returns, made_returns}

-- ---- attributes

none_spelled : (text : List ℕ) → Spells text (all_attributes text) tt [] [] tt
none_spelled text tokens stand = let e = stand_none text tokens stand in inr (begins_none text (begins_attribute text) tokens stand, (e, refl, refl))

skipped : (text : List ℕ) → Spells text (skip_attributes text) tt [] tt tt
skipped text = made_spells text (all_attributes text) (λ _. tt) tt tt [] [] (none_spelled text)

pub plain_returns : {A : Type 0} {text : List ℕ} {last : Locals} {p : Rule Locals A} {pieces : List Piece} {a : A} {s t : Locals} → Begins text (begins_attribute text) false pieces
    → Returns text last p pieces a s t → Returns text last (behind_attributes text p) pieces a s t
plain_returns {text = text} first x = record {
  fine = x.fine;
  holds = x.holds;
  spells = λ h w z l. let r = x.spells h w z l in (
    r.0,
    r.1,
    λ tokens stand. record {
      front = [];
      back = tokens;
      first = [];
      between = z;
      parts = refl;
      in_front = (none_spelled text [] tt, refl);
      apart = first tokens stand;
      in_back = r.2 tokens stand;
    },
  );
}

-- ---- items

module _ {A : Type 0} (from text close : List ℕ) (last : Locals) (item other : Rule Locals A) (f : List ℕ → A → List Piece) (closing : IsClose close) (opens : Opens (is_sign text close) false other)
    (again : (gap : List ℕ) (s t : Locals) (tokens : List Token) (a : A) → item.means s tokens a t → Returns text last other (f gap a) a s t) where
  record EachBack (all : List A) (s t : Locals) : Type 0 where
    pub fine : IsFine s → IsFine t
    pub holds : Follows t last → Follows s last
    pub spells : IsFine s → Follows t last → (z : Locals) → Like s z → (u : Locals) × Like t u × EachSpells text other (f spaced) z all u

  none_left : (s t : Locals) → t ≡ s → EachBack [] s t
  none_left s t e = subst (λ v. EachBack [] s v) (sym e) (record { fine = λ h. h; holds = λ w. w; spells = λ h w z l. (z, l, refl) })

  one_more : (a : A) (all : List A) (s u t : Locals) → Returns text last other (f spaced a) a s u → EachBack all u t → EachBack (a ∷ all) s t
  one_more a all s u t x y = record {
    fine = λ h. y.fine (x.fine h);
    holds = λ w. x.holds (y.holds w);
    spells = λ h w z l. let r = x.spells h (y.holds w) z l in let k = y.spells (x.fine h) w r.0 r.1 in (k.0, k.1, (r.0, r.2, k.2));
  }

  each_back : (s t : Locals) (tokens : List Token) (all : List A) → IsRepeated (more_item from close item) s tokens all t → EachBack all s t
  each_back s t tokens [] r = none_left s t (ended_keeps from close item s t tokens r)
  each_back s t tokens (a ∷ all) r =
      let k = more_reads from close item s r.between r.front a r.item in
      one_more a all s r.between t (again spaced s r.between k.0 a k.1) (each_back r.between t r.back all r.others)

  pub items_back : (front gap : List ℕ) (s t : Locals) (tokens : List Token) (all : List A) → (items from close item).means s tokens all t → Returns text last (items text close other) (with_commas f front all ++ sign gap close) all s t
  items_back front gap s t tokens all r = by all (items_are from close item s t tokens all r)
    where
      by : (all : List A) → ItemsAre from close item s all t → Returns text last (items text close other) (with_commas f front all ++ sign gap close) all s t
      by [] e = ending e (record { fine = λ h. h; holds = λ w. w; spells = λ h w z l. (z, l, no_items_spell text close gap other closing opens z) })
      by (a ∷ all) i =
          let x = again front s i.between i.used a i.first in
          let y = each_back i.between t i.rest all i.others in
          record {
            fine = λ h. y.fine (x.fine h);
            holds = λ w. x.holds (y.holds w);
            spells = λ h w z l. let r = x.spells h (y.holds w) z l in let k = y.spells (x.fine h) w r.0 r.1 in (k.0, k.1, items_spell text close gap other closing opens f front z r.0 k.0 a all r.2 k.2);
          }

-- ---- arguments and calls

parenthesis : IsClose (codes ")")
parenthesis = record { same = refl; other = refl }

-- what stands behind a call's type, and its end
stretched : (d : Piece) (a b i : List Piece) → a ++ (d ∷ (b ++ i)) ≡ (a ++ (d ∷ b)) ++ i
stretched d a b i = simp append_assoc

module _ (m : Meaning) (text : List ℕ) (bytes : AreBytes m.text) (fit : TypesFit m.types) (last : Locals) (role : Role) where
  abbrev shown : Ty → Operand → List Piece
  shown = operand_pieces (spelled_by m) (named_by last)

  abbrev argument_shown : List ℕ → Ty × Operand → List Piece
  argument_shown = argument_pieces (spelled_by m) (named_by last)

  argument_back : (gap : List ℕ) (s t : Locals) (tokens : List Token) (a : Ty × Operand) → (an_argument m).means s tokens a t → Returns text last (an_argument (over m text)) (argument_shown gap a) a s t
  unfolding an_argument
  argument_back gap s t tokens a r =
      let of : Ty = r.first in
      let fits = type_fits m text bytes fit last s r.between r.front of r.in_front in
      let x = r.in_back in
      let o = x.in_front in
      let operand = operand_back m text bytes fit last of fits o.back x.first o.in_back in
      let same : o.between ≡ r.between = o.in_front.1 in
      let plain = operand_plain m text bytes fit last of fits o.between x.between o.back x.first o.in_back in
      value_is (an_argument (over m text)) (argument_shown gap) x.in_back.1 (ending x.in_back.2
      (then_returns (type_back m text bytes fit last gap r.front of r.in_front)
      (made_returns (subst (λ v. Returns text last (behind_attributes text (an_operand (over m text) of)) (shown of x.first) x.first v x.between) same (plain_returns plain operand)))))

  argument_opens : Opens (is_sign text (codes ")")) false (an_argument (over m text))
  unfolding an_argument
  argument_opens = then_opens (is_sign text (codes ")")) false (some_type (over m text)) _ (lift_opens (is_sign text (codes ")")) false (a_type (over m text) DEPTH) (type_opens (over m text) DEPTH (codes ")") refl))

  -- what is written behind the type of a call
  abbrev pub call_rest : Operand → List (Ty × Operand) → List Piece
  call_rest callee arguments = shown ty.Ptr callee ++ (sign glued (codes "(") ++ (with_commas argument_shown glued arguments ++ sign glued (codes ")")))

  -- what stands behind the type of a call
  pub record CallBack (of : Ty) (register : Option ℕ) (i : Instr) (s t : Locals) : Type 0 where
    pub callee : Operand
    pub arguments : List (Ty × Operand)
    pub inserted : Bool
    pub is : i ≡ record { result = register; inserted = inserted; op = op.Call of callee arguments }
    pub back : Returns text last (call_parts (over m text) role of register)
        (call_rest callee arguments ++ inserted_pieces inserted)
        (record { result = register; inserted = inserted; op = op.Call of callee arguments }) s t

  pub parts_back : (of : Ty) (register : Option ℕ) (s t : Locals) (tokens : List Token) (i : Instr) → (call_parts m role of register).means s tokens i t → CallBack of register i s t
  unfolding call_parts
  parts_back of register s t tokens i r =
      let g : Operand = r.first in
      let a = r.in_back.in_back in
      let k = a.in_back in
      let e = k.in_back in
      let b : Bool = e.first in
      let listed = items_back m.text text (codes ")") last (an_argument m) (an_argument (over m text)) argument_shown parenthesis argument_opens argument_back glued glued r.in_back.between a.between a.front a.first a.in_front in
      let mark = lifted {text = text} {last = last} (end_mark text role false) e.in_front.1 (mark_spells text role false b (mark_read m.text role false b e.front e.in_front.0)) in
      record {
        callee = g;
        arguments = a.first;
        inserted = b;
        is = e.in_back.1;
        back = ending e.in_back.2 (pieces_are (stretched _ (shown ty.Ptr g) (with_commas argument_shown glued a.first ++ sign glued (codes ")")) (inserted_pieces b))
            (then_returns (operand_back m text bytes fit last ty.Ptr ptr_fits r.front g r.in_front)
            (then_returns (sign_back m text bytes fit last glued (codes "(") refl r.in_back.in_front.1)
            (then_returns listed
            (then_returns (lifted (skip_attributes text) k.in_front.1 (skipped text))
            (made_returns mark))))));
      }
