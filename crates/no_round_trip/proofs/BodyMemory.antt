-- Loads, stores and addresses are read again behind their words.
use Rattle.std.proofs.Common.{◌≡◌, ℕ, Bool, true, false, not, List, [], ◌∷◌, ◌++◌, codes, inl, inr, refl, sym, ap, subst, ◌∙◌, append_assoc}
use Rattle.no_lex.specs.declared.token.Token.{Token}
use Rattle.no_lex.specs.declared.token.TokenKind.TheVariants as kind
use Rattle.no_ir.specs.declared.function.Role.{Role}
use Rattle.no_ir.specs.declared.types.Ty.{Ty}
use Rattle.no_ir.specs.declared.instruction.Operand.{Operand}
use Rattle.no_ir.specs.declared.instruction.Op.{Op}
use Rattle.no_ir.specs.declared.instruction.Op.TheVariants as op
use Rattle.no_read_rules.specs.Rules.{Rule}
use Rattle.no_read_rules.specs.Scope.{Meaning}
use Rattle.no_read_rules.specs.Spelled.{is_kind, is_word}
use Rattle.no_read_constants.specs.Places.{is_flag}
use Rattle.no_read_registers.specs.declared.locals.Locals.{Locals}
use Rattle.no_read_operations.specs.Operands.{some_type, sized_operand}
use Rattle.no_read_operations.specs.Memory.{is_volatile, load_parts, volatile_load, load, store_parts, volatile_store, store, address_parts, address}
use Rattle.no_print.specs.Pieces.{Piece, spaced, glued, comma, word, behind_commas}
use Rattle.no_print.specs.Constants.{type_at}
use Rattle.no_print.specs.Instructions.{inserted_pieces, operand_pieces, sized, pointer}
use Rattle.no_round_trip.specs.Spells.{AreBytes, TypesFit, over, spelled_by}
use Rattle.no_round_trip.proofs.RuleStanding.{Begins, begins, kind_tested}
use Rattle.no_round_trip.specs.States.{named_by}
use Rattle.no_round_trip.proofs.BodyForms.{OpBack, FormBack}
use Rattle.no_round_trip.proofs.BodyLists.{listed_back}
use Rattle.no_round_trip.proofs.BodyOperands.{word_first, word_back, sign_back, type_back, type_fits, type_not, operand_back, pointer_back, sized_back}
use Rattle.no_round_trip.proofs.BodyReturning.{Returns, ending, pieces_are, yes_returns, no_returns, behind_returns, then_returns, made_returns}

pub no_place_flag : (text : List ℕ) (pieces : List Piece) → Begins text (is_word text (codes "inbounds")) false pieces → Begins text (is_word text (codes "nusw")) false pieces → Begins text (is_word text (codes "nuw")) false pieces
    → Begins text (is_flag text) false pieces
no_place_flag text pieces x y z [] stand = refl
no_place_flag text pieces x y z (t ∷ tokens) stand =
    let a : is_word text (codes "inbounds") t ≡ false = x (t ∷ tokens) stand in
    let b : is_word text (codes "nusw") t ≡ false = y (t ∷ tokens) stand in
    let c : is_word text (codes "nuw") t ≡ false = z (t ∷ tokens) stand in
    rw (a, b, c) refl

-- parts that stand behind one another, and what stands behind them all
regroup : (c d : Piece) (a b e g i : List Piece) → a ++ (c ∷ (b ++ (d ∷ (e ++ (g ++ i))))) ≡ (a ++ (c ∷ (b ++ (d ∷ (e ++ g))))) ++ i
regroup c d a b e g i = simp append_assoc

module _ (m : Meaning) (text : List ℕ) (bytes : AreBytes m.text) (fit : TypesFit m.types) (last : Locals) where
  abbrev shown : Ty → Operand → List Piece
  shown = operand_pieces (spelled_by m) (named_by last)

  abbrev type_shown : Ty → List Piece
  type_shown = type_at (spelled_by m) spaced

  abbrev place_shown : Operand → List Piece
  place_shown = pointer (spelled_by m) (named_by last)

  abbrev Back : Rule Locals Op → List ℕ → Op → Locals → Locals → Type 0
  Back = OpBack m text last

  -- ---- loads

  record LoadBack (volatile : Bool) (o : Op) (s t : Locals) : Type 0 where
    pub of : Ty
    pub place : Operand
    pub is : o ≡ op.Load volatile of place
    pub plain : Begins text (is_volatile text) false (type_shown of ++ (comma ++ place_shown place))
    pub back : Returns text last (load_parts (over m text) volatile) (type_shown of ++ (comma ++ place_shown place)) (op.Load volatile of place) s t

  load_read : (volatile : Bool) (s t : Locals) (tokens : List Token) (o : Op) → (load_parts m volatile).means s tokens o t → LoadBack volatile o s t
  unfolding load_parts
  load_read volatile s t tokens o r =
      let x = r.in_back.in_back in
      record {
        of = r.first;
        place = x.first;
        is = x.in_back.1;
        plain = type_not m text bytes fit last spaced (codes "volatile") s r.between r.front r.first (comma ++ place_shown x.first) (record { one = refl; byte = refl; short = refl; half = refl; full = refl; pointer = refl }) r.in_front;
        back = ending x.in_back.2
            (then_returns (type_back m text bytes fit last spaced r.front r.first r.in_front)
            (then_returns (sign_back m text bytes fit last glued (codes ",") refl r.in_back.in_front.1)
            (made_returns (pointer_back m text bytes fit last x.front x.first x.in_front))));
      }

  pub load_back : (s t : Locals) (tokens : List Token) (o : Op) → (load m).means s tokens o t → Back (load (over m text)) (codes "load") o s t
  unfolding volatile_load
  load_back s t tokens o (inl r) =
      let x = load_read true r.1.between t r.1.back o r.1.in_back in
      subst (λ o. Back (load (over m text)) (codes "load") o s t) (sym x.is) (record {
        pieces = word spaced (codes "volatile") ++ (type_shown x.of ++ (comma ++ place_shown x.place));
        are = λ gap. refl;
        back = yes_returns (word_first text spaced (codes "volatile") (codes "volatile") (type_shown x.of ++ (comma ++ place_shown x.place)) true refl)
            (then_returns (word_back m text bytes fit last spaced (codes "volatile") refl r.1.in_front.1) x.back);
      })
  load_back s t tokens o (inr r) =
      let x = load_read false s t tokens o r.1 in
      subst (λ o. Back (load (over m text)) (codes "load") o s t) (sym x.is) (record {
        pieces = type_shown x.of ++ (comma ++ place_shown x.place);
        are = λ gap. refl;
        back = no_returns x.plain x.back;
      })

  -- ---- stores

  record StoreBack (volatile : Bool) (o : Op) (s t : Locals) : Type 0 where
    pub of : Ty
    pub value : Operand
    pub place : Operand
    pub is : o ≡ op.Store volatile of value place
    pub plain : Begins text (is_volatile text) false (type_shown of ++ (shown of value ++ (comma ++ place_shown place)))
    pub back : Returns text last (store_parts (over m text) volatile) (type_shown of ++ (shown of value ++ (comma ++ place_shown place))) (op.Store volatile of value place) s t

  store_read : (volatile : Bool) (s t : Locals) (tokens : List Token) (o : Op) → (store_parts m volatile).means s tokens o t → StoreBack volatile o s t
  unfolding store_parts
  store_read volatile s t tokens o r =
      let v = r.in_back in
      let x = v.in_back.in_back in
      record {
        of = r.first;
        value = v.first;
        place = x.first;
        is = x.in_back.1;
        plain = type_not m text bytes fit last spaced (codes "volatile") s r.between r.front r.first (shown r.first v.first ++ (comma ++ place_shown x.first)) (record { one = refl; byte = refl; short = refl; half = refl; full = refl; pointer = refl }) r.in_front;
        back = ending x.in_back.2
            (then_returns (type_back m text bytes fit last spaced r.front r.first r.in_front)
            (then_returns (operand_back m text bytes fit last r.first (type_fits m text bytes fit last s r.between r.front r.first r.in_front) v.front v.first v.in_front)
            (then_returns (sign_back m text bytes fit last glued (codes ",") refl v.in_back.in_front.1)
            (made_returns (pointer_back m text bytes fit last x.front x.first x.in_front)))));
      }

  pub store_back : (s t : Locals) (tokens : List Token) (o : Op) → (store m).means s tokens o t → Back (store (over m text)) (codes "store") o s t
  unfolding volatile_store
  store_back s t tokens o (inl r) =
      let x = store_read true r.1.between t r.1.back o r.1.in_back in
      let rest : List Piece = type_shown x.of ++ (shown x.of x.value ++ (comma ++ place_shown x.place)) in
      subst (λ o. Back (store (over m text)) (codes "store") o s t) (sym x.is) (record {
        pieces = word spaced (codes "volatile") ++ rest;
        are = λ gap. ap (λ l. word gap (codes "store") ++ (word spaced (codes "volatile") ++ l)) (append_assoc (type_shown x.of) (shown x.of x.value) (comma ++ place_shown x.place));
        back = yes_returns (word_first text spaced (codes "volatile") (codes "volatile") rest true refl) (then_returns (word_back m text bytes fit last spaced (codes "volatile") refl r.1.in_front.1) x.back);
      })
  store_back s t tokens o (inr r) =
      let x = store_read false s t tokens o r.1 in
      subst (λ o. Back (store (over m text)) (codes "store") o s t) (sym x.is) (record {
        pieces = type_shown x.of ++ (shown x.of x.value ++ (comma ++ place_shown x.place));
        are = λ gap. ap (λ l. word gap (codes "store") ++ l) (append_assoc (type_shown x.of) (shown x.of x.value) (comma ++ place_shown x.place));
        back = no_returns x.plain x.back;
      })

  -- ---- `getelementptr`

  abbrev index_shown : ℕ × Operand → List Piece
  index_shown i = sized (spelled_by m) (named_by last) i.0 i.1

  index_opens : (x : ℕ × Operand) → Begins text (λ t. not (is_kind kind.Meta t)) true (index_shown x)
  index_opens x = begins text (λ t. not (is_kind kind.Meta t)) true (index_shown x) (λ token h. ap not (kind_tested text kind.Meta _ token h))

  no_flag : (s t : Locals) (tokens : List Token) (of : Ty) (rest : List Piece) → (some_type m).means s tokens of t → Begins text (is_flag text) false (type_shown of ++ rest)
  no_flag s t tokens of rest r =
      no_place_flag text (type_shown of ++ rest)
      (type_not m text bytes fit last spaced (codes "inbounds") s t tokens of rest (record { one = refl; byte = refl; short = refl; half = refl; full = refl; pointer = refl }) r)
      (type_not m text bytes fit last spaced (codes "nusw") s t tokens of rest (record { one = refl; byte = refl; short = refl; half = refl; full = refl; pointer = refl }) r)
      (type_not m text bytes fit last spaced (codes "nuw") s t tokens of rest (record { one = refl; byte = refl; short = refl; half = refl; full = refl; pointer = refl }) r)

  address_read : (role : Role) (s t : Locals) (tokens : List Token) (x : Op × Bool) → (address_parts m role).means s tokens x t → FormBack m text last (address (over m text) role) (codes "getelementptr") x s t
  unfolding address_parts
  address_read role s t tokens x r =
      let base : Ty = r.first in
      let p = r.in_back.in_back in
      let i = p.in_back.in_back in
      let all = i.in_back in
      let b : Bool = all.first.inserted in
      let l = listed_back m.text text last role (sized_operand m) (sized_operand (over m text)) index_shown (λ s t tokens a r. sized_back m text bytes fit last tokens a r) (λ s t tokens a r. index_opens a)
      i.between all.between all.front (i.first ∷ []) all.first all.in_front in
      let is : x ≡ (op.Gep base p.first (i.first ∷ l.more), b) = all.in_back.1 ∙ ap (λ (items : List (ℕ × Operand)). let y : Op × Bool = (op.Gep base p.first items, b) in y) l.are in
      let rest : List Piece = comma ++ (place_shown p.first ++ (comma ++ (index_shown i.first ++ (behind_commas index_shown l.more ++ inserted_pieces b)))) in
      subst (λ x. FormBack m text last (address (over m text) role) (codes "getelementptr") x s t) (sym is) (record {
        pieces = type_shown base ++ (comma ++ (place_shown p.first ++ behind_commas index_shown (i.first ∷ l.more)));
        are = λ gap. refl;
        back = ending all.in_back.2 (pieces_are (regroup _ _ (type_shown base) (place_shown p.first) (index_shown i.first) (behind_commas index_shown l.more) (inserted_pieces b))
            (behind_returns (no_flag s r.between r.front base rest r.in_front)
            (then_returns (type_back m text bytes fit last spaced r.front base r.in_front)
            (then_returns (sign_back m text bytes fit last glued (codes ",") refl r.in_back.in_front.1)
            (then_returns (pointer_back m text bytes fit last p.front p.first p.in_front)
            (then_returns (sign_back m text bytes fit last glued (codes ",") refl p.in_back.in_front.1)
            (then_returns (sized_back m text bytes fit last i.front i.first i.in_front)
            (made_returns l.back))))))));
      })

  pub address_back : (role : Role) (s t : Locals) (tokens : List Token) (x : Op × Bool) → (address m role).means s tokens x t → FormBack m text last (address (over m text) role) (codes "getelementptr") x s t
  address_back role s t tokens x r = address_read role s t r.back x r.read
