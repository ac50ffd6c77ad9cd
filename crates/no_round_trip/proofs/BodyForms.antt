-- Operations on values are read again behind their words.
use Rattle.std.proofs.Common.{◌≡◌, ℕ, Bool, false, ◌||◌, ◌==◌, List, [], ◌∷◌, ◌++◌, bytes_eq, codes, decimal, Result, Ok, Err, ok_or, if◌then◌else◌, refl, sym, ap, subst, ◌∙◌, append_assoc}
use Rattle.std.specs.Fmt.{digits}
use Rattle.no_lex.specs.declared.token.Token.{Token}
use Rattle.no_lex.specs.declared.token.TokenKind.{TokenKind}
use Rattle.no_lex.specs.declared.token.TokenKind.TheVariants as kind
use Rattle.no_ir.specs.declared.function.Role.{Role}
use Rattle.no_ir.specs.declared.types.Ty.{Ty}
use Rattle.no_ir.specs.declared.types.Ty.TheVariants as ty
use Rattle.no_ir.specs.declared.instruction.BinOp.{BinOp}
use Rattle.no_ir.specs.declared.instruction.CastOp.{CastOp}
use Rattle.no_ir.specs.declared.instruction.Pred.{Pred}
use Rattle.no_ir.specs.declared.instruction.Pred.TheVariants as pred
use Rattle.no_ir.specs.declared.instruction.Operand.{Operand}
use Rattle.no_ir.specs.declared.instruction.Op.{Op}
use Rattle.no_words.specs.Words.{pred_named}
use Rattle.no_read_rules.specs.declared.fault.Flaw.{Flaw}
use Rattle.no_read_rules.specs.declared.fault.Flaw.TheVariants.{Syntax}
use Rattle.no_read_rules.specs.Rules.{Rule, plain}
use Rattle.no_read_rules.specs.Scope.{Meaning}
use Rattle.no_read_rules.specs.Spelled.{kind_number, is_word}
use Rattle.no_read_registers.specs.declared.locals.Locals.{Locals}
use Rattle.no_read_operations.specs.declared.operands.Flags.{Flags}
use Rattle.no_read_operations.specs.declared.operands.Flags.TheVariants as flags
use Rattle.no_read_operations.specs.Operands.{some_type, is_flag_word}
use Rattle.no_read_operations.specs.Ends.{ended}
use Rattle.no_read_operations.specs.Simple.{binary_flags, binary_parts, binary, cast_flags, cast_parts, cast_form, pred_of, compare_parts, compare, freeze, select}
use Rattle.no_print.specs.Names.{int_type}
use Rattle.no_print.specs.Pieces.{Piece, spaced, glued, comma, word}
use Rattle.no_print.specs.Constants.{type_at}
use Rattle.no_print.specs.Instructions.{binary_word, cast_word, pred_word, inserted_pieces, operand_pieces, op_pieces}
use Rattle.no_round_trip.specs.Spells.{AreBytes, Spells, TypesFit, over, spelled_by}
use Rattle.no_round_trip.proofs.RuleFrame.{plain_spells}
use Rattle.no_round_trip.proofs.RuleStanding.{Begins}
use Rattle.no_round_trip.proofs.WordWidths as widths
use Rattle.no_round_trip.specs.States.{named_by}
use Rattle.no_round_trip.proofs.BodyEnds.{finish_back}
use Rattle.no_round_trip.proofs.BodyOperands.{int_fits, word_first, word_back, sign_back, type_back, type_fits, type_not, this_back, width_read, width_back, operand_back}
use Rattle.no_round_trip.proofs.BodyReturning.{Returns, ending, lifted, behind_returns, then_returns, made_returns}

-- ---- words without an effect

-- none of the words without an effect stands first
pub record NoFlags (text : List ℕ) (pieces : List Piece) : Type 0 where
  pub nsw : Begins text (is_word text (codes "nsw")) false pieces
  pub nuw : Begins text (is_word text (codes "nuw")) false pieces
  pub exact : Begins text (is_word text (codes "exact")) false pieces
  pub disjoint : Begins text (is_word text (codes "disjoint")) false pieces
  pub nneg : Begins text (is_word text (codes "nneg")) false pieces
  pub samesign : Begins text (is_word text (codes "samesign")) false pieces

pub neither : (text : List ℕ) (p q : Token → Bool) (pieces : List Piece) → Begins text p false pieces → Begins text q false pieces → Begins text (λ t. p t || q t) false pieces
neither text p q pieces x y [] stand = refl
neither text p q pieces x y (t ∷ tokens) stand =
    let a : p t ≡ false = x (t ∷ tokens) stand in
    let b : q t ≡ false = y (t ∷ tokens) stand in
    rw (a, b) refl

nothing_first : (text : List ℕ) (pieces : List Piece) → Begins text (λ t. false) false pieces
nothing_first text pieces [] stand = refl
nothing_first text pieces (t ∷ tokens) stand = refl

pub no_flags : (text : List ℕ) (fl : Flags) (pieces : List Piece) → NoFlags text pieces → Begins text (is_flag_word text fl) false pieces
no_flags text flags.Nothing pieces n = nothing_first text pieces
no_flags text flags.Wrapping pieces n = neither text (is_word text (codes "nsw")) (is_word text (codes "nuw")) pieces n.nsw n.nuw
no_flags text flags.Exact pieces n = n.exact
no_flags text flags.Disjoint pieces n = n.disjoint
no_flags text flags.NonNegative pieces n = n.nneg
no_flags text flags.SameSign pieces n = n.samesign

width_no_flags : (text : List ℕ) (w : ℕ) (rest : List Piece) → NoFlags text (int_type spaced w ++ rest)
width_no_flags text w rest = record {
  nsw = word_first text spaced (105 ∷ decimal w) (codes "nsw") rest false refl;
  nuw = word_first text spaced (105 ∷ decimal w) (codes "nuw") rest false refl;
  exact = word_first text spaced (105 ∷ decimal w) (codes "exact") rest false refl;
  disjoint = word_first text spaced (105 ∷ decimal w) (codes "disjoint") rest false refl;
  nneg = word_first text spaced (105 ∷ decimal w) (codes "nneg") rest false refl;
  samesign = word_first text spaced (105 ∷ decimal w) (codes "samesign") rest false refl;
}

-- the word of the type of one bit
pub one_bit : (gap : List ℕ) → int_type gap 1 ≡ word gap (codes "i1")
unfolding digits
one_bit gap = refl

-- ---- forms

-- an operation behind its word
pub record OpBack (m : Meaning) (text : List ℕ) (last : Locals) (q : Rule Locals Op) (w : List ℕ) (o : Op) (s t : Locals) : Type 0 where
  pub pieces : List Piece
  pub are : (gap : List ℕ) → op_pieces (spelled_by m) (named_by last) gap o ≡ word gap w ++ pieces
  pub back : Returns text last q pieces o s t

-- the same with its end
pub record FormBack (m : Meaning) (text : List ℕ) (last : Locals) (q : Rule Locals (Op × Bool)) (w : List ℕ) (x : Op × Bool) (s t : Locals) : Type 0 where
  pub pieces : List Piece
  pub are : (gap : List ℕ) → op_pieces (spelled_by m) (named_by last) gap x.0 ≡ word gap w ++ pieces
  pub back : Returns text last q (pieces ++ inserted_pieces x.1) x s t

module _ (m : Meaning) (text : List ℕ) (last : Locals) (role : Role) (aligns : Bool) where
  pub ended_back : (p q : Rule Locals Op) (w : List ℕ) → ((s t : Locals) (tokens : List Token) (o : Op) → p.means s tokens o t → OpBack m text last q w o s t)
      → (s t : Locals) (tokens : List Token) (x : Op × Bool) → (ended m.text role aligns p).means s tokens x t → FormBack m text last (ended text role aligns q) w x s t
  ended_back p q w again s t tokens x r =
      let o : Op = r.first in
      let b = again s r.between r.front o r.in_front in
      let f = finish_back m.text text last role aligns o r.back x r.in_back in
      record {
        pieces = b.pieces;
        are = λ gap. ap (λ (y : Op × Bool). op_pieces (spelled_by m) (named_by last) gap y.0) f.0 ∙ b.are gap;
        back = then_returns b.back f.1;
      }

module _ (m : Meaning) (text : List ℕ) (bytes : AreBytes m.text) (fit : TypesFit m.types) (last : Locals) where
  abbrev shown : Ty → Operand → List Piece
  shown = operand_pieces (spelled_by m) (named_by last)

  abbrev type_shown : Ty → List Piece
  type_shown = type_at (spelled_by m) spaced

  abbrev Back : Rule Locals Op → List ℕ → Op → Locals → Locals → Type 0
  Back = OpBack m text last

  other_flag : (s t : Locals) (tokens : List Token) (of : Ty) (rest : List Piece) → (some_type m).means s tokens of t → NoFlags text (type_shown of ++ rest)
  other_flag s t tokens of rest r = record {
    nsw = type_not m text bytes fit last spaced (codes "nsw") s t tokens of rest (record { one = refl; byte = refl; short = refl; half = refl; full = refl; pointer = refl }) r;
    nuw = type_not m text bytes fit last spaced (codes "nuw") s t tokens of rest (record { one = refl; byte = refl; short = refl; half = refl; full = refl; pointer = refl }) r;
    exact = type_not m text bytes fit last spaced (codes "exact") s t tokens of rest (record { one = refl; byte = refl; short = refl; half = refl; full = refl; pointer = refl }) r;
    disjoint = type_not m text bytes fit last spaced (codes "disjoint") s t tokens of rest (record { one = refl; byte = refl; short = refl; half = refl; full = refl; pointer = refl }) r;
    nneg = type_not m text bytes fit last spaced (codes "nneg") s t tokens of rest (record { one = refl; byte = refl; short = refl; half = refl; full = refl; pointer = refl }) r;
    samesign = type_not m text bytes fit last spaced (codes "samesign") s t tokens of rest (record { one = refl; byte = refl; short = refl; half = refl; full = refl; pointer = refl }) r;
  }

  -- ---- binary operators

  binary_read : (b : BinOp) (s t : Locals) (tokens : List Token) (o : Op) → (binary_parts m b).means s tokens o t → Back (binary (over m text) b) (binary_word b) o s t
  unfolding binary_parts
  binary_read b s t tokens o r =
      let w : ℕ = r.first in
      let x = r.in_back in
      let y = x.in_back.in_back in
      let fits = int_fits w (width_read m text bytes fit last r.front w r.in_front) in
      let rest : List Piece = shown (ty.Int w) x.first ++ (comma ++ shown (ty.Int w) y.first) in
      subst (λ o. Back (binary (over m text) b) (binary_word b) o s t) (sym y.in_back.1) (record {
        pieces = int_type spaced w ++ rest;
        are = λ gap. refl;
        back = ending y.in_back.2 (behind_returns (no_flags text (binary_flags b) (int_type spaced w ++ rest) (width_no_flags text w rest))
            (then_returns (width_back m text bytes fit last spaced r.front w r.in_front)
            (then_returns (operand_back m text bytes fit last (ty.Int w) fits x.front x.first x.in_front)
            (then_returns (sign_back m text bytes fit last glued (codes ",") refl x.in_back.in_front.1)
            (made_returns (operand_back m text bytes fit last (ty.Int w) fits y.front y.first y.in_front))))));
      })

  pub binary_back : (b : BinOp) (s t : Locals) (tokens : List Token) (o : Op) → (binary m b).means s tokens o t → Back (binary (over m text) b) (binary_word b) o s t
  binary_back b s t tokens o r = binary_read b s t r.back o r.read

  -- ---- conversions

  cast_read : (c : CastOp) (s t : Locals) (tokens : List Token) (o : Op) → (cast_parts m c).means s tokens o t → Back (cast_form (over m text) c) (cast_word c) o s t
  unfolding cast_parts
  cast_read c s t tokens o r =
      let from : Ty = r.first in
      let x = r.in_back in
      let y = x.in_back.in_back in
      let fits = type_fits m text bytes fit last s r.between r.front from r.in_front in
      let rest : List Piece = shown from x.first ++ (word spaced (codes "to") ++ type_shown y.first) in
      subst (λ o. Back (cast_form (over m text) c) (cast_word c) o s t) (sym y.in_back.1) (record {
        pieces = type_shown from ++ rest;
        are = λ gap. ap (λ l. word gap (cast_word c) ++ l) (append_assoc (type_shown from) (shown from x.first) (word spaced (codes "to") ++ type_shown y.first));
        back = ending y.in_back.2 (behind_returns (no_flags text (cast_flags c) (type_shown from ++ rest) (other_flag s r.between r.front from rest r.in_front))
            (then_returns (type_back m text bytes fit last spaced r.front from r.in_front)
            (then_returns (operand_back m text bytes fit last from fits x.front x.first x.in_front)
            (then_returns (word_back m text bytes fit last spaced (codes "to") refl x.in_back.in_front.1)
            (made_returns (type_back m text bytes fit last spaced y.front y.first y.in_front))))));
      })

  pub cast_back : (c : CastOp) (s t : Locals) (tokens : List Token) (o : Op) → (cast_form m c).means s tokens o t → Back (cast_form (over m text) c) (cast_word c) o s t
  cast_back c s t tokens o r = cast_read c s t r.back o r.read

  -- ---- comparisons

  abbrev pred_by : TokenKind → List ℕ → Result Pred Flaw
  pred_by k spelling = if kind_number k == kind_number kind.Word then ok_or (pred_named spelling) Syntax else Err Syntax

  pred_again : (p : Pred) → ok_or (pred_named (pred_word p)) Syntax ≡ Ok p
  pred_again pred.Eq = refl
  pred_again pred.Ne = refl
  pred_again pred.Ugt = refl
  pred_again pred.Uge = refl
  pred_again pred.Ult = refl
  pred_again pred.Ule = refl
  pred_again pred.Sgt = refl
  pred_again pred.Sge = refl
  pred_again pred.Slt = refl
  pred_again pred.Sle = refl

  pred_no_flag : (p : Pred) → bytes_eq (pred_word p) (codes "samesign") ≡ false
  pred_no_flag pred.Eq = refl
  pred_no_flag pred.Ne = refl
  pred_no_flag pred.Ugt = refl
  pred_no_flag pred.Uge = refl
  pred_no_flag pred.Ult = refl
  pred_no_flag pred.Ule = refl
  pred_no_flag pred.Sgt = refl
  pred_no_flag pred.Sge = refl
  pred_no_flag pred.Slt = refl
  pred_no_flag pred.Sle = refl

  pred_spells : (p : Pred) → Spells {S = Unit {0}} text (plain (pred_of text)) tt (word spaced (pred_word p)) p tt
  pred_spells p = plain_spells {S = Unit {0}} text pred_by tt (record { gap = spaced; kind = kind.Word; bytes = pred_word p }) p (pred_again p)

  compare_read : (s t : Locals) (tokens : List Token) (o : Op) → (compare_parts m).means s tokens o t → Back (compare (over m text)) (codes "icmp") o s t
  unfolding compare_parts
  compare_read s t tokens o r =
      let p : Pred = r.first in
      let k = r.in_back in
      let of : Ty = k.first in
      let x = k.in_back in
      let y = x.in_back.in_back in
      let fits = type_fits m text bytes fit last r.between k.between k.front of k.in_front in
      let rest : List Piece = shown of x.first ++ (comma ++ shown of y.first) in
      subst (λ o. Back (compare (over m text)) (codes "icmp") o s t) (sym y.in_back.1) (record {
        pieces = word spaced (pred_word p) ++ (type_shown of ++ rest);
        are = λ gap. ap (λ l. word gap (codes "icmp") ++ (word spaced (pred_word p) ++ l)) (append_assoc (type_shown of) (shown of x.first) (comma ++ shown of y.first));
        back = ending y.in_back.2 (behind_returns (word_first text spaced (pred_word p) (codes "samesign") (type_shown of ++ rest) false (pred_no_flag p))
            (then_returns (lifted (plain (pred_of text)) r.in_front.1 (pred_spells p))
            (then_returns (type_back m text bytes fit last spaced k.front of k.in_front)
            (then_returns (operand_back m text bytes fit last of fits x.front x.first x.in_front)
            (then_returns (sign_back m text bytes fit last glued (codes ",") refl x.in_back.in_front.1)
            (made_returns (operand_back m text bytes fit last of fits y.front y.first y.in_front)))))));
      })

  pub compare_back : (s t : Locals) (tokens : List Token) (o : Op) → (compare m).means s tokens o t → Back (compare (over m text)) (codes "icmp") o s t
  compare_back s t tokens o r = compare_read s t r.back o r.read

  -- ---- `freeze` and `select`

  pub freeze_back : (s t : Locals) (tokens : List Token) (o : Op) → (freeze m).means s tokens o t → Back (freeze (over m text)) (codes "freeze") o s t
  unfolding freeze
  freeze_back s t tokens o r =
      let of : Ty = r.first in
      let x = r.in_back in
      subst (λ o. Back (freeze (over m text)) (codes "freeze") o s t) (sym x.in_back.1) (record {
        pieces = type_shown of ++ shown of x.first;
        are = λ gap. refl;
        back = ending x.in_back.2 (then_returns (type_back m text bytes fit last spaced r.front of r.in_front)
            (made_returns (operand_back m text bytes fit last of (type_fits m text bytes fit last s r.between r.front of r.in_front) x.front x.first x.in_front)));
      })

  pub select_back : (s t : Locals) (tokens : List Token) (o : Op) → (select m).means s tokens o t → Back (select (over m text)) (codes "select") o s t
  unfolding select
  select_back s t tokens o r =
      let c = r.in_back in
      let k = c.in_back.in_back in
      let of : Ty = k.first in
      let x = k.in_back in
      let z = x.in_back.in_back in
      let y = z.in_back in
      let fits = type_fits m text bytes fit last c.in_back.between k.between k.front of k.in_front in
      let choices : List Piece = type_shown of ++ (shown of x.first ++ (comma ++ (type_shown of ++ shown of y.first))) in
      subst (λ o. Back (select (over m text)) (codes "select") o s t) (sym y.in_back.1) (record {
        pieces = word spaced (codes "i1") ++ (shown (ty.Int 1) c.first ++ (comma ++ choices));
        are = λ gap. ap (λ w. word gap (codes "select") ++ (w ++ (shown (ty.Int 1) c.first ++ (comma ++ ((type_shown of ++ shown of x.first) ++ (comma ++ (type_shown of ++ shown of y.first))))))) (one_bit spaced)
            ∙ ap (λ l. word gap (codes "select") ++ (word spaced (codes "i1") ++ (shown (ty.Int 1) c.first ++ (comma ++ l)))) (append_assoc (type_shown of) (shown of x.first) (comma ++ (type_shown of ++ shown of y.first)));
        back = ending y.in_back.2
            (then_returns (word_back m text bytes fit last spaced (codes "i1") refl r.in_front.1)
            (then_returns (operand_back m text bytes fit last (ty.Int 1) (int_fits 1 widths.one_bit) c.front c.first c.in_front)
            (then_returns (sign_back m text bytes fit last glued (codes ",") refl c.in_back.in_front.1)
            (then_returns (type_back m text bytes fit last spaced k.front of k.in_front)
            (then_returns (operand_back m text bytes fit last of fits x.front x.first x.in_front)
            (then_returns (sign_back m text bytes fit last glued (codes ",") refl x.in_back.in_front.1)
            (then_returns (this_back m text bytes fit last spaced z.front of z.in_front)
            (made_returns (operand_back m text bytes fit last of fits y.front y.first y.in_front)))))))));
      })
