-- What begins a constant is spelled again.
use Rattle.std.proofs.Common.{◌≡◌, ℕ, zero, suc, ◌^◌, ◌<◌, ◌≤◌, Bool, true, false, ◌==◌, List, [], ◌∷◌, codes, bytes_eq, Result, Ok, Err, if◌then◌else◌, refl, sym, ap, subst, arith, pow_pos}
use Rattle.std.specs.Fmt.{signed_decimal}
use Rattle.std.proofs.lemmas.Bool.{eqb-true}
use Rattle.no_lex.specs.declared.token.TokenKind.{TokenKind}
use Rattle.no_lex.specs.declared.token.TokenKind.TheVariants as kind
use Rattle.no_ir.specs.declared.types.Ty.{Ty}
use Rattle.no_ir.specs.declared.types.Ty.TheOpen.{Ty-F}
use Rattle.no_read_rules.specs.declared.fault.Flaw.{Flaw}
use Rattle.no_read_rules.specs.Numbers.{integer_at}
use Rattle.no_read_rules.specs.Rules.{plain}
use Rattle.no_read_constants.specs.Places.{truth_at}
use Rattle.no_read_constants.specs.Constants.{shape_in, zero_at, null_at, as_int, word_at, word_const, integer_in, leaf_by, leaf_head, as_leaf, const_by, const_head}
use Rattle.no_read_constants.specs.declared.constants.Shape.{Shape}
use Rattle.no_read_constants.specs.declared.constants.Shape.TheVariants as shape
use Rattle.no_read_constants.specs.declared.constants.LeafHead.{LeafHead}
use Rattle.no_read_constants.specs.declared.constants.LeafHead.TheVariants as leaf
use Rattle.no_read_constants.specs.declared.constants.ConstHead.TheVariants as head
use Rattle.no_print.specs.Pieces.{Piece, piece, word}
use Rattle.no_eval.specs.Numbers.{signed}
use Rattle.no_print.specs.Names.{truth, number}
use Rattle.no_print.specs.Constants.{zero_in, width_in}
use Rattle.no_round_trip.specs.Spells.{Spells, WidthFits}
use Rattle.no_round_trip.proofs.RuleFrame.{plain_spells}
use Rattle.no_round_trip.proofs.WordNumbers.{integer_again}
use Rattle.no_round_trip.proofs.ConstPlaces.{integer_small, truth_small}

-- ---- what was read

-- what a constant's beginning says of the type
abbrev pub LeafAgain : Ty-F Ty → LeafHead → Type 0
LeafAgain (Ty-F.Int w) leaf.Zero = ⊥
LeafAgain (Ty-F.Int w) (leaf.Int n) = n < 2 ^ w
LeafAgain x leaf.Zero = Unit {0}
LeafAgain x (leaf.Int n) = ⊥
LeafAgain x leaf.Text = Unit {0}
LeafAgain x leaf.PtrToInt = Unit {0}
LeafAgain x leaf.IntToPtr = Unit {0}

-- the same by shape
abbrev ShapeAgain : Shape → LeafHead → Type 0
ShapeAgain (shape.Int w) leaf.Zero = ⊥
ShapeAgain (shape.Int w) (leaf.Int n) = n < 2 ^ w
ShapeAgain s leaf.Zero = Unit {0}
ShapeAgain s (leaf.Int n) = ⊥
ShapeAgain s leaf.Text = Unit {0}
ShapeAgain s leaf.PtrToInt = Unit {0}
ShapeAgain s leaf.IntToPtr = Unit {0}

by_shape : (x : Ty-F Ty) (l : LeafHead) → ShapeAgain (shape_in x) l → LeafAgain x l
by_shape (Ty-F.Int w) leaf.Zero h = h
by_shape (Ty-F.Int w) (leaf.Int n) h = h
by_shape Ty-F.Void leaf.Zero h = tt
by_shape Ty-F.Ptr leaf.Zero h = tt
by_shape (Ty-F.Array n e) leaf.Zero h = tt
by_shape (Ty-F.Struct p fs) leaf.Zero h = tt
by_shape (Ty-F.Named n) leaf.Zero h = tt
by_shape Ty-F.Void (leaf.Int n) h = h
by_shape Ty-F.Ptr (leaf.Int n) h = h
by_shape (Ty-F.Array k e) (leaf.Int n) h = h
by_shape (Ty-F.Struct p fs) (leaf.Int n) h = h
by_shape (Ty-F.Named k) (leaf.Int n) h = h
by_shape x leaf.Text h = tt
by_shape x leaf.PtrToInt h = tt
by_shape x leaf.IntToPtr h = tt

same_leaf : (x y : LeafHead) → (let r : Result LeafHead Flaw = Ok x in r) ≡ Ok y → x ≡ y
same_leaf x y e = cc

same_number : (x y : ℕ) → (let r : Result ℕ Flaw = Ok x in r) ≡ Ok y → x ≡ y
same_number x y e = cc

zero_again : (s : Shape) → ShapeAgain s (zero_at s)
zero_again (shape.Int w) = pow_pos w
zero_again shape.Ptr = tt
zero_again shape.Array = tt
zero_again shape.Struct = tt
zero_again shape.Other = tt

pointer_again : (s : Shape) → ShapeAgain s leaf.PtrToInt
pointer_again (shape.Int w) = tt
pointer_again shape.Ptr = tt
pointer_again shape.Array = tt
pointer_again shape.Struct = tt
pointer_again shape.Other = tt

integer_pointer_again : (s : Shape) → ShapeAgain s leaf.IntToPtr
integer_pointer_again (shape.Int w) = tt
integer_pointer_again shape.Ptr = tt
integer_pointer_again shape.Array = tt
integer_pointer_again shape.Struct = tt
integer_pointer_again shape.Other = tt

text_again : (s : Shape) → ShapeAgain s leaf.Text
text_again (shape.Int w) = tt
text_again shape.Ptr = tt
text_again shape.Array = tt
text_again shape.Struct = tt
text_again shape.Other = tt

null_again : (s : Shape) (l : LeafHead) → null_at s ≡ Ok l → ShapeAgain s l
null_again shape.Ptr l e = subst (ShapeAgain shape.Ptr) (same_leaf leaf.Zero l e) tt
null_again (shape.Int w) l e = absurd cc
null_again shape.Array l e = absurd cc
null_again shape.Struct l e = absurd cc
null_again shape.Other l e = absurd cc

int_of : (w : ℕ) (r : Result ℕ Flaw) (l : LeafHead) → ((n : ℕ) → r ≡ Ok n → n < 2 ^ w) → as_int r ≡ Ok l → ShapeAgain (shape.Int w) l
int_of w (Ok n) l small e = subst (ShapeAgain (shape.Int w)) (same_leaf (leaf.Int n) l e) (small n refl)
int_of w (Err flaw) l small e = absurd cc

truth_again : (s : Shape) (bytes : List ℕ) (l : LeafHead) → word_at s bytes ≡ Ok l → ShapeAgain s l
truth_again (shape.Int w) bytes l e = int_of w (truth_at w bytes) l (λ n k. let t = truth_small w bytes n k in rw t.0 t.1) e
truth_again shape.Ptr bytes l e = absurd cc
truth_again shape.Array bytes l e = absurd cc
truth_again shape.Struct bytes l e = absurd cc
truth_again shape.Other bytes l e = absurd cc

word_again : (s : Shape) (bytes : List ℕ) (l : LeafHead) → word_const s bytes ≡ Ok l → ShapeAgain s l
word_again s bytes l e =
    turn (bytes_eq bytes (codes "undef")) (zero_at s) _ (zero_again s) (λ e.
    turn (bytes_eq bytes (codes "poison")) (zero_at s) _ (zero_again s) (λ e.
    turn (bytes_eq bytes (codes "zeroinitializer")) (zero_at s) _ (zero_again s) (λ e.
    null_turn (bytes_eq bytes (codes "null")) (λ e.
    turn (bytes_eq bytes (codes "ptrtoint")) leaf.PtrToInt _ (pointer_again s) (λ e.
    turn (bytes_eq bytes (codes "inttoptr")) leaf.IntToPtr _ (integer_pointer_again s) (λ e. truth_again s bytes l e) e) e) e) e) e) e
  where
    turn : (b : Bool) (a : LeafHead) (rest : Result LeafHead Flaw) → ShapeAgain s a → (rest ≡ Ok l → ShapeAgain s l) → (if b then Ok a else rest) ≡ Ok l → ShapeAgain s l
    turn true a rest here other k = subst (ShapeAgain s) (same_leaf a l k) here
    turn false a rest here other k = other k

    null_turn : (b : Bool) {rest : Result LeafHead Flaw} → (rest ≡ Ok l → ShapeAgain s l) → (if b then null_at s else rest) ≡ Ok l → ShapeAgain s l
    null_turn true other k = null_again s l k
    null_turn false other k = other k

integer_leaf_again : (s : Shape) (bytes : List ℕ) (l : LeafHead) → integer_in s bytes ≡ Ok l → ShapeAgain s l
integer_leaf_again (shape.Int w) bytes l e = int_of w (integer_at w bytes) l (λ n k. integer_small w bytes n k) e
integer_leaf_again shape.Ptr bytes l e = absurd cc
integer_leaf_again shape.Array bytes l e = absurd cc
integer_leaf_again shape.Struct bytes l e = absurd cc
integer_leaf_again shape.Other bytes l e = absurd cc

by_kind : (s : Shape) (k : TokenKind) (bytes : List ℕ) (l : LeafHead) → leaf_by s k bytes ≡ Ok l → ShapeAgain s l
by_kind s kind.Word bytes l e = word_again s bytes l e
by_kind s kind.Integer bytes l e = integer_leaf_again s bytes l e
by_kind s kind.CMark bytes l e = subst (ShapeAgain s) (same_leaf leaf.Text l e) (text_again s)
by_kind s _ bytes l e = absurd cc

pub leaf_again : (x : Ty-F Ty) (k : TokenKind) (bytes : List ℕ) (l : LeafHead) → leaf_by (shape_in x) k bytes ≡ Ok l → LeafAgain x l
leaf_again x k bytes l e = by_shape x l (by_kind (shape_in x) k bytes l e)

-- ---- how it is spelled

abbrev pub leaf_first : Ty-F Ty → List ℕ → LeafHead → List Piece
leaf_first x gap leaf.Zero = zero_in gap x
leaf_first x gap (leaf.Int n) = number (width_in x) gap n
leaf_first x gap leaf.Text = piece kind.CMark gap (codes "c")
leaf_first x gap leaf.PtrToInt = word gap (codes "ptrtoint")
leaf_first x gap leaf.IntToPtr = word gap (codes "inttoptr")

-- one piece, which is read as that beginning
pub record OneLeaf (s : Shape) (l : LeafHead) (pieces : List Piece) : Type 0 where
  pub piece : Piece
  pub is : pieces ≡ piece ∷ []
  pub reads : leaf_by s piece.kind piece.bytes ≡ Ok l

one_zero : (x : Ty-F Ty) (gap : List ℕ) → LeafAgain x leaf.Zero → OneLeaf (shape_in x) leaf.Zero (zero_in gap x)
one_zero (Ty-F.Int w) gap h = absurd h
one_zero Ty-F.Ptr gap h = record { piece = record { gap = gap; kind = kind.Word; bytes = codes "null" }; is = refl; reads = refl }
one_zero Ty-F.Void gap h = record { piece = record { gap = gap; kind = kind.Word; bytes = codes "zeroinitializer" }; is = refl; reads = refl }
one_zero (Ty-F.Array n e) gap h = record { piece = record { gap = gap; kind = kind.Word; bytes = codes "zeroinitializer" }; is = refl; reads = refl }
one_zero (Ty-F.Struct p fs) gap h = record { piece = record { gap = gap; kind = kind.Word; bytes = codes "zeroinitializer" }; is = refl; reads = refl }
one_zero (Ty-F.Named n) gap h = record { piece = record { gap = gap; kind = kind.Word; bytes = codes "zeroinitializer" }; is = refl; reads = refl }

one_truth : (w n : ℕ) (gap : List ℕ) → w ≡ 1 → n < 2 → OneLeaf (shape.Int w) (leaf.Int n) (truth gap n)
one_truth w zero gap is h = record { piece = record { gap = gap; kind = kind.Word; bytes = codes "false" }; is = refl; reads = rw is refl }
one_truth w (suc zero) gap is h = record { piece = record { gap = gap; kind = kind.Word; bytes = codes "true" }; is = refl; reads = rw is refl }
one_truth w (suc (suc n)) gap is h = absurd (omega arith)

one_number : (w n : ℕ) (gap : List ℕ) → 0 < w → w ≤ 64 → n < 2 ^ w → OneLeaf (shape.Int w) (leaf.Int n) (number w gap n)
one_number w n gap some most h = by (w == 1) refl
  where
    by : (b : Bool) → (w == 1) ≡ b → OneLeaf (shape.Int w) (leaf.Int n) (if b then truth gap n else piece kind.Integer gap (signed_decimal (signed w n)))
    by true e = let is : w ≡ 1 = eqb-true w 1 e in one_truth w n gap is (let k : n < 2 ^ 1 = subst (λ v. n < 2 ^ v) is h in omega arith)
    by false e = record { piece = record { gap = gap; kind = kind.Integer; bytes = signed_decimal (signed w n) }; is = refl; reads = ap as_int (integer_again w n some most h) }

one_int : (x : Ty-F Ty) (n : ℕ) (gap : List ℕ) → WidthFits x → LeafAgain x (leaf.Int n) → OneLeaf (shape_in x) (leaf.Int n) (number (width_in x) gap n)
one_int (Ty-F.Int w) n gap fits h = one_number w n gap fits.0 fits.1 h
one_int Ty-F.Void n gap fits h = absurd h
one_int Ty-F.Ptr n gap fits h = absurd h
one_int (Ty-F.Array k e) n gap fits h = absurd h
one_int (Ty-F.Struct p fs) n gap fits h = absurd h
one_int (Ty-F.Named k) n gap fits h = absurd h

one_leaf : (x : Ty-F Ty) (gap : List ℕ) (l : LeafHead) → WidthFits x → LeafAgain x l → OneLeaf (shape_in x) l (leaf_first x gap l)
one_leaf x gap leaf.Zero fits h = one_zero x gap h
one_leaf x gap (leaf.Int n) fits h = one_int x n gap fits h
one_leaf x gap leaf.Text fits h = record { piece = record { gap = gap; kind = kind.CMark; bytes = codes "c" }; is = refl; reads = refl }
one_leaf x gap leaf.PtrToInt fits h = record { piece = record { gap = gap; kind = kind.Word; bytes = codes "ptrtoint" }; is = refl; reads = refl }
one_leaf x gap leaf.IntToPtr fits h = record { piece = record { gap = gap; kind = kind.Word; bytes = codes "inttoptr" }; is = refl; reads = refl }

-- where brackets may stand it is read alike
as_bracket : (s : Shape) (k : TokenKind) (bytes : List ℕ) (l : LeafHead) → leaf_by s k bytes ≡ Ok l → const_by s k bytes ≡ Ok (head.Leaf l)
as_bracket s kind.Sign bytes l e = absurd cc
as_bracket s _ bytes l e = ap as_leaf e

pub flat_spells : (text gap : List ℕ) (x : Ty-F Ty) (l : LeafHead) → WidthFits x → LeafAgain x l → Spells {S = Unit {0}} text (plain (leaf_head text (shape_in x))) tt (leaf_first x gap l) l tt
flat_spells text gap x l fits h =
    let o = one_leaf x gap l fits h in
    subst (λ ps. Spells {S = Unit {0}} text (plain (leaf_head text (shape_in x))) tt ps l tt) (sym o.is) (plain_spells {S = Unit {0}} text (leaf_by (shape_in x)) tt o.piece l o.reads)

pub bracket_spells : (text gap : List ℕ) (x : Ty-F Ty) (l : LeafHead) → WidthFits x → LeafAgain x l → Spells {S = Unit {0}} text (plain (const_head text (shape_in x))) tt (leaf_first x gap l) (head.Leaf l) tt
bracket_spells text gap x l fits h =
    let o = one_leaf x gap l fits h in
    subst (λ ps. Spells {S = Unit {0}} text (plain (const_head text (shape_in x))) tt ps (head.Leaf l) tt) (sym o.is)
    (plain_spells {S = Unit {0}} text (const_by (shape_in x)) tt o.piece (head.Leaf l) (as_bracket (shape_in x) o.piece.kind o.piece.bytes l o.reads))
