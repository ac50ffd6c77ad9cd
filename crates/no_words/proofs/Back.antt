-- What a word names has this word, and each word names what has it.
use Rattle.std.proofs.Common.{◌≡◌, ℕ, Bool, true, false, List, bytes_eq, codes, Option, Some, None, if◌then◌else◌, refl, sym, ap, ◌∙◌}
use Rattle.std.proofs.lemmas.Option.{same_Some}
use Rattle.std.proofs.lemmas.Slice.Eq.{bytes_eq-Decides}
use Rattle.no_eval.specs.Compare.{compare_of}
use Rattle.no_ir.specs.declared.instruction.BinOp.{BinOp}
use Rattle.no_ir.specs.declared.instruction.BinOp.TheVariants as by
use Rattle.no_ir.specs.declared.instruction.CastOp.{CastOp}
use Rattle.no_ir.specs.declared.instruction.CastOp.TheVariants as cast
use Rattle.no_ir.specs.declared.instruction.Pred.{Pred}
use Rattle.no_ir.specs.declared.instruction.Pred.TheVariants as pred
use Rattle.no_words.specs.Words.{binary_named, binary_word, cast_named, cast_word, letters_say, pred_named, pred_word}

-- ---- words are read back

pub binary_back : (x : BinOp) → binary_named (binary_word x) ≡ Some x
binary_back by.Add = refl
binary_back by.Sub = refl
binary_back by.Mul = refl
binary_back by.UDiv = refl
binary_back by.URem = refl
binary_back by.SDiv = refl
binary_back by.SRem = refl
binary_back by.Shl = refl
binary_back by.LShr = refl
binary_back by.AShr = refl
binary_back by.And = refl
binary_back by.Or = refl
binary_back by.Xor = refl

pub cast_back : (x : CastOp) → cast_named (cast_word x) ≡ Some x
cast_back cast.Trunc = refl
cast_back cast.ZExt = refl
cast_back cast.SExt = refl
cast_back cast.PtrToInt = refl
cast_back cast.IntToPtr = refl
cast_back cast.BitCast = refl

pub pred_back : (x : Pred) → pred_named (pred_word x) ≡ Some x
pred_back pred.Eq = refl
pred_back pred.Ne = refl
pred_back pred.Ugt = refl
pred_back pred.Uge = refl
pred_back pred.Ult = refl
pred_back pred.Ule = refl
pred_back pred.Sgt = refl
pred_back pred.Sge = refl
pred_back pred.Slt = refl
pred_back pred.Sle = refl

-- ---- and none other

-- where a word is this one, it names this; where not, what is found later
module _ {A : Type 0} (word_of : A → List ℕ) (word : List ℕ) (x : A) where
  or_later : (w : List ℕ) (y : A) (more : Option A) → word_of y ≡ w → (more ≡ Some x → word ≡ word_of x) → (b : Bool) → bytes_eq word w ≡ b → (if b then Some y else more) ≡ Some x → word ≡ word_of x
  or_later w y more is later true same found = (bytes_eq-Decides word w).0 same ∙ sym is ∙ ap word_of (same_Some y x found)
  or_later w y more is later false other found = later found

  last : (w : List ℕ) (y : A) → word_of y ≡ w → (if bytes_eq word w then Some y else None) ≡ Some x → word ≡ word_of x
  last w y is = or_later w y None is (λ e. absurd cc) (bytes_eq word w) refl

  next : (w : List ℕ) (y : A) (more : Option A) → word_of y ≡ w → (more ≡ Some x → word ≡ word_of x) → (if bytes_eq word w then Some y else more) ≡ Some x → word ≡ word_of x
  next w y more is later = or_later w y more is later (bytes_eq word w) refl

pub binary_only : (word : List ℕ) (x : BinOp) → binary_named word ≡ Some x → word ≡ binary_word x
binary_only word x =
    next binary_word word x (codes "add") by.Add _ refl
    (next binary_word word x (codes "sub") by.Sub _ refl
    (next binary_word word x (codes "mul") by.Mul _ refl
    (next binary_word word x (codes "udiv") by.UDiv _ refl
    (next binary_word word x (codes "urem") by.URem _ refl
    (next binary_word word x (codes "sdiv") by.SDiv _ refl
    (next binary_word word x (codes "srem") by.SRem _ refl
    (next binary_word word x (codes "shl") by.Shl _ refl
    (next binary_word word x (codes "lshr") by.LShr _ refl
    (next binary_word word x (codes "ashr") by.AShr _ refl
    (next binary_word word x (codes "and") by.And _ refl
    (next binary_word word x (codes "or") by.Or _ refl
    (last binary_word word x (codes "xor") by.Xor refl))))))))))))

pub cast_only : (word : List ℕ) (x : CastOp) → cast_named word ≡ Some x → word ≡ cast_word x
cast_only word x =
    next cast_word word x (codes "trunc") cast.Trunc _ refl
    (next cast_word word x (codes "zext") cast.ZExt _ refl
    (next cast_word word x (codes "sext") cast.SExt _ refl
    (next cast_word word x (codes "ptrtoint") cast.PtrToInt _ refl
    (next cast_word word x (codes "inttoptr") cast.IntToPtr _ refl
    (last cast_word word x (codes "bitcast") cast.BitCast refl)))))

pub pred_only : (word : List ℕ) (x : Pred) → pred_named word ≡ Some x → word ≡ pred_word x
pred_only word x =
    next pred_word word x (codes "eq") pred.Eq _ refl
    (next pred_word word x (codes "ne") pred.Ne _ refl
    (next pred_word word x (codes "ugt") pred.Ugt _ refl
    (next pred_word word x (codes "uge") pred.Uge _ refl
    (next pred_word word x (codes "ult") pred.Ult _ refl
    (next pred_word word x (codes "ule") pred.Ule _ refl
    (next pred_word word x (codes "sgt") pred.Sgt _ refl
    (next pred_word word x (codes "sge") pred.Sge _ refl
    (next pred_word word x (codes "slt") pred.Slt _ refl
    (last pred_word word x (codes "sle") pred.Sle refl)))))))))

-- ---- letters

pub letters : (p : Pred) (w a b : ℕ) → letters_say (pred_word p) w a b ≡ compare_of p w a b
letters pred.Eq w a b = refl
letters pred.Ne w a b = refl
letters pred.Ugt w a b = refl
letters pred.Uge w a b = refl
letters pred.Ult w a b = refl
letters pred.Ule w a b = refl
letters pred.Sgt w a b = refl
letters pred.Sge w a b = refl
letters pred.Slt w a b = refl
letters pred.Sle w a b = refl
