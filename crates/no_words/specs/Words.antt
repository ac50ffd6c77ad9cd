-- The words of operators, conversions and comparisons, both ways (LLVM Language Reference, "Instruction Reference").
use Rattle.std.specs.Prelude.{ℕ, ◌==◌, Bool, false, not, List, [], ◌∷◌, bytes_eq, codes, nat_lt, nat_le, int_lt, int_le, Option, Some, None, if◌then◌else◌}
use Rattle.no_ir.specs.declared.instruction.BinOp.{BinOp}
use Rattle.no_ir.specs.declared.instruction.BinOp.TheVariants as by
use Rattle.no_ir.specs.declared.instruction.CastOp.{CastOp}
use Rattle.no_ir.specs.declared.instruction.CastOp.TheVariants as cast
use Rattle.no_ir.specs.declared.instruction.Pred.{Pred}
use Rattle.no_ir.specs.declared.instruction.Pred.TheVariants as pred
use Rattle.no_eval.specs.Numbers.{signed}

-- ---- words

-- the word of a binary operator
abbrev pub binary_word : BinOp → List ℕ
binary_word by.Add = codes "add"
binary_word by.Sub = codes "sub"
binary_word by.Mul = codes "mul"
binary_word by.UDiv = codes "udiv"
binary_word by.URem = codes "urem"
binary_word by.SDiv = codes "sdiv"
binary_word by.SRem = codes "srem"
binary_word by.Shl = codes "shl"
binary_word by.LShr = codes "lshr"
binary_word by.AShr = codes "ashr"
binary_word by.And = codes "and"
binary_word by.Or = codes "or"
binary_word by.Xor = codes "xor"

-- the word of a conversion
abbrev pub cast_word : CastOp → List ℕ
cast_word cast.Trunc = codes "trunc"
cast_word cast.ZExt = codes "zext"
cast_word cast.SExt = codes "sext"
cast_word cast.PtrToInt = codes "ptrtoint"
cast_word cast.IntToPtr = codes "inttoptr"
cast_word cast.BitCast = codes "bitcast"

-- the word of a comparison
abbrev pub pred_word : Pred → List ℕ
pred_word pred.Eq = codes "eq"
pred_word pred.Ne = codes "ne"
pred_word pred.Ugt = codes "ugt"
pred_word pred.Uge = codes "uge"
pred_word pred.Ult = codes "ult"
pred_word pred.Ule = codes "ule"
pred_word pred.Sgt = codes "sgt"
pred_word pred.Sge = codes "sge"
pred_word pred.Slt = codes "slt"
pred_word pred.Sle = codes "sle"

-- ---- what words name

-- a binary operator by its word
abbrev pub binary_named : List ℕ → Option BinOp
binary_named word =
    if bytes_eq word (codes "add") then Some by.Add
    else (if bytes_eq word (codes "sub") then Some by.Sub
    else (if bytes_eq word (codes "mul") then Some by.Mul
    else (if bytes_eq word (codes "udiv") then Some by.UDiv
    else (if bytes_eq word (codes "urem") then Some by.URem
    else (if bytes_eq word (codes "sdiv") then Some by.SDiv
    else (if bytes_eq word (codes "srem") then Some by.SRem
    else (if bytes_eq word (codes "shl") then Some by.Shl
    else (if bytes_eq word (codes "lshr") then Some by.LShr
    else (if bytes_eq word (codes "ashr") then Some by.AShr
    else (if bytes_eq word (codes "and") then Some by.And
    else (if bytes_eq word (codes "or") then Some by.Or
    else (if bytes_eq word (codes "xor") then Some by.Xor
    else None))))))))))))

-- a conversion by its word
abbrev pub cast_named : List ℕ → Option CastOp
cast_named word =
    if bytes_eq word (codes "trunc") then Some cast.Trunc
    else (if bytes_eq word (codes "zext") then Some cast.ZExt
    else (if bytes_eq word (codes "sext") then Some cast.SExt
    else (if bytes_eq word (codes "ptrtoint") then Some cast.PtrToInt
    else (if bytes_eq word (codes "inttoptr") then Some cast.IntToPtr
    else (if bytes_eq word (codes "bitcast") then Some cast.BitCast
    else None)))))

-- a comparison by its word
abbrev pub pred_named : List ℕ → Option Pred
pred_named word =
    if bytes_eq word (codes "eq") then Some pred.Eq
    else (if bytes_eq word (codes "ne") then Some pred.Ne
    else (if bytes_eq word (codes "ugt") then Some pred.Ugt
    else (if bytes_eq word (codes "uge") then Some pred.Uge
    else (if bytes_eq word (codes "ult") then Some pred.Ult
    else (if bytes_eq word (codes "ule") then Some pred.Ule
    else (if bytes_eq word (codes "sgt") then Some pred.Sgt
    else (if bytes_eq word (codes "sge") then Some pred.Sge
    else (if bytes_eq word (codes "slt") then Some pred.Slt
    else (if bytes_eq word (codes "sle") then Some pred.Sle
    else None)))))))))

-- ---- what the letters of a comparison say: of numbers as they are (u) or of their signed readings (s), greater or less, or equal

-- one of four orders by its two letters
abbrev pub in_order : {A : Type 0} → (A → A → Bool) → (A → A → Bool) → List ℕ → A → A → Bool
in_order less least word a b =
    if bytes_eq word (codes "gt") then less b a
    else (if bytes_eq word (codes "ge") then least b a
    else (if bytes_eq word (codes "lt") then less a b
    else (if bytes_eq word (codes "le") then least a b
    else false)))

-- whether two numbers of w bits are as the letters of a word say
abbrev pub letters_say : List ℕ → ℕ → ℕ → ℕ → Bool
letters_say [] w a b = false
letters_say (letter ∷ order) w a b =
    if bytes_eq (letter ∷ order) (codes "eq") then a == b
    else (if bytes_eq (letter ∷ order) (codes "ne") then not (a == b)
    else (if letter == 117 then in_order nat_lt nat_le order a b
    else (if letter == 115 then in_order int_lt int_le order (signed w a) (signed w b)
    else false)))
