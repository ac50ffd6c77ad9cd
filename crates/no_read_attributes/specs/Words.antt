-- Words with a meaning of their own, which are no attributes.
use Rattle.std.specs.Prelude.{ℕ, Bool, false, not, ◌&&◌, ◌||◌, List, [], ◌∷◌, ◌==◌, nat_le, take, bytes_eq, codes, is_some}
use Rattle.std.specs.List.{list_all}
use Rattle.no_lex.specs.Spelling.{is_digits}
use Rattle.no_lex.specs.declared.token.Token.{Token}
use Rattle.no_lex.specs.declared.token.TokenKind.{TokenKind}
use Rattle.no_lex.specs.declared.token.TokenKind.TheVariants.{Word, Group, Meta, Sign}
use Rattle.no_words.specs.Words.{binary_named, cast_named}
use Rattle.no_read_rules.specs.Spelled.{spelled}

-- whether a word is one of these
abbrev pub is_one : List (List ℕ) → List ℕ → Bool
is_one [] word = false
is_one (w ∷ words) word = bytes_eq word w || is_one words word

-- ---- types (LLVM Language Reference, "Type System")

-- an `i` with digits
abbrev pub is_int_word : List ℕ → Bool
is_int_word [] = false
is_int_word (b ∷ bytes) = b == 105 && is_digits bytes

-- the integer types that there are
abbrev pub listed_ints : List (List ℕ)
listed_ints = codes "i1" ∷ codes "i8" ∷ codes "i16" ∷ codes "i32" ∷ codes "i64" ∷ []

-- a word that is a type
abbrev pub is_type_word : List ℕ → Bool
is_type_word word = is_int_word word || is_one (codes "void" ∷ codes "ptr" ∷ codes "label" ∷ []) word

-- ---- constants ("Constants")

-- the words that are constants
abbrev pub constant_words : List (List ℕ)
constant_words = codes "true" ∷ codes "false" ∷ codes "null" ∷ codes "undef" ∷ codes "poison" ∷ codes "zeroinitializer" ∷ []

-- ---- instructions ("Instruction Reference")

-- an operator, a conversion or a comparison, which begin constant expressions too
abbrev pub is_number_word : List ℕ → Bool
is_number_word word = is_some (binary_named word) || is_some (cast_named word) || bytes_eq word (codes "icmp")

-- the words that begin other instructions
abbrev pub instruction_words : List (List ℕ)
instruction_words =
    codes "freeze" ∷ codes "select" ∷ codes "phi" ∷ codes "alloca" ∷ codes "load" ∷ codes "store" ∷ codes "getelementptr" ∷ codes "call" ∷ codes "tail" ∷ codes "musttail" ∷ codes "notail"
    ∷ codes "br" ∷ codes "switch" ∷ codes "ret" ∷ codes "unreachable" ∷ []

-- ---- top forms ("Module Structure")

-- the words that begin a form at the top of a text
abbrev pub top_words : List (List ℕ)
top_words = codes "source_filename" ∷ codes "target" ∷ codes "define" ∷ codes "declare" ∷ codes "attributes" ∷ []

-- ---- words that the profile leaves out

-- types; operations on floating-point numbers; access to parts of aggregates and vectors, and atomic access; exceptions, variable
-- arguments, indirect branches, assembler and address spaces; and what stands at globals, functions, modules and parameters
abbrev pub left_out_words : List (List ℕ)
left_out_words =
    codes "half" ∷ codes "bfloat" ∷ codes "float" ∷ codes "double" ∷ codes "fp128" ∷ codes "x86_fp80" ∷ codes "ppc_fp128" ∷ codes "token" ∷ codes "metadata" ∷ codes "opaque"
    ∷ codes "fneg" ∷ codes "fadd" ∷ codes "fsub" ∷ codes "fmul" ∷ codes "fdiv" ∷ codes "frem" ∷ codes "fcmp"
    ∷ codes "extractvalue" ∷ codes "insertvalue" ∷ codes "extractelement" ∷ codes "insertelement" ∷ codes "shufflevector" ∷ codes "atomicrmw" ∷ codes "cmpxchg" ∷ codes "fence" ∷ codes "atomic"
    ∷ codes "invoke" ∷ codes "callbr" ∷ codes "resume" ∷ codes "landingpad" ∷ codes "catchpad" ∷ codes "cleanuppad" ∷ codes "catchswitch" ∷ codes "va_arg" ∷ codes "indirectbr" ∷ codes "asm"
    ∷ codes "addrspace" ∷ codes "addrspacecast"
    ∷ codes "thread_local" ∷ codes "external" ∷ codes "extern_weak" ∷ codes "alias" ∷ codes "ifunc" ∷ codes "comdat" ∷ codes "personality" ∷ codes "module"
    ∷ codes "byval" ∷ codes "inalloca" ∷ codes "preallocated" ∷ codes "swifterror" ∷ codes "nest" ∷ []

-- a word that is left out wherever no form allows it: one of these words, or an integer type of another width
abbrev pub is_left_out_word : List ℕ → Bool
is_left_out_word word = is_one left_out_words word || (is_int_word word && not (is_one listed_ints word))

-- the name of a debug record
abbrev pub is_record : List ℕ → Bool
is_record spelling = bytes_eq (take 5 spelling) (codes "#dbg_")

-- the name of a debug node
abbrev pub is_node : List ℕ → Bool
is_node spelling = bytes_eq (take 3 spelling) (codes "!DI")

-- whether a token of this kind and spelling is left out wherever no form allows it
abbrev pub left_out_by : TokenKind → List ℕ → Bool
left_out_by Word spelling = is_left_out_word spelling
left_out_by Sign spelling = bytes_eq spelling (codes "...")
left_out_by Meta spelling = is_node spelling
left_out_by Group spelling = is_record spelling
left_out_by _ spelling = false

-- a token that is left out wherever no form allows it
abbrev pub is_left_out : List ℕ → Token → Bool
is_left_out text token = left_out_by token.kind (spelled text token)

-- ---- attributes

-- a word that may be an attribute: none with a meaning of its own
abbrev pub is_attribute_word : List ℕ → Bool
is_attribute_word word =
    not (is_type_word word || is_number_word word || is_one constant_words word || is_one instruction_words word || is_one top_words word || is_one left_out_words word)
