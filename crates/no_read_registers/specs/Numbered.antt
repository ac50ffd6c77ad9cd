-- Registers and labels of a function, numbered in the order in which they first appear (LLVM Language Reference, "Identifiers"
-- and "Functions").
use Rattle.std.specs.Prelude.{ℕ, ◌-◌, Bool, List, [], ◌∷◌, codes, length, take, drop, reverse, Result, Ok, Err, if◌then◌else◌}
use Rattle.no_ir.specs.Naming.{place_of, with_name}
use Rattle.no_lex.specs.declared.token.Token.{Token}
use Rattle.no_lex.specs.declared.token.TokenKind.TheVariants.{Local, Label}
use Rattle.no_read_rules.specs.declared.fault.Flaw.{Flaw}
use Rattle.no_read_rules.specs.declared.fault.Flaw.TheVariants.{Syntax, Number}
use Rattle.no_read_rules.specs.Rules.{Rule, one, change, checked, ◌>>=◌}
use Rattle.no_read_rules.specs.Spelled.{spelled, is_kind, a_word}
use Rattle.no_read_rules.specs.Unescaped.{name_of}
use Rattle.no_read_registers.specs.declared.locals.Locals.{Locals}
use Rattle.no_read_registers.specs.Counting.{next, behind_name, label_fits}

-- nothing has appeared
abbrev pub no_locals_yet : Locals
no_locals_yet = record { registers = []; labels = []; counter = 48 ∷ [] }

-- ---- names

-- the number of a register, and what has appeared with it
abbrev pub register_named : Locals → List ℕ → ℕ × Locals
register_named s name = (place_of s.registers name, record { registers = with_name s.registers name; labels = s.labels; counter = s.counter })

-- the number of a label, and what has appeared with it
abbrev pub label_named : Locals → List ℕ → ℕ × Locals
label_named s name = (place_of s.labels name, record { registers = s.registers; labels = with_name s.labels name; counter = s.counter })

-- the number of a register whose name is written at its definition, with which the counter goes on
abbrev pub register_defined : Locals → List ℕ → ℕ × Locals
register_defined s name = (place_of s.registers name, record { registers = with_name s.registers name; labels = s.labels; counter = behind_name s.counter name })

-- the number of a label whose name is written at its block, with which the counter goes on
abbrev pub label_defined : Locals → List ℕ → ℕ × Locals
label_defined s name = (place_of s.labels name, record { registers = s.registers; labels = with_name s.labels name; counter = behind_name s.counter name })

-- the number of a register that is defined without a written name: the counter's number is the name
abbrev pub register_unnamed : Locals → ℕ × Locals
register_unnamed s = (place_of s.registers (reverse s.counter), record { registers = with_name s.registers (reverse s.counter); labels = s.labels; counter = next s.counter })

-- the number of the label of a block without a written one: the counter's number is the name
abbrev pub label_unnamed : Locals → ℕ × Locals
label_unnamed s = (place_of s.labels (reverse s.counter), record { registers = s.registers; labels = with_name s.labels (reverse s.counter); counter = next s.counter })

-- ---- rules

-- the name behind the sign of a token
abbrev pub local_name : List ℕ → Token → List ℕ
local_name text token = name_of (drop 1 (spelled text token))

-- a register that is used, from its token
abbrev pub used_register : List ℕ → Locals → Token → Result (ℕ × Locals) Flaw
used_register text s token = if is_kind Local token then Ok (register_named s (local_name text token)) else Err Syntax

-- a register that is used
abbrev pub a_register : List ℕ → Rule Locals ℕ
a_register text = one (used_register text)

-- a register that a result or a parameter defines by its name, from its token
abbrev pub written_register : List ℕ → Locals → Token → Result (ℕ × Locals) Flaw
written_register text s token = if is_kind Local token then Ok (register_defined s (local_name text token)) else Err Syntax

-- a register that a result or a parameter defines by its name
abbrev pub a_definition : List ℕ → Rule Locals ℕ
a_definition text = one (written_register text)

-- a result or a parameter without a written name
abbrev pub no_name : Rule Locals ℕ
no_name = change register_unnamed

-- a label that is used, from its token
abbrev pub used_label : List ℕ → Locals → Token → Result (ℕ × Locals) Flaw
used_label text s token = if is_kind Local token then Ok (label_named s (local_name text token)) else Err Syntax

-- a label that is used, where no word stands before it
abbrev pub a_label_name : List ℕ → Rule Locals ℕ
a_label_name text = one (used_label text)

-- a label that is used, behind its word
unfoldable pub a_label : List ℕ → Rule Locals ℕ
a_label text = a_word text (codes "label") >>= λ _. a_label_name text

-- the name before the colon
abbrev pub without_colon : List ℕ → List ℕ
without_colon spelling = take (length spelling - 1) spelling

-- a label of this name at the beginning of a block; a number has to be below 2^32
abbrev pub label_by : Locals → List ℕ → Result (ℕ × Locals) Flaw
label_by s name = if label_fits name then Ok (label_defined s name) else Err Number

-- a label at the beginning of a block, from its token
abbrev pub written_label : List ℕ → Locals → Token → Result (ℕ × Locals) Flaw
written_label text s token = if is_kind Label token then label_by s (name_of (without_colon (spelled text token))) else Err Syntax

-- a label at the beginning of a block
abbrev pub a_block_label : List ℕ → Rule Locals ℕ
a_block_label text = one (written_label text)

-- the number of the label of a block without a written one, and whether the counter's number may be a label
abbrev pub numbered_label : Locals → (ℕ × Bool) × Locals
numbered_label s = (((label_unnamed s).0, label_fits (reverse s.counter)), (label_unnamed s).1)

-- the number of a label that may be one
abbrev pub fitting : ℕ × Bool → Result ℕ Flaw
fitting x = if x.1 then Ok x.0 else Err Number

-- a block without a label: the flaw stands at its first token
abbrev pub no_block_label : Rule Locals ℕ
no_block_label = checked (change numbered_label) fitting
