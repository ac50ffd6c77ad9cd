-- Memory access and addressing (LLVM Language Reference, "Memory Access and Addressing Operations").
use Rattle.std.specs.Prelude.{ℕ, Bool, true, false, not, ◌&&◌, List, [], ◌∷◌, codes, Some, None}
use Rattle.no_lex.specs.declared.token.Token.{Token}
use Rattle.no_lex.specs.declared.token.TokenKind.TheVariants.{Meta}
use Rattle.no_ir.specs.declared.function.Role.{Role}
use Rattle.no_ir.specs.declared.instruction.Op.{Op}
use Rattle.no_ir.specs.declared.instruction.Operand.{Operand}
use Rattle.no_ir.specs.declared.instruction.Op.TheVariants as op
use Rattle.no_read_rules.specs.Rules.{Rule, done, ◌>>=◌, lift, if_next}
use Rattle.no_read_rules.specs.Scope.{Meaning}
use Rattle.no_read_rules.specs.Spelled.{is_kind, is_word}
use Rattle.no_read_constants.specs.Places.{is_flag}
use Rattle.no_read_constants.specs.Skipped.{behind}
use Rattle.no_read_registers.specs.declared.locals.Locals.{Locals}
use Rattle.no_read_operations.specs.Folded.{folded}
use Rattle.no_read_operations.specs.Operands.{word, sign, some_type, an_operand, a_pointer, sized_operand}
use Rattle.no_read_operations.specs.Ends.{is_comma, an_alignment, an_attachment, listed, some_listed}
use Rattle.no_read_operations.specs.declared.ends.Listed.{Listed}
use Rattle.no_read_operations.specs.declared.memory.AllocaEnd.{AllocaEnd}

-- whether a token is the word `volatile`
abbrev pub is_volatile : List ℕ → Token → Bool
is_volatile text = is_word text (codes "volatile")

-- ---- loads and stores

-- a type, and an address
unfoldable pub load_parts : Meaning → Bool → Rule Locals Op
load_parts m volatile = do
  of ← some_type m
  _ ← sign m.text (codes ",")
  place ← a_pointer m
  done (op.Load volatile of place)

-- the word `volatile`, and then the parts of a load
unfoldable pub volatile_load : Meaning → Rule Locals Op
volatile_load m = word m.text (codes "volatile") >>= λ _. load_parts m true

-- behind the word `load`: an optional `volatile`, a type, and an address
abbrev pub load : Meaning → Rule Locals Op
load m = if_next (is_volatile m.text) (volatile_load m) (load_parts m false)

-- a value with its type, and an address
unfoldable pub store_parts : Meaning → Bool → Rule Locals Op
store_parts m volatile = do
  of ← some_type m
  value ← an_operand m of
  _ ← sign m.text (codes ",")
  place ← a_pointer m
  done (op.Store volatile of value place)

-- the word `volatile`, and then the parts of a store
unfoldable pub volatile_store : Meaning → Rule Locals Op
volatile_store m = word m.text (codes "volatile") >>= λ _. store_parts m true

-- behind the word `store`: an optional `volatile`, a value with its type, and an address
abbrev pub store : Meaning → Rule Locals Op
store m = if_next (is_volatile m.text) (volatile_store m) (store_parts m false)

-- ---- `getelementptr`

-- behind a comma: at least one index, and attachments
unfoldable pub all_indices : Meaning → Role → Rule Locals (Listed (ℕ × Operand))
all_indices m role = sign m.text (codes ",") >>= λ _. some_listed m.text role (sized_operand m)

-- behind the flags of `getelementptr`: a type, an address, at least one index, and attachments
unfoldable pub address_parts : Meaning → Role → Rule Locals (Op × Bool)
address_parts m role = do
  base ← some_type m
  _ ← sign m.text (codes ",")
  place ← a_pointer m
  _ ← sign m.text (codes ",")
  first ← sized_operand m
  all ← listed m.text role (sized_operand m) (record { items = first ∷ []; begun = false; inserted = false })
  done (op.Gep base place all.items, all.inserted)

-- behind the word `getelementptr`: flags without an effect, a type, an address, at least one index, and attachments
abbrev pub address : Meaning → Role → Rule Locals (Op × Bool)
address m role = behind (is_flag m.text) (address_parts m role)

-- ---- `alloca`

-- whether an alignment begins here, where one is still allowed
abbrev pub opens_alignment : List ℕ → AllocaEnd → Token → Bool
opens_alignment text e token = e.aligns && is_word text (codes "align") token

-- whether a count begins here, where one is still allowed
abbrev pub opens_count : AllocaEnd → Token → Bool
opens_count e token = e.counts && not (is_kind Meta token)

-- an alignment, behind which attachments alone may stand
unfoldable pub stated_alignment : List ℕ → AllocaEnd → Rule Locals AllocaEnd
stated_alignment text e = lift (an_alignment text) >>= λ n. done (record { counts = false; aligns = false; count = e.count; align = Some n; inserted = e.inserted })

-- a count, behind which no other may stand
unfoldable pub stated_count : Meaning → AllocaEnd → Rule Locals AllocaEnd
stated_count m e = sized_operand m >>= λ n. done (record { counts = false; aligns = e.aligns; count = Some n; align = e.align; inserted = e.inserted })

-- an attachment, behind which attachments alone may stand
unfoldable pub alloca_attachment : List ℕ → Role → AllocaEnd → Rule Locals AllocaEnd
alloca_attachment text role e = lift (an_attachment text role e.inserted) >>= λ inserted. done (record { counts = false; aligns = false; count = e.count; align = e.align; inserted = inserted })

-- a count where one begins, or else an attachment
abbrev pub count_or_attachment : Meaning → Role → AllocaEnd → Rule Locals AllocaEnd
count_or_attachment m role e = if_next (opens_count e) (stated_count m e) (alloca_attachment m.text role e)

-- behind a comma: a count, an alignment, or an attachment, in this order, the first two at most once
unfoldable pub alloca_step : Meaning → Role → AllocaEnd → Rule Locals AllocaEnd
alloca_step m role e = sign m.text (codes ",") >>= λ _. if_next (opens_alignment m.text e) (stated_alignment m.text e) (count_or_attachment m role e)

-- nothing stands behind the type yet
abbrev pub alloca_start : AllocaEnd
alloca_start = record { counts = true; aligns = true; count = None; align = None; inserted = false }

-- behind the word `alloca`: a type, and a count, an alignment and attachments behind commas
unfoldable pub alloca : Meaning → Role → Rule Locals (Op × Bool)
alloca m role = do
  of ← some_type m
  e ← folded (is_comma m.text) (alloca_step m role) alloca_start
  done (op.Alloca of e.count e.align, e.inserted)
