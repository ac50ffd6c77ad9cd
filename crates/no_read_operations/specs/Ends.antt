-- What follows an instruction's form behind commas: alignments, and metadata attachments (LLVM Language Reference, "Metadata").
use Rattle.std.specs.Prelude.{ℕ, Bool, true, false, not, ◌&&◌, ◌||◌, List, [], ◌∷◌, ◌++◌, codes, bytes_eq, Result, Ok, Err, if◌then◌else◌}
use Rattle.no_lex.specs.declared.token.Token.{Token}
use Rattle.no_lex.specs.declared.token.TokenKind.TheVariants.{Meta}
use Rattle.no_ir.specs.declared.function.Role.{Role}
use Rattle.no_ir.specs.declared.function.Role.TheVariants.{Source, Part}
use Rattle.no_ir.specs.declared.instruction.Op.{Op}
use Rattle.no_read_rules.specs.declared.fault.Flaw.{Flaw}
use Rattle.no_read_rules.specs.declared.fault.Flaw.TheVariants.{Syntax}
use Rattle.no_read_rules.specs.declared.fault.Stopped.{Stopped}
use Rattle.no_read_attributes.specs.Attributes.{alignment_of}
use Rattle.no_read_attributes.specs.Words as words
use Rattle.no_read_rules.specs.Rules.{Rule, plain, done, ◌>>=◌, lift, if_next}
use Rattle.no_read_rules.specs.Spelled.{spelled, is_kind, is_word, is_sign, a_word, a_sign}
use Rattle.no_read_registers.specs.declared.locals.Locals.{Locals}
use Rattle.no_read_operations.specs.Folded.{folded}
use Rattle.no_read_operations.specs.Operands.{sign}
use Rattle.no_read_operations.specs.declared.ends.Ending.{Ending}
use Rattle.no_read_operations.specs.declared.ends.Listed.{Listed}

-- whether a token is a comma
abbrev pub is_comma : List ℕ → Token → Bool
is_comma text = is_sign text (codes ",")

-- ---- alignments

-- the word `align`, and a power of two up to 65,536
unfoldable pub an_alignment : List ℕ → Rule (Unit {0}) ℕ
an_alignment text = a_word text (codes "align") >>= λ _. plain (alignment_of text)

-- ---- attachments

-- metadata has a name or a number, which does not begin as a node of debug information does
abbrev pub names_node : List ℕ → Bool
names_node spelling = not (bytes_eq spelling (codes "!")) && not (words.is_node spelling)

-- whether a token is a name or a number of metadata
abbrev pub is_node : List ℕ → Token → Bool
is_node text token = is_kind Meta token && names_node (spelled text token)

-- whether a node has this name
abbrev pub node_is : List ℕ → List ℕ → Token → Result Bool Flaw
node_is text name token = if is_node text token then Ok (bytes_eq (spelled text token) name) else Err Syntax

-- in a server's part, an attachment of this kind and node says that the partition made the instruction
abbrev pub marks : Role → Bool → Bool → Bool
marks Source kind node = false
marks Part kind node = kind && node

-- an attachment: its kind and its node; whether it or one before it says that the partition made the instruction
unfoldable pub an_attachment : List ℕ → Role → Bool → Rule (Unit {0}) Bool
an_attachment text role inserted = do
  kind ← plain (node_is text (codes "!no.x"))
  node ← plain (node_is text (codes "!0"))
  done (inserted || marks role kind node)

-- ---- the end of an instruction

-- whether an alignment begins here, where one is still allowed
abbrev pub opens_alignment : List ℕ → Ending → Token → Bool
opens_alignment text e token = e.aligns && is_word text (codes "align") token

-- an alignment, behind which attachments alone may stand
unfoldable pub end_alignment : List ℕ → Ending → Rule (Unit {0}) Ending
end_alignment text e = an_alignment text >>= λ _. done (record { aligns = false; inserted = e.inserted })

-- an attachment, behind which attachments alone may stand
unfoldable pub end_attachment : List ℕ → Role → Ending → Rule (Unit {0}) Ending
end_attachment text role e = an_attachment text role e.inserted >>= λ inserted. done (record { aligns = false; inserted = inserted })

-- a comma, and behind it one alignment where it is still allowed, or else an attachment
unfoldable pub end_step : List ℕ → Role → Ending → Rule (Unit {0}) Ending
end_step text role e = a_sign text (codes ",") >>= λ _. if_next (opens_alignment text e) (end_alignment text e) (end_attachment text role e)

-- alignment and attachments behind an operation's form, each behind a comma
abbrev pub ends : List ℕ → Role → Ending → Rule (Unit {0}) Ending
ends text role = folded (is_comma text) (end_step text role)

-- whether the end says that the partition made the instruction
unfoldable pub end_mark : List ℕ → Role → Bool → Rule (Unit {0}) Bool
end_mark text role aligns = ends text role (record { aligns = aligns; inserted = false }) >>= λ e. done e.inserted

-- the end behind an operation
unfoldable pub finish : List ℕ → Role → Bool → Op → Rule Locals (Op × Bool)
finish text role aligns op = lift (end_mark text role aligns) >>= λ inserted. done (op, inserted)

-- a form and its end
abbrev pub ended : List ℕ → Role → Bool → Rule Locals Op → Rule Locals (Op × Bool)
ended text role aligns form = form >>= finish text role aligns

-- an operation, and whether the end that was read behind it says that the partition made it
abbrev pub with_inserted : Op → Locals → Bool × Unit {0} × List Token → Result ((Op × Bool) × Locals × List Token) Stopped
with_inserted op s x = Ok ((op, x.0), s, x.2)

-- what is read behind an operation that was read
abbrev pub behind_form : List ℕ → Role → Bool → Op × Locals × List Token → Result ((Op × Bool) × Locals × List Token) Stopped
behind_form text role aligns x = (finish text role aligns x.0).read x.1 x.2

-- ---- items behind commas, and then attachments

module _ {A : Type 0} where
  -- whether an item begins here: no attachment stands before it, and none begins
  abbrev pub opens_item : Listed A → Token → Bool
  opens_item l token = not l.begun && not (is_kind Meta token)

  -- one more item
  unfoldable pub list_item : Rule Locals A → Listed A → Rule Locals (Listed A)
  list_item item l = item >>= λ a. done (record { items = l.items ++ a ∷ []; begun = false; inserted = l.inserted })

  -- an attachment, behind which attachments alone may stand
  unfoldable pub list_attachment : List ℕ → Role → Listed A → Rule Locals (Listed A)
  list_attachment text role l = lift (an_attachment text role l.inserted) >>= λ inserted. done (record { items = l.items; begun = true; inserted = inserted })

  -- a comma, and behind it an item where one is still allowed, or else an attachment
  unfoldable pub list_step : List ℕ → Role → Rule Locals A → Listed A → Rule Locals (Listed A)
  list_step text role item l = sign text (codes ",") >>= λ _. if_next (opens_item l) (list_item item l) (list_attachment text role l)

  -- items and then attachments, each behind a comma
  abbrev pub listed : List ℕ → Role → Rule Locals A → Listed A → Rule Locals (Listed A)
  listed text role item = folded (is_comma text) (list_step text role item)

  -- at least one item, and attachments
  unfoldable pub some_listed : List ℕ → Role → Rule Locals A → Rule Locals (Listed A)
  some_listed text role item = item >>= λ first. listed text role item (record { items = first ∷ []; begun = false; inserted = false })
