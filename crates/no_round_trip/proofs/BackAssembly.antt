-- A printed module reads back, by the laws of its parts.
use Rattle.std.proofs.Common.{◌≡◌, ℕ, ◌≤◌, List, length, map, Ok, sym, ap, subst, ◌∙◌}
use Rattle.std.specs.List.{zip}
use Rattle.no_ir.specs.declared.function.Module.{Module}
use Rattle.no_ir.specs.declared.function.Role.{Role}
use Rattle.no_ir.specs.declared.types.Ty.{Ty}
use Rattle.no_lex.specs.declared.token.Token.{Token}
use Rattle.no_read_rules.specs.Scope.{Meaning}
use Rattle.no_read_types.specs.Lifted.{Lifts}
use Rattle.no_read_types.specs.declared.lifted.Lifted.{Lifted}
use Rattle.no_read_symbols.specs.Scan.{symbols_in}
use Rattle.no_read_toplevel.specs.Modules.{IsModuleOf}
use Rattle.no_read_names.specs.Defined.{names_once}
use Rattle.no_read.specs.Knowing.{known_of, meaning_of}
use Rattle.no_read.specs.Reading.{IsModule, typed}
use Rattle.no_print.specs.Constants.{Spelled}
use Rattle.no_print.specs.Modules.{module_pieces, module_text, spelled_in}
use Rattle.no_print.specs.Stand.{Stand}
use Rattle.no_round_trip.specs.Lexed.{LexesAs}
use Rattle.no_round_trip.specs.Spells.{AreBytes, TypesFit, over, spelled_by}
use Rattle.no_round_trip.specs.Rest.{rest_pieces}
use Rattle.no_round_trip.specs.Printed.{form_pieces}
use Rattle.no_round_trip.specs.ReadBack.{text_limit, ReadsTo, PrintedReadBack}

-- ---- the laws of the parts

-- the text of a module lexes
abbrev pub TextsLex : Type 0
TextsLex = (limit : ℕ) (m : Module) → length (module_text m) ≤ limit → LexesAs limit (module_text m) (module_pieces m)

-- its type definitions are lifted again
abbrev pub TypesLift : Type 0
TypesLift =
    (from : List ℕ) (read : List Token) (lifted : Lifted) (m : Module) (text : List ℕ) (tokens : List Token)
    → AreBytes from → Lifts from read (Ok lifted) → m.types ≡ zip lifted.named lifted.types → Stand text tokens (module_pieces m)
    → (other : Lifted) × Lifts text tokens (Ok other) × (other.named ≡ lifted.named) × (other.types ≡ lifted.types) × Stand text other.rest (rest_pieces m)

-- a module is spelled with the names and types that were lifted
abbrev pub TypesSpell : Type 0
TypesSpell =
    (from : List ℕ) (read : List Token) (lifted : Lifted) (m : Module) → Lifts from read (Ok lifted) → m.types ≡ zip lifted.named lifted.types
    → ((spelled_in m).named ≡ lifted.named) × ((spelled_in m).types ≡ lifted.types)

-- types that were lifted fit
abbrev pub LiftedFit : Type 0
LiftedFit = (from : List ℕ) (read : List Token) (lifted : Lifted) → Lifts from read (Ok lifted) → TypesFit lifted.types

-- the forms mean the module again
abbrev pub FormsMean : Type 0
FormsMean =
    (m : Meaning) (text : List ℕ) (role : Role) (types : List (List ℕ × Ty)) (tokens others : List Token) (found : Module)
    → AreBytes m.text → TypesFit m.types → IsModuleOf m role types tokens found → Stand text others (form_pieces (spelled_by m) found) → IsModuleOf (over m text) role types others found

-- the scan finds the names of the module
abbrev pub FindsGlobals : Type 0
FindsGlobals =
    (m : Meaning) (role : Role) (types : List (List ℕ × Ty)) (tokens : List Token) (found : Module)
    → IsModuleOf m role types tokens found → (symbols_in m.text tokens).globals ≡ names_once (map (λ g. g.name) found.globals)

abbrev pub FindsFunctions : Type 0
FindsFunctions =
    (m : Meaning) (role : Role) (types : List (List ℕ × Ty)) (tokens : List Token) (found : Module)
    → IsModuleOf m role types tokens found → (symbols_in m.text tokens).functions ≡ names_once (map (λ f. f.name) found.functions)

-- ---- put together

module _ (lex : TextsLex) (lift : TypesLift) (spell : TypesSpell) (fit : LiftedFit) (mean : FormsMean) (globals : FindsGlobals) (functions : FindsFunctions)
    (text : List ℕ) (role : Role) (tokens : List Token) (m : Module) (bytes : AreBytes text) (first : IsModule text role tokens m) where
  abbrev lifted : Lifted
  lifted = first.lifted

  abbrev before : Meaning
  before = meaning_of text (known_of text lifted)

  abbrev types : List (List ℕ × Ty)
  types = typed (known_of text lifted)

  types_are : m.types ≡ types
  types_are = ap (λ (x : Module). x.types) first.forms.is

  -- the names and types by which the forms were read are those that the module is spelled with
  spelled_so : spelled_by before ≡ spelled_in m
  spelled_so =
      let s = spell text tokens lifted m first.lifts types_are in
      let g = globals before role types lifted.rest m first.forms in
      let f = functions before role types lifted.rest m first.forms in
      λ i. record { named = sym s.0 i; types = sym s.1 i; globals = g i; functions = f i }

  module _ (again : List ℕ) (other : Lifted) (named : other.named ≡ lifted.named) (same : other.types ≡ lifted.types) (stand : Stand again other.rest (rest_pieces m)) where
    meant : IsModuleOf (over before again) role types other.rest m
    meant = mean before again role types lifted.rest other.rest m bytes (fit text tokens lifted first.lifts) first.forms
        (subst (λ (s : Spelled). Stand again other.rest (form_pieces s m)) (sym spelled_so) stand)

    -- what names mean in the other text
    known_so : over before again ≡ meaning_of again (known_of again other)
    known_so =
        let g = globals before role types lifted.rest m first.forms ∙ sym (globals (over before again) role types other.rest m meant) in
        let f = functions before role types lifted.rest m first.forms ∙ sym (functions (over before again) role types other.rest m meant) in
        λ i. record { text = again; named = sym named i; types = sym same i; globals = g i; functions = f i }

    typed_so : types ≡ typed (known_of again other)
    typed_so = λ i. zip (sym named i) (sym same i)

    reads_so : IsModuleOf (meaning_of again (known_of again other)) role (typed (known_of again other)) other.rest m
    reads_so = subst (λ (k : Meaning). IsModuleOf k role (typed (known_of again other)) other.rest m) known_so
        (subst (λ (all : List (List ℕ × Ty)). IsModuleOf (over before again) role all other.rest m) typed_so meant)

  module_back : length (module_text m) ≤ text_limit role → ReadsTo (module_text m) role m
  module_back short =
      let l = lex (text_limit role) m short in
      let o = lift text tokens lifted m (module_text m) l.tokens bytes first.lifts types_are l.stand in
      record {
        tokens = l.tokens;
        lexes = l.lexes;
        reads = record { lifted = o.0; lifts = o.1; forms = reads_so (module_text m) o.0 o.2 o.3 o.4 };
      }

pub read_back : TextsLex → TypesLift → TypesSpell → LiftedFit → FormsMean → FindsGlobals → FindsFunctions → PrintedReadBack
read_back lex lift spell fit mean globals functions text role tokens m bytes parts first short = module_back lex lift spell fit mean globals functions text role tokens m bytes first short
