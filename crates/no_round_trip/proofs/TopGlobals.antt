-- A global variable is read again.
use Rattle.std.proofs.Common.{◌≡◌, ℕ, Bool, true, false, ◌&&◌, ◌||◌, ◌==◌, List, ◌++◌, codes, bytes_eq, Option, Result, Ok, Err, if◌then◌else◌, refl, sym, subst, ◌∙◌}
use Rattle.no_lex.specs.declared.token.TokenKind.{TokenKind}
use Rattle.no_lex.specs.declared.token.TokenKind.TheVariants as kind
use Rattle.no_ir.specs.declared.constant.Const.{Const}
use Rattle.no_ir.specs.declared.function.GlobalVar.{GlobalVar}
use Rattle.no_ir.specs.declared.types.Ty.{Ty}
use Rattle.no_read_rules.specs.declared.fault.Flaw.{Flaw}
use Rattle.no_read_rules.specs.declared.fault.Flaw.TheVariants.{Syntax}
use Rattle.no_read_rules.specs.Rules.{plain}
use Rattle.no_read_rules.specs.Scope.{Meaning}
use Rattle.no_read_rules.specs.Spelled.{kind_number}
use Rattle.no_read_rules.specs.Types.{a_type}
use Rattle.no_read_constants.specs.Constants.{a_const}
use Rattle.no_read_constants.specs.Skipped.{behind}
use Rattle.no_read_attributes.specs.Words.{is_one}
use Rattle.no_read_toplevel.specs.Globals.{idle_words, is_idle, constant_of, tails, a_global}
use Rattle.no_read_attributes.specs.Symbols.{symbol_name}
use Rattle.no_print.specs.Constants.{Spelled, type_at, const_pieces}
use Rattle.no_print.specs.Instructions.{alignment_pieces}
use Rattle.no_print.specs.Modules.{kind_word, global_pieces}
use Rattle.no_print.specs.Names.{global_name}
use Rattle.no_print.specs.Pieces.{Piece, spaced, lined, word}
use Rattle.no_round_trip.specs.Spells.{AreBytes, TypeFits, Spells, over}
use Rattle.no_round_trip.proofs.ConstFirst.{read_fits}
use Rattle.no_round_trip.proofs.RuleFrame.{plain_spells, then_spells, made_spells}
use Rattle.no_round_trip.proofs.RuleSkipping.{behind_spells}
use Rattle.no_round_trip.proofs.RuleStanding.{begins}
use Rattle.no_round_trip.proofs.TopSteps.{Twice, tested, sign_then, symbol_spells, symbol_bytes}
use Rattle.no_round_trip.proofs.TopTails.{tails_again}

module _ (text : List ℕ) where
  abbrev idle_by : TokenKind → List ℕ → Bool
  idle_by k bytes = (kind_number k == kind_number kind.Word) && is_one idle_words bytes

  abbrev constant_by : TokenKind → List ℕ → Result Bool Flaw
  constant_by k bytes =
      if (kind_number k == kind_number kind.Word) && bytes_eq bytes (codes "constant") then Ok true
      else (if (kind_number k == kind_number kind.Word) && bytes_eq bytes (codes "global") then Ok false else Err Syntax)

  abbrev kind_piece : Bool → Piece
  kind_piece b = record { gap = spaced; kind = kind.Word; bytes = kind_word b }

  not_idle : (b : Bool) → idle_by kind.Word (kind_word b) ≡ false
  not_idle true = refl
  not_idle false = refl

  is_constant : (b : Bool) → constant_by kind.Word (kind_word b) ≡ Ok b
  is_constant true = refl
  is_constant false = refl

  kind_spells : (b : Bool) → Spells {S = Unit {0}} text (behind (is_idle text) (plain (constant_of text))) tt (word spaced (kind_word b)) b tt
  kind_spells b =
      behind_spells text (is_idle text) (plain (constant_of text)) tt (word spaced (kind_word b)) b tt
      (begins text (is_idle text) false (word spaced (kind_word b)) (λ token h. tested text idle_by token (kind_piece b) h ∙ not_idle b))
      (plain_spells text constant_by tt (kind_piece b) b (is_constant b))

module _ (m : Meaning) (text : List ℕ) (s : Spelled) (bytes : AreBytes m.text)
    (typed : (gap : List ℕ) → Twice text (a_type m 64) (a_type (over m text) 64) (type_at s gap))
    (consts : (t : Ty) → TypeFits t → (gap : List ℕ) → Twice text (a_const m 64 t) (a_const (over m text) 64 t) (λ c. const_pieces s c t gap)) where
  global_spells : (name : List ℕ) (constant : Bool) (t : Ty) (init : Const) (align : Option ℕ) → AreBytes name
      → Spells text (a_type (over m text) 64) tt (type_at s spaced t) t tt → Spells text (a_const (over m text) 64 t) tt (const_pieces s init t spaced) init tt
      → Spells text (tails text) tt (alignment_pieces align) align tt
      → let g : GlobalVar = record { name = name; constant = constant; ty = t; init = init; align = align } in Spells text (a_global (over m text)) tt (global_pieces s g) g tt
  unfolding a_global
  global_spells name constant t init align h x y z =
      let g : GlobalVar = record { name = name; constant = constant; ty = t; init = init; align = align } in
      then_spells text (plain (symbol_name text)) _ tt tt tt (global_name lined name) _ name g (symbol_spells text lined name tt h)
      (sign_then text spaced (codes "=") _ tt tt _ g refl
      (then_spells text (behind (is_idle text) (plain (constant_of text))) _ tt tt tt (word spaced (kind_word constant)) _ constant g (kind_spells text constant)
      (then_spells text (a_type (over m text) 64) _ tt tt tt (type_at s spaced t) (const_pieces s init t spaced ++ alignment_pieces align) t g x
      (then_spells text (a_const (over m text) 64 t) _ tt tt tt (const_pieces s init t spaced) (alignment_pieces align) init g y
      (made_spells text (tails text) (λ align. record { name = name; constant = constant; ty = t; init = init; align = align }) tt tt (alignment_pieces align) align z)))))

  pub global_again : Twice text (a_global m) (a_global (over m text)) (global_pieces s)
  unfolding a_global
  global_again tokens g m1 =
      let c = m1.in_back.in_back in
      let t = c.in_back in
      let i = t.in_back in
      let a = i.in_back in
      subst (λ (g : GlobalVar). Spells text (a_global (over m text)) tt (global_pieces s g) g tt) (sym a.in_back.1)
      (global_spells m1.first c.first t.first i.first a.first (symbol_bytes m.text tt m1.between m1.front m1.first bytes m1.in_front)
      (typed spaced t.front t.first t.in_front) (consts t.first (read_fits m 64 t.front t.first bytes t.in_front) spaced i.front i.first i.in_front) (tails_again m.text text a.front a.first a.in_front))
