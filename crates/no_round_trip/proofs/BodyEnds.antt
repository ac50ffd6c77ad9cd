-- What follows an instruction behind commas is read again: no alignment, and at most the one attachment that marks it.
use Rattle.std.proofs.Common.{◌≡◌, ℕ, suc, zero, Bool, true, false, ◌||◌, ◌&&◌, ◌==◌, List, [], ◌++◌, bytes_eq, codes, Result, Ok, Err, inl, inr, if◌then◌else◌, refl, sym, ap, subst, ◌∙◌}
use Rattle.no_lex.specs.declared.token.Token.{Token}
use Rattle.no_lex.specs.declared.token.TokenKind.{TokenKind}
use Rattle.no_lex.specs.declared.token.TokenKind.TheVariants as kind
use Rattle.no_ir.specs.declared.function.Role.{Role}
use Rattle.no_ir.specs.declared.function.Role.TheVariants.{Source, Part}
use Rattle.no_ir.specs.declared.instruction.Op.{Op}
use Rattle.no_read_rules.specs.declared.fault.Flaw.{Flaw}
use Rattle.no_read_rules.specs.declared.fault.Flaw.TheVariants.{Syntax}
use Rattle.no_read_rules.specs.Rules.{plain, if_next}
use Rattle.no_read_rules.specs.Spelled.{kind_number, is_word}
use Rattle.no_read_registers.specs.declared.locals.Locals.{Locals}
use Rattle.no_read_operations.specs.declared.ends.Ending.{Ending}
use Rattle.no_read_operations.specs.Ends.{is_comma, names_node, node_is, marks, an_attachment, opens_alignment, end_alignment, end_attachment, end_step, ends, end_mark, finish}
use Rattle.no_read_operations.specs.Folded.{AreSteps}
use Rattle.no_print.specs.Pieces.{Piece, spaced, glued, piece, comma}
use Rattle.no_print.specs.Stand.{IsPiece}
use Rattle.no_print.specs.Instructions.{inserted_pieces}
use Rattle.no_round_trip.specs.Spells.{Spells}
use Rattle.no_round_trip.proofs.RuleFrame.{plain_spells, then_spells, made_spells, no_spells}
use Rattle.no_round_trip.proofs.RuleListing.{sign_spells, sign_begins}
use Rattle.no_round_trip.proofs.RuleStanding.{Begins, begins, word_tested}
use Rattle.no_round_trip.proofs.BodyReturning.{Returns, ending, lifted, value_is, made_returns, no_steps_spell, step_spells}

-- in the role of a source nothing is marked
abbrev pub MarkFits : Role → Bool → Type 0
MarkFits Source b = b ≡ false
MarkFits Part b = Unit {0}

pub no_mark : (role : Role) → MarkFits role false
no_mark Source = refl
no_mark Part = tt

mark_more : (role : Role) (i k n : Bool) → MarkFits role i → MarkFits role (i || marks role k n)
mark_more Source i k n h = ap (λ b. b || false) h
mark_more Part i k n h = tt

-- ---- what was read

pub attachment_fits : (text : List ℕ) (role : Role) (i b : Bool) (tokens : List Token) → (an_attachment text role i).means tt tokens b tt → MarkFits role i → MarkFits role b
unfolding an_attachment
attachment_fits text role i b tokens r h = subst (MarkFits role) (sym r.in_back.in_back.1) (mark_more role i r.first r.in_back.first h)

step_fits : (text : List ℕ) (role : Role) (e v : Ending) (tokens : List Token) → (end_step text role e).means tt tokens v tt → MarkFits role e.inserted → MarkFits role v.inserted
unfolding end_step end_alignment end_attachment
step_fits text role e v tokens r h = by r.in_back
  where
    by : (if_next (opens_alignment text e) (end_alignment text e) (end_attachment text role e)).means tt r.back v tt → MarkFits role v.inserted
    by (inl k) = subst (λ (x : Ending). MarkFits role x.inserted) (sym k.1.in_back.1) h
    by (inr k) = subst (λ (x : Ending). MarkFits role x.inserted) (sym k.1.in_back.1) (attachment_fits text role e.inserted k.1.first k.1.front k.1.in_front h)

steps_fit : (text : List ℕ) (role : Role) (n : ℕ) (e v : Ending) (tokens : List Token) → AreSteps (is_comma text) (end_step text role) n tt tokens e v tt → MarkFits role e.inserted → MarkFits role v.inserted
steps_fit text role zero e v tokens r h = subst (λ (x : Ending). MarkFits role x.inserted) (sym r.1) h
steps_fit text role (suc n) e v tokens r h = steps_fit text role n r.value v r.back r.others (step_fits text role e r.value r.front r.first h)

pub mark_read : (text : List ℕ) (role : Role) (aligns b : Bool) (tokens : List Token) → (end_mark text role aligns).means tt tokens b tt → MarkFits role b
unfolding end_mark
mark_read text role aligns b tokens r =
    subst (MarkFits role) (sym r.in_back.1) (steps_fit text role r.in_front.0 (record { aligns = aligns; inserted = false }) r.first r.front r.in_front.1 (no_mark role))

-- ---- how it is spelled

-- the mark behind its comma
abbrev pub mark_pieces : List Piece
mark_pieces = piece kind.Meta spaced (codes "!no.x") ++ piece kind.Meta spaced (codes "!0")

module _ (text : List ℕ) where
  abbrev node_by : List ℕ → TokenKind → List ℕ → Result Bool Flaw
  node_by name k bytes = if kind_number k == kind_number kind.Meta && names_node bytes then Ok (bytes_eq bytes name) else Err Syntax

  pub attachment_spells : Spells text (an_attachment text Part false) tt mark_pieces true tt
  unfolding an_attachment
  attachment_spells =
      then_spells text _ _ tt tt tt (piece kind.Meta spaced (codes "!no.x")) (piece kind.Meta spaced (codes "!0")) true true
      (plain_spells {S = Unit {0}} text (node_by (codes "!no.x")) tt (record { gap = spaced; kind = kind.Meta; bytes = codes "!no.x" }) true refl)
      (made_spells text (plain (node_is text (codes "!0"))) (λ node. false || marks Part true node) tt tt (piece kind.Meta spaced (codes "!0")) true
      (plain_spells {S = Unit {0}} text (node_by (codes "!0")) tt (record { gap = spaced; kind = kind.Meta; bytes = codes "!0" }) true refl))

  pub comma_first : (rest : List Piece) → Begins text (is_comma text) true (comma ++ rest)
  comma_first rest = sign_begins text glued (codes ",") (codes ",") true rest refl

  no_alignment : (aligns : Bool) → Begins text (opens_alignment text (record { aligns = aligns; inserted = false })) false mark_pieces
  no_alignment aligns = begins text (opens_alignment text (record { aligns = aligns; inserted = false })) false mark_pieces (by aligns)
    where
      by : (aligns : Bool) (token : Token) → IsPiece text token (record { gap = spaced; kind = kind.Meta; bytes = codes "!no.x" }) → (aligns && is_word text (codes "align") token) ≡ false
      by true token h = word_tested text (codes "align") (record { gap = spaced; kind = kind.Meta; bytes = codes "!no.x" }) token h
      by false token h = refl

  step_again : (aligns : Bool) → Spells text (end_step text Part (record { aligns = aligns; inserted = false })) tt (comma ++ mark_pieces) (record { aligns = false; inserted = true }) tt
  unfolding end_step end_attachment
  step_again aligns =
      let e : Ending = record { aligns = aligns; inserted = false } in
      then_spells text _ _ tt tt tt comma mark_pieces tt (record { aligns = false; inserted = true }) (sign_spells text glued tt (codes ",") refl)
      (no_spells text (opens_alignment text e) (end_alignment text e) (end_attachment text Part e) tt mark_pieces (record { aligns = false; inserted = true }) tt (no_alignment aligns)
      (made_spells text (an_attachment text Part false) (λ inserted. record { aligns = false; inserted = inserted }) tt tt mark_pieces true attachment_spells))

  pub mark_spells : (role : Role) (aligns b : Bool) → MarkFits role b → Spells text (end_mark text role aligns) tt (inserted_pieces b) b tt
  unfolding end_mark
  mark_spells role aligns false h =
      let e : Ending = record { aligns = aligns; inserted = false } in
      made_spells text (ends text role e) (λ e. e.inserted) tt tt [] e (no_steps_spell text (is_comma text) (end_step text role) e tt)
  mark_spells Source aligns true h = absurd cc
  mark_spells Part aligns true h =
      let e : Ending = record { aligns = aligns; inserted = false } in
      let v : Ending = record { aligns = false; inserted = true } in
      made_spells text (ends text Part e) (λ e. e.inserted) tt tt (comma ++ mark_pieces) v
      (step_spells text (is_comma text) (end_step text Part) (comma ++ mark_pieces) [] e v v tt tt tt (comma_first mark_pieces) (step_again aligns) (no_steps_spell text (is_comma text) (end_step text Part) v tt))

-- ---- behind an operation

pub finish_back : (from text : List ℕ) (last : Locals) (role : Role) (aligns : Bool) (o : Op) {s t : Locals} (tokens : List Token) (x : Op × Bool) → (finish from role aligns o).means s tokens x t
    → (x ≡ (o, x.1)) × Returns text last (finish text role aligns o) (inserted_pieces x.1) x s t
unfolding finish
finish_back from text last role aligns o tokens x r =
    let b : Bool = r.first in
    let is : x ≡ (o, b) = r.in_back.1 in (
      is ∙ ap (λ (c : Bool). let p : Op × Bool = (o, c) in p) (sym (ap (λ (y : Op × Bool). y.1) is)),
      value_is (finish text role aligns o) (λ x. inserted_pieces x.1) is (ending r.in_back.2
          (made_returns (lifted (end_mark text role aligns) r.in_front.1 (mark_spells text role aligns b (mark_read from role aligns b r.front r.in_front.0))))),
    )
