-- Bodies of functions are read again.
use Rattle.std.proofs.Common.{◌≡◌, ℕ, true, false, List, [], ◌∷◌, ◌++◌, codes, Option, Some, None, inl, inr, refl, sym, ap, subst, ◌∙◌, append_assoc, append-nil}
use Rattle.no_lex.specs.declared.token.Token.{Token}
use Rattle.no_lex.specs.declared.token.TokenKind.TheVariants as kind
use Rattle.no_ir.specs.declared.function.Block.{Block}
use Rattle.no_ir.specs.declared.function.Role.{Role}
use Rattle.no_ir.specs.declared.instruction.Instr.{Instr}
use Rattle.no_read_rules.specs.Repeated.{IsRepeated, repeat}
use Rattle.no_read_rules.specs.Rules.{Rule}
use Rattle.no_read_rules.specs.Scope.{Meaning}
use Rattle.no_read_rules.specs.Spelled.{is_sign, only_where, a_sign}
use Rattle.no_read_registers.specs.declared.locals.Locals.{Locals}
use Rattle.no_read_registers.specs.Numbered.{a_block_label}
use Rattle.no_read_instructions.specs.Instructions.{an_instr}
use Rattle.no_read_functions.specs.declared.blocks.Piece as blocks
use Rattle.no_read_functions.specs.declared.blocks.Piece.TheVariants as piece
use Rattle.no_read_functions.specs.Blocks.{is_close, is_label, blocks_of, closing, label_piece, instr_piece, labelled, unlabelled, a_piece, entry, body}
use Rattle.no_print.specs.Names.{name_at, label_line}
use Rattle.no_print.specs.Pieces.{Piece, lined, sign}
use Rattle.no_print.specs.Instructions.{instr_pieces}
use Rattle.no_print.specs.Modules.{instrs_pieces, blocks_pieces}
use Rattle.no_round_trip.specs.Spells.{AreBytes, Spells, TypesFit, over, spelled_by}
use Rattle.no_round_trip.proofs.RuleListing.{sign_spells}
use Rattle.no_round_trip.proofs.RuleOpening.{kept_state}
use Rattle.no_round_trip.proofs.RuleStanding.{Begins, begins, kind_tested, sign_tested}
use Rattle.no_round_trip.specs.States.{Like, Follows, IsFine, named_by}
use Rattle.no_round_trip.proofs.BodyRegisters.{block_label_again, no_block_label_again}
use Rattle.no_round_trip.proofs.BodyReturning.{Returns, ending, pieces_are, yes_returns, no_returns, end_returns, more_returns, then_returns, made_returns}
use Rattle.no_round_trip.proofs.BodyWorks.{InstrBack, instr_back}

module _ (m : Meaning) (text : List ℕ) (bytes : AreBytes m.text) (fit : TypesFit m.types) (last : Locals) (role : Role) where
  abbrev pub instr_shown : Instr → List Piece
  instr_shown = instr_pieces (spelled_by m) (named_by last)

  abbrev pub instrs_shown : List Instr → List Piece
  instrs_shown = instrs_pieces (spelled_by m) (named_by last)

  abbrev pub blocks_shown : List Block → List Piece
  blocks_shown = blocks_pieces (spelled_by m) (named_by last)

  abbrev pub label_shown : ℕ → List Piece
  label_shown l = label_line lined (name_at last.labels l)

  abbrev pub close : List Piece
  close = sign lined (codes "}")

  -- ---- what stands in a body

  abbrev piece_shown : blocks.Piece → List Piece
  piece_shown (piece.Label l) = label_shown l
  piece_shown (piece.Instr i) = instr_shown i

  abbrev all_shown : List blocks.Piece → List Piece
  all_shown [] = []
  all_shown (p ∷ pieces) = piece_shown p ++ all_shown pieces

  abbrev step : Rule Locals (Option blocks.Piece)
  step = a_piece text (an_instr (over m text) role)

  instr_step : (i : Instr) (s t : Locals) → InstrBack m text bytes fit last role i s t → Returns text last step (instr_shown i) (Some (piece.Instr i)) s t
  unfolding a_piece instr_piece
  instr_step i s t x =
      no_returns (subst (Begins text (is_close text) false) (append-nil (instr_shown i)) (x.no_close [])) (no_returns (subst (Begins text is_label false) (append-nil (instr_shown i)) (x.no_label [])) (made_returns x.back))

  label_step : (l : ℕ) {s t : Locals} → Returns text last (a_block_label text) (label_shown l) l s t → Returns text last step (label_shown l) (Some (piece.Label l)) s t
  unfolding a_piece label_piece
  label_step l x =
      no_returns (begins text (is_close text) false (label_shown l) (λ token h. sign_tested text (codes "}") _ token h))
      (yes_returns (begins text is_label true (label_shown l) (λ token h. kind_tested text kind.Label _ token h)) (made_returns x))

  close_step : {s : Locals} → Returns text last step close None s s
  unfolding a_piece closing
  close_step =
      yes_returns (begins text (is_close text) true close (λ token h. sign_tested text (codes "}") _ token h))
      (made_returns {p = a_sign text (codes "}")} {a = tt} (record { fine = λ h. h; holds = λ w. w; spells = λ h w z l. (z, l, sign_spells text lined z (codes "}") refl) }))

  none_some : (p : blocks.Piece) → None ≡ Some p → ⊥
  none_some p e = cc

  some_none : (p : blocks.Piece) → Some p ≡ None → ⊥
  some_none p e = cc

  some_same : (p q : blocks.Piece) → Some p ≡ Some q → p ≡ q
  some_same p q e = cc

  abbrev first_step : Rule Locals (Option blocks.Piece)
  first_step = a_piece m.text (an_instr m role)

  piece_back : (s t : Locals) (tokens : List Token) (p : blocks.Piece) → first_step.means s tokens (Some p) t → Returns text last step (piece_shown p) (Some p) s t
  unfolding a_piece closing label_piece instr_piece
  piece_back s t tokens p (inl k) = absurd (some_none p k.1.in_back.1)
  piece_back s t tokens p (inr (e, inl k)) =
      let l : ℕ = k.1.first in
      subst (λ (q : blocks.Piece). Returns text last step (piece_shown q) (Some q) s t) (sym (some_same p (piece.Label l) k.1.in_back.1))
      (ending k.1.in_back.2 (label_step l (block_label_again m.text text bytes last lined s k.1.between k.1.front l k.1.in_front)))
  piece_back s t tokens p (inr (e, inr k)) =
      let i : Instr = k.1.first in
      subst (λ (q : blocks.Piece). Returns text last step (piece_shown q) (Some q) s t) (sym (some_same p (piece.Instr i) k.1.in_back.1))
      (ending k.1.in_back.2 (instr_step i s k.1.between (instr_back m text bytes fit last role s k.1.between k.1.front i k.1.in_front)))

  close_read : (s t : Locals) (tokens : List Token) → first_step.means s tokens None t → t ≡ s
  unfolding a_piece closing label_piece instr_piece
  close_read s t tokens (inl k) = k.1.in_back.2 ∙ kept_state s (only_where (is_sign m.text (codes "}") k.1.in_front.token)) tt k.1.between k.1.in_front.value
  close_read s t tokens (inr (e, inl k)) = absurd (none_some (piece.Label k.1.first) k.1.in_back.1)
  close_read s t tokens (inr (e, inr k)) = absurd (none_some (piece.Instr k.1.first) k.1.in_back.1)

  pieces_back : (s t : Locals) (tokens : List Token) (pieces : List blocks.Piece) → IsRepeated first_step s tokens pieces t → Returns text last (repeat step) (all_shown pieces ++ close) pieces s t
  pieces_back s t tokens [] r = ending (close_read s t tokens r) (end_returns close_step)
  pieces_back s t tokens (p ∷ pieces) r =
      pieces_are (sym (append_assoc (piece_shown p) (all_shown pieces) close)) (more_returns (piece_back s r.between r.front p r.item) (pieces_back r.between t r.back pieces r.others))

  -- ---- blocks

  instrs_more : (instrs : List Instr) (i : Instr) → instrs_shown (instrs ++ i ∷ []) ≡ instrs_shown instrs ++ instr_shown i
  instrs_more [] i = append-nil (instr_shown i)
  instrs_more (j ∷ instrs) i = ap (λ l. instr_shown j ++ l) (instrs_more instrs i) ∙ sym (append_assoc (instr_shown j) (instrs_shown instrs) (instr_shown i))

  blocks_are : (label : ℕ) (instrs : List Instr) (pieces : List blocks.Piece) → blocks_shown (blocks_of label instrs pieces) ≡ label_shown label ++ (instrs_shown instrs ++ all_shown pieces)
  blocks_are label instrs [] = refl
  blocks_are label instrs (piece.Label next ∷ pieces) = ap (λ l. label_shown label ++ (instrs_shown instrs ++ l)) (blocks_are next [] pieces)
  blocks_are label instrs (piece.Instr i ∷ pieces) =
      blocks_are label (instrs ++ i ∷ []) pieces
      ∙ ap (λ l. label_shown label ++ (l ++ all_shown pieces)) (instrs_more instrs i)
      ∙ ap (λ l. label_shown label ++ l) (append_assoc (instrs_shown instrs) (instr_shown i) (all_shown pieces))

  abbrev pub second : Rule Locals (List Block)
  second = body text (an_instr (over m text) role)

  entry_returns : (label : ℕ) {s t : Locals} → Returns text last (a_block_label text) (label_shown label) label s t → Returns text last (entry text (an_instr (over m text) role)) (label_shown label) (label, []) s t
  unfolding entry labelled
  entry_returns label x = yes_returns (begins text is_label true (label_shown label) (λ token h. kind_tested text kind.Label _ token h)) (made_returns x)

  whole : (label : ℕ) (pieces : List blocks.Piece) {s u t : Locals} → Returns text last (a_block_label text) (label_shown label) label s u → Returns text last (repeat step) (all_shown pieces ++ close) pieces u t
      → Returns text last second (blocks_shown (blocks_of label [] pieces) ++ close) (blocks_of label [] pieces) s t
  unfolding body
  whole label pieces x y = pieces_are (ap (λ l. l ++ close) (sym (blocks_are label [] pieces))) (then_returns (entry_returns label x) (made_returns y))

  abbrev pub Shown : List Block → Locals → Locals → Type 0
  Shown all s t = Returns text last second (blocks_shown all ++ close) all s t

  body_by : (s u t : Locals) (front back : List Token) (first : ℕ × List Instr) (pieces : List blocks.Piece) → (entry m.text (an_instr m role)).means s front first u → IsRepeated first_step u back pieces t
      → Shown (blocks_of first.0 first.1 pieces) s t
  unfolding entry labelled unlabelled
  body_by s u t front back first pieces (inl k) r =
      let label : ℕ = k.1.first in
      subst (λ (x : ℕ × List Instr). Shown (blocks_of x.0 x.1 pieces) s t) (sym k.1.in_back.1)
      (whole label pieces (ending k.1.in_back.2 (block_label_again m.text text bytes last lined s k.1.between k.1.front label k.1.in_front)) (pieces_back u t back pieces r))
  body_by s u t front back first pieces (inr k) r =
      let label : ℕ = k.1.first in
      let i = k.1.in_back in
      let one = ending i.in_back.2 (instr_step i.first k.1.between i.between (instr_back m text bytes fit last role k.1.between i.between i.front i.first i.in_front)) in
      subst (λ (x : ℕ × List Instr). Shown (blocks_of x.0 x.1 pieces) s t) (sym i.in_back.1)
      (whole label (piece.Instr i.first ∷ pieces) (no_block_label_again m.text text bytes last lined s k.1.between k.1.front label k.1.in_front)
      (pieces_are (sym (append_assoc (instr_shown i.first) (all_shown pieces) close)) (more_returns one (pieces_back u t back pieces r))))

  -- from the first text's state to its last, with any `last` whose names follow
  pub body_returns : (s t : Locals) (tokens : List Token) (all : List Block) → (body m.text (an_instr m role)).means s tokens all t → Shown all s t
  unfolding body
  body_returns s t tokens all r =
      let x = r.in_back in
      subst (λ l. Shown l s t) (sym x.in_back.1) (ending x.in_back.2 (body_by s r.between x.between r.front x.front r.first x.first r.in_front x.in_front))

-- ---- at the end of the first text's function

whole_names : (t : Locals) → Follows t t
whole_names t = record { registers = record { rest = []; is = sym (append-nil t.registers) }; labels = record { rest = []; is = sym (append-nil t.labels) } }

pub body_again : (m : Meaning) (text : List ℕ) (role : Role) (s t z : Locals) (tokens : List Token) (all : List Block) → AreBytes m.text → TypesFit m.types → IsFine s → Like s z
    → (body m.text (an_instr m role)).means s tokens all t
    → Follows s t × (u : Locals) × Like t u × Spells text (body text (an_instr (over m text) role)) z (blocks_pieces (spelled_by m) (named_by t) all ++ sign lined (codes "}")) all u
body_again m text role s t z tokens all bytes fit fine like r =
    let x = body_returns m text bytes fit t role s t tokens all r in
    let y = x.spells fine (whole_names t) z like in
    (x.holds (whole_names t), y.0, y.1, y.2)
