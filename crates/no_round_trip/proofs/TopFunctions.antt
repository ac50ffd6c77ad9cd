-- Functions, with blocks or declared, are read again.
use Rattle.std.proofs.Common.{◌≡◌, ℕ, Bool, true, false, List, [], ◌∷◌, ◌++◌, codes, Option, Some, None, refl, sym, ap, subst, ◌∙◌, arith}
use Rattle.no_ir.specs.declared.function.Block.{Block}
use Rattle.no_ir.specs.declared.function.Function.{Function}
use Rattle.no_ir.specs.declared.function.Role.{Role}
use Rattle.no_ir.specs.declared.instruction.Instr.{Instr}
use Rattle.no_lex.specs.declared.token.Token.{Token}
use Rattle.no_read_rules.specs.Rules.{Rule, done, ◌>>=◌}
use Rattle.no_read_rules.specs.Scope.{Meaning}
use Rattle.no_read_rules.specs.Types.{a_type}
use Rattle.no_read_attributes.specs.declared.marks.Mark.{Mark}
use Rattle.no_read_functions.specs.declared.blocks.Piece.TheVariants as piece
use Rattle.no_read_functions.specs.declared.blocks.Piece as blocks
use Rattle.no_read_functions.specs.Blocks.{blocks_of, body}
use Rattle.no_read_functions.specs.declared.heads.Head.{Head}
use Rattle.no_read_functions.specs.Heads.{a_head}
use Rattle.no_read_instructions.specs.Instructions.{an_instr}
use Rattle.no_read_registers.specs.declared.locals.Locals.{Locals}
use Rattle.no_read_registers.specs.Numbered.{no_locals_yet}
use Rattle.no_read_functions.specs.declared.functions.Written.{Written}
use Rattle.no_read_toplevel.specs.declared.groups.Settings.{Settings}
use Rattle.no_read_functions.specs.Functions.{head_body, written, a_function}
use Rattle.no_read_toplevel.specs.Grouping.{nothing_set}
use Rattle.no_read_toplevel.specs.Modules.{set_function, with_marks, function_of}
use Rattle.no_read_toplevel.specs.Tops.{declared}
use Rattle.no_print.specs.Constants.{Spelled, type_at}
use Rattle.no_print.specs.Modules.{bound_pieces, address_pieces, type_alone, param_pieces, blocks_pieces, locals_of}
use Rattle.no_print.specs.Names.{global_name}
use Rattle.no_print.specs.Pieces.{Piece, glued, spaced, lined, sign, with_commas}
use Rattle.no_round_trip.specs.States.{Follows}
use Rattle.no_round_trip.specs.Spells.{AreBytes, Spells, over, spelled_by}
use Rattle.no_round_trip.proofs.RuleFrame.{then_spells, made_spells}
use Rattle.no_round_trip.proofs.RuleOpening.{kept_state}
use Rattle.no_round_trip.proofs.TopBodies.{Alike, follows_self, BodyBack}
use Rattle.no_round_trip.proofs.TopHeads.{rest_of, again_head, head_again}
use Rattle.no_round_trip.proofs.TopMarks.{MayStand, bound_marks, address_marks}
use Rattle.no_round_trip.proofs.TopParams.{declared_again, defined_again}
use Rattle.no_round_trip.proofs.TopSteps.{Twice, sign_then}
use Rattle.no_read_toplevel.specs.Entities.{a_declaration}
use Rattle.no_read_attributes.specs.Own.{inside}

-- ---- what printed attributes set

pub set_again : (text : List ℕ) (groups : List ℕ → Settings) (b : Bool) (o : Option ℕ) → with_marks text groups nothing_set (bound_marks b ++ address_marks o) ≡ record { bound = b; address = o }
set_again text groups false None = refl
set_again text groups false (Some n) = refl
set_again text groups true None = refl
set_again text groups true (Some n) = refl

-- a function with these attributes, and with any state of the same names
function_same : (st : Settings) (h : Head) (marks : List Mark) (bs : List Block) (t u : Locals) → u.registers ≡ t.registers → u.labels ≡ t.labels
    → set_function st (record { head = record { name = h.name; result = h.result; params = h.params; marks = marks }; blocks = bs; names = u }) ≡ set_function st (record { head = h; blocks = bs; names = t })
function_same st h marks bs t u r l = λ i. record { name = h.name; result = h.result; params = h.params; bound = st.bound; device_address = st.address; registers = r i; labels = l i; blocks = bs }

-- ---- a body has blocks

pub record HasBlock (bs : List Block) : Type 0 where
  pub first : Block
  pub others : List Block
  pub is : bs ≡ first ∷ others

some_block : (label : ℕ) (instrs : List Instr) (pieces : List blocks.Piece) → HasBlock (blocks_of label instrs pieces)
some_block label instrs [] = record { first = record { label = label; instrs = instrs }; others = []; is = refl }
some_block label instrs (piece.Label next ∷ pieces) = record { first = record { label = label; instrs = instrs }; others = blocks_of next [] pieces; is = refl }
some_block label instrs (piece.Instr i ∷ pieces) = some_block label (instrs ++ i ∷ []) pieces

body_some : (text : List ℕ) (instr : Rule Locals Instr) (s t : Locals) (tokens : List Token) (bs : List Block) → (body text instr).means s tokens bs t → HasBlock bs
unfolding body
body_some text instr s t tokens bs k = let r = k.in_back in subst HasBlock (sym r.in_back.1) (some_block k.first.0 k.first.1 r.first)

-- ---- functions

-- a function was read as it is printed behind its first word, with its attributes in place of those that were read
pub record FunctionAgain (text : List ℕ) (p : Rule (Unit {0}) Written) (pieces : List Piece) (f : Function) : Type 0 where
  pub again : Written
  pub is : (groups : List ℕ → Settings) → function_of text groups again ≡ f
  pub spells : Spells text p tt pieces again tt

like_none : Alike no_locals_yet no_locals_yet
like_none = record { like = record { registers = refl; labels = refl }; fine = record { registers = tt; labels = tt; counter = (omega arith, tt) } }

module _ (m : Meaning) (text : List ℕ) (role : Role) (bytes : AreBytes m.text) (typed : (gap : List ℕ) → Twice text (a_type m 64) (a_type (over m text) 64) (type_at (spelled_by m) gap)) where
  abbrev sp : Spelled
  sp = spelled_by m

  -- ---- declared

  abbrev alone_rest : Function → List Piece
  alone_rest f = type_at sp spaced f.result ++ (global_name spaced f.name ++ (sign glued (codes "(") ++ (with_commas (type_alone sp) glued f.params ++ (sign glued (codes ")") ++ (bound_pieces f.bound ++ address_pieces f.device_address)))))

  pub declaration_again : (tokens : List Token) (d : Head × Locals) → (a_declaration m role).means tt tokens d tt → (st : Settings) → MayStand role st.address
      → FunctionAgain text (a_declaration (over m text) role >>= λ x. done (declared x)) (alone_rest (set_function st (declared d))) (set_function st (declared d))
  declaration_again tokens d k st may =
      let x = head_again m text sp role bytes typed false (λ s z. s ≡ z) (λ t. Unit {0}) (type_alone sp) (declared_again m text sp typed) no_locals_yet no_locals_yet d.1 tokens d.0 refl k.0 tt st.bound st.address may in
      let head : Head = again_head d.0 st.bound st.address in
      record {
        again = declared (head, x.state);
        is = λ groups. ap (λ (s : Settings). set_function s (declared (head, x.state))) (set_again text groups st.bound st.address)
            ∙ function_same st d.0 (bound_marks st.bound ++ address_marks st.address) [] d.1 x.state (ap (λ (v : Locals). v.registers) (sym x.like)) (ap (λ (v : Locals). v.labels) (sym x.like));
        spells = made_spells text (a_declaration (over m text) role) declared tt tt (alone_rest (set_function st (declared d))) (head, x.state) (λ others stand. (x.spells others stand, refl));
      }

  -- ---- defined

  module _ (back_again : BodyBack m text role) where
    abbrev body_rest : Function → List Piece
    body_rest f = sign spaced (codes "{") ++ (blocks_pieces sp (locals_of f) f.blocks ++ sign lined (codes "}"))

    abbrev named_rest : Function → List Piece
    named_rest f =
        (type_at sp spaced f.result ++ (global_name spaced f.name ++ (sign glued (codes "(") ++ (with_commas (param_pieces sp f.registers) glued f.params ++ (sign glued (codes ")") ++ (bound_pieces f.bound ++ address_pieces f.device_address))))))
        ++ body_rest f

    function_spells : (head : Head) (bs : List Block) (u v : Locals) (front back : List Piece) → Spells text (a_head (over m text) role true) no_locals_yet front head u
        → Spells text (body text (an_instr (over m text) role)) u back bs v
        → Spells text (a_function (over m text) role) tt (front ++ (sign spaced (codes "{") ++ back)) (record { head = head; blocks = bs; names = v }) tt
    unfolding a_function head_body
    function_spells head bs u v front back x y =
        made_spells text (inside no_locals_yet (head_body (over m text) role)) written tt tt (front ++ (sign spaced (codes "{") ++ back)) ((head, bs), v) (λ others stand. (
          then_spells text (a_head (over m text) role true) _ no_locals_yet u v front (sign spaced (codes "{") ++ back) head (head, bs) x
              (sign_then text spaced (codes "{") _ u v back (head, bs) refl
              (made_spells text (body text (an_instr (over m text) role)) (λ blocks. (head, blocks)) u v back bs y)) others stand,
          refl,
        ))

    built : (h : Head) (s t : Locals) (front back : List Token) (bs : List Block) → (a_head m role true).means no_locals_yet front h s → (body m.text (an_instr m role)).means s back bs t → (st : Settings) → MayStand role st.address
        → FunctionAgain text (a_function (over m text) role) (named_rest (set_function st (record { head = h; blocks = bs; names = t }))) (set_function st (record { head = h; blocks = bs; names = t }))
    built h s t front back bs k l st may =
        let r = back_again s t back bs l in
        let x = head_again m text sp role bytes typed true Alike (λ s. Follows s t) (param_pieces sp t.registers) (defined_again m text sp typed bytes t) no_locals_yet no_locals_yet s front h like_none k (r.holds (follows_self t)) st.bound st.address may in
        let y = r.spells x.like.fine (follows_self t) x.state x.like.like in
        let head : Head = again_head h st.bound st.address in
        record {
          again = record { head = head; blocks = bs; names = y.0 };
          is = λ groups. ap (λ (s : Settings). set_function s (record { head = head; blocks = bs; names = y.0 })) (set_again text groups st.bound st.address)
              ∙ function_same st h (bound_marks st.bound ++ address_marks st.address) bs t y.0 y.1.registers y.1.labels;
          spells = function_spells head bs x.state y.0 (rest_of sp (param_pieces sp t.registers) h st.bound st.address) (blocks_pieces sp (record { registers = t.registers; labels = t.labels }) bs ++ sign lined (codes "}")) x.spells y.2;
        }

    pub record DefinedAgain (st : Settings) (w : Written) : Type 0 where
      pub some : HasBlock w.blocks
      pub function : FunctionAgain text (a_function (over m text) role) (named_rest (set_function st w)) (set_function st w)

    pub function_again : (tokens : List Token) (w : Written) → (a_function m role).means tt tokens w tt → (st : Settings) → MayStand role st.address → DefinedAgain st w
    unfolding a_function head_body
    function_again tokens w k st may =
        let hb = k.in_front.0 in
        let sg = hb.in_back in
        let bd = sg.in_back in
        let kept : sg.between ≡ hb.between = kept_state hb.between _ sg.first sg.between sg.in_front.value in
        let read : Written = record { head = hb.first; blocks = bd.first; names = bd.between } in
        let is : read ≡ w = (λ i. record { head = (sym bd.in_back.1 i).0; blocks = (sym bd.in_back.1 i).1; names = sym bd.in_back.2 i }) ∙ sym k.in_back.1 in
        let body_read : (body m.text (an_instr m role)).means hb.between bd.front bd.first bd.between = subst (λ (v : Locals). (body m.text (an_instr m role)).means v bd.front bd.first bd.between) kept bd.in_front in
        subst (DefinedAgain st) is (record {
          some = body_some m.text (an_instr m role) hb.between bd.between bd.front bd.first body_read;
          function = built hb.first hb.between bd.between hb.front bd.front bd.first hb.in_front body_read st may;
        })
