-- Whole instructions are read again.
use Rattle.std.proofs.Common.{◌≡◌, ℕ, Bool, true, false, ◌&&◌, ◌==◌, List, ◌++◌, bytes_eq, codes, Option, Some, None, Ok, ◌⊎◌, inl, inr, refl, sym, ap, subst, ◌∙◌, append_assoc}
use Rattle.no_lex.specs.declared.token.Token.{Token}
use Rattle.no_lex.specs.declared.token.TokenKind.TheVariants as kind
use Rattle.no_ir.specs.declared.function.Role.{Role}
use Rattle.no_ir.specs.declared.types.Ty.{Ty}
use Rattle.no_ir.specs.declared.types.Ty.TheVariants as ty
use Rattle.no_ir.specs.declared.instruction.Op.{Op}
use Rattle.no_ir.specs.declared.instruction.Instr.{Instr}
use Rattle.no_read_rules.specs.Rules.{plain}
use Rattle.no_read_rules.specs.Scope.{Meaning}
use Rattle.no_read_rules.specs.Spelled.{spelled, kind_number, is_kind, is_sign, only_where}
use Rattle.no_read_attributes.specs.Attributes.{begins_by, begins_attribute}
use Rattle.no_read_registers.specs.declared.locals.Locals.{Locals}
use Rattle.no_read_registers.specs.Numbered.{a_definition, no_name}
use Rattle.no_read_operations.specs.Operands.{some_type}
use Rattle.no_read_operations.specs.Simple.{binary, cast_form, compare, freeze, select}
use Rattle.no_read_operations.specs.Memory.{load, store}
use Rattle.no_read_operations.specs.Flow.{ret, br, switch}
use Rattle.no_read_instructions.specs.Calls.{void_of, void_call, typed_call, call_type, call_form}
use Rattle.no_read_instructions.specs.Heads.{instr_head}
use Rattle.no_read_instructions.specs.Instructions.{giver_form, action_form, giving, acting, tail_call, after_instr_head, instr_body, named_instr, an_instr}
use Rattle.no_read_instructions.specs.declared.heads.Giver.{Giver}
use Rattle.no_read_instructions.specs.declared.heads.Giver.TheVariants as giver
use Rattle.no_read_instructions.specs.declared.heads.Action.{Action}
use Rattle.no_read_instructions.specs.declared.heads.Action.TheVariants as action
use Rattle.no_read_instructions.specs.declared.heads.InstrHead.{InstrHead}
use Rattle.no_read_instructions.specs.declared.heads.InstrHead.TheVariants as head
use Rattle.no_print.specs.Names.{name_at, local_name}
use Rattle.no_print.specs.Pieces.{Piece, spaced, indented, word, sign}
use Rattle.no_print.specs.Constants.{type_at}
use Rattle.no_print.specs.Instructions.{inserted_pieces, op_pieces, with_result, instr_pieces}
use Rattle.no_round_trip.specs.Spells.{AreBytes, Spells, TypesFit, over, spelled_by}
use Rattle.no_round_trip.proofs.RuleFrame.{plain_spells}
use Rattle.no_round_trip.proofs.RuleOpening.{kept_value}
use Rattle.no_round_trip.proofs.RuleStanding.{Begins, begins, kind_tested, sign_tested}
use Rattle.no_round_trip.proofs.TypePieces.{void_pieces}
use Rattle.no_round_trip.specs.States.{named_by}
use Rattle.no_round_trip.proofs.BodyAllocas.{alloca_back}
use Rattle.no_round_trip.proofs.BodyCalls.{CallBack, call_rest, plain_returns, parts_back}
use Rattle.no_round_trip.proofs.BodyFlow.{ret_back, br_back, switch_back, phi_back, unreachable_back}
use Rattle.no_round_trip.proofs.BodyForms.{FormBack, ended_back, binary_back, cast_back, compare_back, freeze_back, select_back}
use Rattle.no_round_trip.proofs.BodyHeads.{giver_bytes, action_bytes, giver_head, action_head, call_head, head_spells, no_action_named, no_void_named}
use Rattle.no_round_trip.proofs.BodyMemory.{load_back, store_back, address_back}
use Rattle.no_round_trip.proofs.BodyOperands.{local_first, word_first, sign_back, type_any, type_not, type_plain}
use Rattle.no_round_trip.proofs.BodyRegisters.{definition_again, no_name_again}
use Rattle.no_round_trip.proofs.BodyReturning.{Returns, lifted, pieces_are, done_returns, yes_returns, no_returns, then_returns, made_returns}

module _ (m : Meaning) (text : List ℕ) (bytes : AreBytes m.text) (fit : TypesFit m.types) (last : Locals) (role : Role) where
  -- ---- forms

  giver_back : (g : Giver) (s t : Locals) (tokens : List Token) (x : Op × Bool) → (giver_form m role g).means s tokens x t → FormBack m text last (giver_form (over m text) role g) (giver_bytes g) x s t
  giver_back (giver.Binary b) = ended_back m text last role false (binary m b) (binary (over m text) b) (giver_bytes (giver.Binary b)) (binary_back m text bytes fit last b)
  giver_back (giver.Cast c) = ended_back m text last role false (cast_form m c) (cast_form (over m text) c) (giver_bytes (giver.Cast c)) (cast_back m text bytes fit last c)
  giver_back giver.Compare = ended_back m text last role false (compare m) (compare (over m text)) (codes "icmp") (compare_back m text bytes fit last)
  giver_back giver.Freeze = ended_back m text last role false (freeze m) (freeze (over m text)) (codes "freeze") (freeze_back m text bytes fit last)
  giver_back giver.Select = ended_back m text last role false (select m) (select (over m text)) (codes "select") (select_back m text bytes fit last)
  giver_back giver.Phi = phi_back m text bytes fit last role
  giver_back giver.Alloca = alloca_back m text bytes fit last role
  giver_back giver.Load = ended_back m text last role true (load m) (load (over m text)) (codes "load") (load_back m text bytes fit last)
  giver_back giver.Address = address_back m text bytes fit last role

  action_back : (a : Action) (s t : Locals) (tokens : List Token) (x : Op × Bool) → (action_form m role a).means s tokens x t → FormBack m text last (action_form (over m text) role a) (action_bytes a) x s t
  action_back action.Store = ended_back m text last role true (store m) (store (over m text)) (codes "store") (store_back m text bytes fit last)
  action_back action.Br = ended_back m text last role false (br m) (br (over m text)) (codes "br") (br_back m text bytes fit last)
  action_back action.Switch = ended_back m text last role false (switch m) (switch (over m text)) (codes "switch") (switch_back m text bytes fit last)
  action_back action.Ret = ended_back m text last role false (ret m) (ret (over m text)) (codes "ret") (ret_back m text bytes fit last)
  action_back action.Unreachable = unreachable_back m text bytes fit last role

  -- ---- instructions, from behind their results

  -- an instruction whose result is written, or that has none
  record Worked (written : Option ℕ) (i : Instr) (s t : Locals) : Type 0 where
    pub w : List ℕ
    pub pieces : List Piece
    pub result : i.result ≡ written
    pub are : (gap : List ℕ) → op_pieces (spelled_by m) (named_by last) gap i.op ≡ word gap w ++ pieces
    pub back : (gap : List ℕ) → Returns text last (instr_body (over m text) role written) (word gap w ++ (pieces ++ inserted_pieces i.inserted)) i s t

  given_works : (g : Giver) (r : ℕ) (s t : Locals) (tokens : List Token) (x : Op × Bool) → (giver_form m role g).means s tokens x t → Worked (Some r) (record { result = Some r; inserted = x.1; op = x.0 }) s t
  unfolding instr_body giving
  given_works g r s t tokens x k =
      let f = giver_back g s t tokens x k in
      record {
        w = giver_bytes g;
        pieces = f.pieces;
        result = refl;
        are = f.are;
        back = λ gap. then_returns (lifted (plain (instr_head text true)) refl (head_spells text gap true (giver_bytes g) (head.Gives g) (giver_head true g))) (then_returns (done_returns r) (made_returns f.back));
      }

  acted_works : (a : Action) (s t : Locals) (tokens : List Token) (x : Op × Bool) → (action_form m role a).means s tokens x t → Worked None (record { result = None; inserted = x.1; op = x.0 }) s t
  unfolding instr_body acting
  acted_works a s t tokens x k =
      let f = action_back a s t tokens x k in
      record {
        w = action_bytes a;
        pieces = f.pieces;
        result = refl;
        are = f.are;
        back = λ gap. then_returns (lifted (plain (instr_head text false)) refl (head_spells text gap false (action_bytes a) (head.Acts a) (action_head a))) (made_returns f.back);
      }

  -- a call with a result
  typed_works : (of : Ty) (r : ℕ) (i : Instr) (v1 v2 : Locals) (front : List Token) → (some_type m).means v1 front of v2 → (s t : Locals) → CallBack m text bytes fit last role of (Some r) i s t → Worked (Some r) i s t
  unfolding instr_body typed_call
  typed_works of r i v1 v2 front typed s t c =
      let rest : List Piece = call_rest m text bytes fit last role c.callee c.arguments in
      let shown : List Piece = type_at (spelled_by m) spaced of in
      let all : List Piece = rest ++ inserted_pieces c.inserted in
      subst (λ i. Worked (Some r) i s t) (sym c.is) (record {
        w = codes "call";
        pieces = shown ++ rest;
        result = refl;
        are = λ gap. refl;
        back = λ gap. pieces_are (ap (λ l. word gap (codes "call") ++ l) (sym (append_assoc shown rest (inserted_pieces c.inserted))))
            (then_returns (lifted (plain (instr_head text true)) refl (head_spells text gap true (codes "call") head.Call (call_head true)))
            (plain_returns (type_plain m text bytes fit last spaced v1 v2 front of all typed)
            (no_returns (type_not m text bytes fit last spaced (codes "void") v1 v2 front of all (record { one = refl; byte = refl; short = refl; half = refl; full = refl; pointer = refl }) typed)
            (then_returns (type_any m text bytes fit last spaced front of typed) (then_returns (done_returns r) (made_returns {g = λ x. x} c.back))))));
      })

  void_first : (rest : List Piece) → Begins text (begins_attribute text) false (word spaced (codes "void") ++ rest)
  void_first rest = begins text (begins_attribute text) false (word spaced (codes "void") ++ rest) (λ token h. ap (λ k. begins_by k (spelled text token)) h.kind ∙ ap (begins_by kind.Word) h.bytes)

  void_spells : Spells {S = Unit {0}} text (plain (void_of text false)) tt (word spaced (codes "void")) tt tt
  void_spells = plain_spells {S = Unit {0}} text (λ k bytes. only_where ((kind_number k == kind_number kind.Word && bytes_eq bytes (codes "void")) && true)) tt (record { gap = spaced; kind = kind.Word; bytes = codes "void" }) tt refl

  -- a call without one
  void_works : (i : Instr) (s t : Locals) → CallBack m text bytes fit last role ty.Void None i s t → Worked None i s t
  unfolding instr_body void_call
  void_works i s t c =
      let rest : List Piece = call_rest m text bytes fit last role c.callee c.arguments in
      let all : List Piece = rest ++ inserted_pieces c.inserted in
      subst (λ i. Worked None i s t) (sym c.is) (record {
        w = codes "call";
        pieces = word spaced (codes "void") ++ rest;
        result = refl;
        are = λ gap. ap (λ l. word gap (codes "call") ++ (l ++ rest)) (void_pieces m.named spaced);
        back = λ gap. then_returns (lifted (plain (instr_head text false)) refl (head_spells text gap false (codes "call") head.Call (call_head false)))
            (plain_returns (void_first all) (yes_returns (word_first text spaced (codes "void") (codes "void") all true refl) (then_returns (lifted (plain (void_of text false)) refl void_spells) c.back)));
      })

  -- ---- a written result

  call_named : (r : ℕ) (s t : Locals) (tokens : List Token) (i : Instr) → (call_form m role (Some r)).means s tokens i t → Worked (Some r) i s t
  unfolding void_call typed_call
  call_named r s t tokens i k = subst (λ v. Worked (Some r) i v t) k.in_front.1 (by k.in_back)
    where
      by : (call_type m role (Some r)).means k.between k.back i t → Worked (Some r) i k.between t
      by (inl q) = absurd (no_void_named m.text q.1.in_front.0.token (kept_value tt (void_of m.text true q.1.in_front.0.token) tt tt q.1.in_front.0.value))
      by (inr q) =
          let x = q.1.in_back in
          let call = x.in_back in
          let state : x.between ≡ k.between = x.in_front.2 ∙ q.1.in_front.1 in
          let works = typed_works q.1.first x.first call.first k.between q.1.between q.1.front q.1.in_front x.between call.between (parts_back m text bytes fit last role q.1.first (Some x.first) x.between call.between call.front call.first call.in_front) in
          let a = subst (λ (n : ℕ). Worked (Some n) call.first x.between call.between) x.in_front.1 works in
          let b = subst (λ v. Worked (Some r) call.first v call.between) state a in
          let c = subst (λ (j : Instr). Worked (Some r) j k.between call.between) (sym call.in_back.1) b in
          subst (λ v. Worked (Some r) i k.between v) (sym call.in_back.2) c

  giving_named : (r : ℕ) (g : Giver) (s t : Locals) (tokens : List Token) (i : Instr) → (giving m role (Some r) g).means s tokens i t → Worked (Some r) i s t
  unfolding giving
  giving_named r g s t tokens i k =
      let x = k.in_back in
      let works = given_works g k.first k.between x.between x.front x.first x.in_front in
      let i2 : Instr = record { result = Some k.first; inserted = x.first.1; op = x.first.0 } in
      let is : i2 ≡ i = sym x.in_back.1 in
      let a = subst (λ (j : Instr). Worked (Some k.first) j k.between x.between) is works in
      let b = subst (λ (n : ℕ). Worked (Some n) i k.between x.between) k.in_front.1 a in
      let c = subst (λ v. Worked (Some r) i v x.between) k.in_front.2 b in
      subst (λ v. Worked (Some r) i s v) (sym x.in_back.2) c

  body_named : (r : ℕ) (s t : Locals) (tokens : List Token) (i : Instr) → (instr_body m role (Some r)).means s tokens i t → Worked (Some r) i s t
  unfolding instr_body tail_call
  body_named r s t tokens i k = subst (λ v. Worked (Some r) i v t) k.in_front.1 (by k.first (kept_value tt (instr_head m.text true k.in_front.0.token) k.first tt k.in_front.0.value) k.in_back)
    where
      by : (h : InstrHead) → instr_head m.text true k.in_front.0.token ≡ Ok h → (after_instr_head m role (Some r) h).means k.between k.back i t → Worked (Some r) i k.between t
      by (head.Gives g) e q = giving_named r g k.between t k.back i q
      by head.Call e q = call_named r k.between t k.back i q
      by head.TailCall e q = subst (λ v. Worked (Some r) i v t) q.in_front.1 (call_named r q.between t q.back i q.in_back)
      by (head.Acts a) e q = absurd (no_action_named m.text k.in_front.0.token a e)

  -- ---- no written result: none at all, or one that the counter names

  record Unnamed (i : Instr) (s t : Locals) : Type 0 where
    pub register : ℕ
    pub tokens : List Token
    pub between : Locals
    pub named : no_name.means s tokens register between
    pub works : Worked (Some register) i between t

  abbrev Either : Instr → Locals → Locals → Type 0
  Either i s t = Worked None i s t ⊎ Unnamed i s t

  call_unnamed : (s t : Locals) (tokens : List Token) (i : Instr) → (call_form m role None).means s tokens i t → Either i s t
  unfolding void_call typed_call
  call_unnamed s t tokens i k = subst (λ v. Either i v t) k.in_front.1 (by k.in_back)
    where
      by : (call_type m role None).means k.between k.back i t → Either i k.between t
      by (inl q) = inl (subst (λ v. Worked None i v t) q.1.in_front.1 (void_works i q.1.between t (parts_back m text bytes fit last role ty.Void None q.1.between t q.1.back i q.1.in_back)))
      by (inr q) =
          let x = q.1.in_back in
          let call = x.in_back in
          let works = typed_works q.1.first x.first call.first k.between q.1.between q.1.front q.1.in_front x.between call.between (parts_back m text bytes fit last role q.1.first (Some x.first) x.between call.between call.front call.first call.in_front) in
          let a = subst (λ (j : Instr). Worked (Some x.first) j x.between call.between) (sym call.in_back.1) works in
          let b = subst (λ v. Worked (Some x.first) i x.between v) (sym call.in_back.2) a in
          subst (λ v. Either i v t) q.1.in_front.1 (inr (record { register = x.first; tokens = x.front; between = x.between; named = x.in_front; works = b }))

  giving_unnamed : (g : Giver) (s t : Locals) (tokens : List Token) (i : Instr) → (giving m role None g).means s tokens i t → Unnamed i s t
  unfolding giving
  giving_unnamed g s t tokens i k =
      let x = k.in_back in
      let works = given_works g k.first k.between x.between x.front x.first x.in_front in
      let a = subst (λ (j : Instr). Worked (Some k.first) j k.between x.between) (sym x.in_back.1) works in
      record { register = k.first; tokens = k.front; between = k.between; named = k.in_front; works = subst (λ v. Worked (Some k.first) i k.between v) (sym x.in_back.2) a }

  acting_unnamed : (a : Action) (s t : Locals) (tokens : List Token) (i : Instr) → (acting m role a).means s tokens i t → Worked None i s t
  unfolding acting
  acting_unnamed a s t tokens i k =
      let works = acted_works a s k.between k.front k.first k.in_front in
      subst (λ v. Worked None i s v) (sym k.in_back.2) (subst (λ (j : Instr). Worked None j s k.between) (sym k.in_back.1) works)

  body_unnamed : (s t : Locals) (tokens : List Token) (i : Instr) → (instr_body m role None).means s tokens i t → Either i s t
  unfolding instr_body tail_call
  body_unnamed s t tokens i k = subst (λ v. Either i v t) k.in_front.1 (by k.first k.in_back)
    where
      by : (h : InstrHead) → (after_instr_head m role None h).means k.between k.back i t → Either i k.between t
      by (head.Gives g) q = inr (giving_unnamed g k.between t k.back i q)
      by head.Call q = call_unnamed k.between t k.back i q
      by head.TailCall q = subst (λ v. Either i v t) q.in_front.1 (call_unnamed q.between t q.back i q.in_back)
      by (head.Acts a) q = inl (acting_unnamed a k.between t k.back i q)

  -- ---- whole instructions

  abbrev shown_instr : Instr → List Piece
  shown_instr = instr_pieces (spelled_by m) (named_by last)

  -- an instruction, which begins with no label and no bracket
  pub record InstrBack (i : Instr) (s t : Locals) : Type 0 where
    pub no_close : (rest : List Piece) → Begins text (is_sign text (codes "}")) false (instr_pieces (spelled_by m) (named_by last) i ++ rest)
    pub no_label : (rest : List Piece) → Begins text (is_kind kind.Label) false (instr_pieces (spelled_by m) (named_by last) i ++ rest)
    pub back : Returns text last (an_instr (over m text) role) (instr_pieces (spelled_by m) (named_by last) i) i s t

  with_name : (r : ℕ) (i : Instr) (s u t : Locals) → Returns text last (a_definition text) (local_name indented (name_at last.registers r)) r s u → Worked (Some r) i u t → InstrBack i s t
  unfolding an_instr named_instr
  with_name r i s u t set works =
      let name : List Piece = local_name indented (name_at last.registers r) in
      let rest : List Piece = word spaced works.w ++ (works.pieces ++ inserted_pieces i.inserted) in
      let whole : List Piece = name ++ (sign spaced (codes "=") ++ rest) in
      let shape : with_result (spelled_by m) (named_by last) i.result i.op ++ inserted_pieces i.inserted ≡ whole =
      ap (λ (o : Option ℕ). with_result (spelled_by m) (named_by last) o i.op ++ inserted_pieces i.inserted) works.result
      ∙ ap (λ l. name ++ (sign spaced (codes "=") ++ (l ++ inserted_pieces i.inserted))) (works.are spaced) in
      record {
        no_close = λ more. subst (λ l. Begins text (is_sign text (codes "}")) false (l ++ more)) (sym shape) (begins text (is_sign text (codes "}")) false (whole ++ more) (λ token h. sign_tested text (codes "}") _ token h));
        no_label = λ more. subst (λ l. Begins text (is_kind kind.Label) false (l ++ more)) (sym shape) (begins text (is_kind kind.Label) false (whole ++ more) (λ token h. kind_tested text kind.Label _ token h));
        back = pieces_are (sym shape) (yes_returns (local_first text indented (name_at last.registers r) (sign spaced (codes "=") ++ rest))
            (then_returns set (then_returns (sign_back m text bytes fit last spaced (codes "=") refl refl) (made_returns {g = λ x. x} (works.back spaced)))));
      }

  without_name : (i : Instr) (s t : Locals) → Worked None i s t → InstrBack i s t
  unfolding an_instr
  without_name i s t works =
      let whole : List Piece = word indented works.w ++ (works.pieces ++ inserted_pieces i.inserted) in
      let shape : with_result (spelled_by m) (named_by last) i.result i.op ++ inserted_pieces i.inserted ≡ whole =
      ap (λ (o : Option ℕ). with_result (spelled_by m) (named_by last) o i.op ++ inserted_pieces i.inserted) works.result ∙ ap (λ l. l ++ inserted_pieces i.inserted) (works.are indented) in
      record {
        no_close = λ more. subst (λ l. Begins text (is_sign text (codes "}")) false (l ++ more)) (sym shape) (begins text (is_sign text (codes "}")) false (whole ++ more) (λ token h. sign_tested text (codes "}") _ token h));
        no_label = λ more. subst (λ l. Begins text (is_kind kind.Label) false (l ++ more)) (sym shape) (begins text (is_kind kind.Label) false (whole ++ more) (λ token h. kind_tested text kind.Label _ token h));
        back = pieces_are (sym shape) (no_returns (begins text (is_kind kind.Local) false whole (λ token h. kind_tested text kind.Local _ token h)) (works.back indented));
      }

  pub instr_back : (s t : Locals) (tokens : List Token) (i : Instr) → (an_instr m role).means s tokens i t → InstrBack i s t
  unfolding an_instr named_instr
  instr_back s t tokens i (inl k) =
      let r : ℕ = k.1.first in
      let x = k.1.in_back.in_back in
      let works = body_named r k.1.in_back.between x.between x.front x.first x.in_front in
      let a = subst (λ v. Worked (Some r) x.first v x.between) k.1.in_back.in_front.1 works in
      let b = subst (λ (j : Instr). Worked (Some r) j k.1.between x.between) (sym x.in_back.1) a in
      with_name r i s k.1.between t (definition_again m.text text bytes last indented s k.1.between k.1.front r k.1.in_front) (subst (λ v. Worked (Some r) i k.1.between v) (sym x.in_back.2) b)
  instr_back s t tokens i (inr k) = elim (body_unnamed s t tokens i k.1) [
    | inl works ↦ without_name i s t works
    | inr u ↦ with_name u.register i s u.between t (no_name_again m.text text bytes last indented s u.between u.tokens u.register u.named) u.works
  ]
