-- The laws of blocks, where the rule for an instruction has its own, and no instruction, label or closing bracket begins with what an instruction may go on with.
use Rattle.std.proofs.Common.{◌≡◌, ℕ, ◌<◌, length, Bool, true, false, List, [], ◌∷◌, ◌++◌, codes, Option, Some, None, Result, Ok, Err, inl, inr, refl, sym, ap, subst, ◌∙◌, append_assoc}
use Rattle.no_lex.specs.declared.token.Token.{Token}
use Rattle.no_ir.specs.declared.function.Block.{Block}
use Rattle.no_ir.specs.declared.instruction.Instr.{Instr}
use Rattle.no_read_rules.specs.declared.fault.Stopped.{Stopped}
use Rattle.no_read_rules.specs.declared.fault.Stop.{Stop}
use Rattle.no_read_rules.specs.declared.fault.Stop.TheVariants as stop
use Rattle.no_read_rules.specs.Repeated.{with_item, IsRepeated, repeat_all, repeat}
use Rattle.no_read_rules.specs.Rules.{Rule, after, done, ◌>>=◌, choose, if_next, Fails, next_is, Avoids, none, Good, IsSolid}
use Rattle.no_read_rules.proofs.Laws.{avoids_none, plain_good, plain_solid, done_good, weaker, then_good, follow_good, first_solid, if_next_good, if_next_solid}
use Rattle.no_read_rules.proofs.Repeats as repeats
use Rattle.no_read_registers.specs.declared.locals.Locals.{Locals}
use Rattle.no_read_registers.proofs.LocalLaws.{block_label_good, block_label_solid, no_block_label_good}
use Rattle.no_read_functions.specs.declared.blocks.Piece.{Piece}
use Rattle.no_read_functions.specs.declared.blocks.Piece.TheVariants as piece
use Rattle.no_read_functions.specs.Blocks.{is_close, is_label, closing, label_piece, instr_piece, a_piece, labelled, unlabelled, entry, blocks_of, with_open, body}

-- what takes no token leaves what follows as it is
done_apart : {S A : Type 0} (av : Token → Bool) (a : A) (s t : S) (used rest : List Token) (b : A) → (done a).means s used b t → Avoids av rest → Avoids av (used ++ rest)
done_apart av a s t used rest b m out = subst (λ (l : List Token). Avoids av (l ++ rest)) (sym m.0) out

-- what a rule that takes a token took decides what the tokens begin with
begins : (av : Token → Bool) (used rest : List Token) → (used ≡ [] → ⊥) → next_is av used ≡ false → Avoids av (used ++ rest)
begins av [] rest some is = absurd (some refl)
begins av (u ∷ used) rest some is = is

front_apart : (av : Token → Bool) (used front back : List Token) → used ≡ front ++ back → (front ≡ [] → ⊥) → next_is av front ≡ false → next_is av used ≡ false
front_apart av used [] back parts some is = absurd (some refl)
front_apart av used (f ∷ front) back parts some is = ap (next_is av) parts ∙ is

module _ (text : List ℕ) (instr : Rule Locals Instr) (av : Token → Bool) (gi : Good av instr) (solid : IsSolid instr)
    (instr_apart : (s t : Locals) (used : List Token) (i : Instr) → instr.means s used i t → next_is av used ≡ false)
    (close_apart : (t : Token) → is_close text t ≡ true → av t ≡ false) (label_apart : (t : Token) → is_label t ≡ true → av t ≡ false) where
  closing_good : Good none (closing text)
  unfolding closing
  closing_good = then_good none _ _ (plain_good _) (λ _. done_good none None)

  closing_solid : IsSolid (closing text)
  unfolding closing
  closing_solid = first_solid _ _ (plain_solid _)

  label_good : Good none (label_piece text)
  unfolding label_piece
  label_good = then_good none _ _ (block_label_good text) (λ label. done_good none (Some (piece.Label label)))

  label_solid : IsSolid (label_piece text)
  unfolding label_piece
  label_solid = first_solid _ _ (block_label_solid text)

  instr_good : Good av (instr_piece instr)
  unfolding instr_piece
  instr_good = follow_good av av instr (λ i. done (Some (piece.Instr i))) gi (λ i. done_good av (Some (piece.Instr i))) (λ i s t used rest b m out. done_apart av (Some (piece.Instr i)) s t used rest b m out)

  instr_solid : IsSolid (instr_piece instr)
  unfolding instr_piece
  instr_solid = first_solid instr (λ i. done (Some (piece.Instr i))) solid

  pub piece_good : Good av (a_piece text instr)
  unfolding a_piece
  piece_good = if_next_good av (is_close text) (closing text) (if_next is_label (label_piece text) (instr_piece instr)) (weaker av (closing text) closing_good)
      (if_next_good av is_label (label_piece text) (instr_piece instr) (weaker av (label_piece text) label_good) instr_good label_solid instr_solid)
      closing_solid (if_next_solid is_label (label_piece text) (instr_piece instr) label_solid instr_solid)

  pub piece_solid : IsSolid (a_piece text instr)
  unfolding a_piece
  piece_solid = if_next_solid (is_close text) (closing text) (if_next is_label (label_piece text) (instr_piece instr)) closing_solid (if_next_solid is_label (label_piece text) (instr_piece instr) label_solid instr_solid)

  tested : (test : Token → Bool) → ((t : Token) → test t ≡ true → av t ≡ false) → (used : List Token) → next_is test used ≡ true → next_is av used ≡ false
  tested test out [] is = refl
  tested test out (u ∷ used) is = out u is

  instr_begins : (s t : Locals) (used : List Token) (o : Option Piece) → (instr_piece instr).means s used o t → next_is av used ≡ false
  unfolding instr_piece
  instr_begins s t used o m = front_apart av used m.front m.back m.parts
      (λ e. solid s m.between m.first (subst (λ (l : List Token). instr.means s l m.first m.between) e m.in_front)) (instr_apart s m.between m.front m.first m.in_front)

  piece_apart : (s t : Locals) (used : List Token) (o : Option Piece) → (a_piece text instr).means s used o t → next_is av used ≡ false
  unfolding a_piece
  piece_apart s t used o (inl m) = tested (is_close text) close_apart used m.0
  piece_apart s t used o (inr (k, inl m)) = tested is_label label_apart used m.0
  piece_apart s t used o (inr (k, inr m)) = instr_begins s t used o m.1

  -- nothing follows the closing bracket alone
  no_piece : (p : Piece) → None ≡ Some p → ⊥
  no_piece p e = cc

  label_more : (s t : Locals) (used : List Token) → (label_piece text).means s used None t → ⊥
  unfolding label_piece
  label_more s t used m = no_piece (piece.Label m.first) m.in_back.1

  instr_more : (s t : Locals) (used : List Token) → (instr_piece instr).means s used None t → ⊥
  unfolding instr_piece
  instr_more s t used m = no_piece (piece.Instr m.first) m.in_back.1

  last : (s t : Locals) (used rest : List Token) → (a_piece text instr).means s used None t → (a_piece text instr).read s (used ++ rest) ≡ Ok (None, t, rest)
  unfolding a_piece
  last s t [] rest (inl m) = absurd (closing_solid s t None m.1)
  last s t (u ∷ used) rest (inl m) = subst (λ b. (choose b (closing text) (if_next is_label (label_piece text) (instr_piece instr))).read s (u ∷ (used ++ rest)) ≡ Ok (None, t, rest)) (sym m.0)
      (closing_good.only s t (u ∷ used) rest None m.1 (avoids_none rest))
  last s t used rest (inr (k, inl m)) = absurd (label_more s t used m.1)
  last s t used rest (inr (k, inr m)) = absurd (instr_more s t used m.1)

  labelled_good : Good none (labelled text)
  unfolding labelled
  labelled_good = then_good none _ _ (block_label_good text) (λ label. done_good none (label, []))

  labelled_solid : IsSolid (labelled text)
  unfolding labelled
  labelled_solid = first_solid _ _ (block_label_solid text)

  unlabelled_good : Good av (unlabelled instr)
  unfolding unlabelled
  unlabelled_good = then_good av _ _ no_block_label_good (λ label.
      follow_good av av instr (λ first. done (label, first ∷ [])) gi (λ first. done_good av (label, first ∷ [])) (λ first s t used rest b m out. done_apart av (label, first ∷ []) s t used rest b m out))

  unlabelled_solid : IsSolid (unlabelled instr)
  unfolding unlabelled
  unlabelled_solid s t a m = go m.front m.back m.parts m.in_back.front m.in_back.back m.in_back.parts m.in_back.in_front
    where
      go : (front back : List Token) → [] ≡ front ++ back → (inner rest : List Token) → back ≡ inner ++ rest → instr.means m.between inner m.in_back.first m.in_back.between → ⊥
      go [] [] e [] rest f i = solid m.between m.in_back.between m.in_back.first i
      go [] [] e (u ∷ inner) rest f i = absurd cc
      go [] (v ∷ back) e inner rest f i = absurd cc
      go (u ∷ front) back e inner rest f i = absurd cc

  entry_good : Good av (entry text instr)
  unfolding entry
  entry_good = if_next_good av is_label (labelled text) (unlabelled instr) (weaker av (labelled text) labelled_good) unlabelled_good labelled_solid unlabelled_solid

  entry_solid : IsSolid (entry text instr)
  unfolding entry
  entry_solid = if_next_solid is_label (labelled text) (unlabelled instr) labelled_solid unlabelled_solid

  pieces_apart : (s t : Locals) (all : List Piece) (used rest : List Token) → IsRepeated (a_piece text instr) s used all t → Avoids av (used ++ rest)
  pieces_apart s t [] used rest m = begins av used rest (λ e. piece_solid s t None (subst (λ (l : List Token). (a_piece text instr).means s l None t) e m)) (piece_apart s t used None m)
  pieces_apart s t (p ∷ all) used rest m = subst (λ (l : List Token). Avoids av l) (sym (ap (λ (l : List Token). l ++ rest) m.parts ∙ append_assoc m.front m.back rest))
      (begins av m.front (m.back ++ rest) (λ e. piece_solid s m.between (Some p) (subst (λ (l : List Token). (a_piece text instr).means s l (Some p) m.between) e m.item)) (piece_apart s m.between m.front (Some p) m.item))

  pieces_only : (s t : Locals) (all : List Piece) (used rest : List Token) → IsRepeated (a_piece text instr) s used all t → repeat_all (a_piece text instr) s (used ++ rest) ≡ Ok (all, t, rest)
  pieces_only s t [] used rest m = repeats.repeat_is av (a_piece text instr) piece_good piece_solid s (used ++ rest) ∙ (rw (last s t used rest m) refl)
  pieces_only s t (p ∷ all) used rest m =
      let more : repeat_all (a_piece text instr) m.between (m.back ++ rest) ≡ Ok (all, t, rest) = pieces_only m.between t all m.back rest m.others in
      let first : (a_piece text instr).read s (m.front ++ (m.back ++ rest)) ≡ Ok (Some p, m.between, m.back ++ rest) =
      piece_good.only s m.between m.front (m.back ++ rest) (Some p) m.item (pieces_apart m.between t all m.back rest m.others) in
      rw (m.parts, append_assoc, repeats.repeat_is av (a_piece text instr) piece_good piece_solid s (m.front ++ (m.back ++ rest)), first, more) refl

  pub pieces_good : Good none (repeat (a_piece text instr))
  pieces_good = record {
    found = λ s tokens x e. (repeats.repeat_good av (a_piece text instr) piece_good piece_solid piece_apart).found s tokens x e;
    only = λ s t used rest all m out. pieces_only s t all used rest m;
  }

  pub body_good : Good none (body text instr)
  unfolding body
  body_good = follow_good av none (entry text instr) (λ first. repeat (a_piece text instr) >>= λ pieces. done (blocks_of first.0 first.1 pieces)) entry_good
      (λ first. then_good none (repeat (a_piece text instr)) (λ pieces. done (blocks_of first.0 first.1 pieces)) pieces_good (λ pieces. done_good none (blocks_of first.0 first.1 pieces)))
      (λ first s t used rest b m out. subst (λ (l : List Token). Avoids av l) (sym (ap (λ (l : List Token). l ++ rest) m.parts ∙ append_assoc m.front m.back rest))
      (pieces_apart s m.between m.first m.front (m.back ++ rest) m.in_front))

  pub body_solid : IsSolid (body text instr)
  unfolding body
  body_solid = first_solid (entry text instr) (λ first. repeat (a_piece text instr) >>= λ pieces. done (blocks_of first.0 first.1 pieces)) entry_solid

  -- ---- the steps of the loop over pieces

  abbrev Read : Type 0
  Read = Result (List Piece × Locals × List Token) Stopped

  abbrev Total : Type 0
  Total = Result (List Block × Locals × List Token) Stopped

  regroup : (blocks : List Block) (label next : ℕ) (instrs : List Instr) (r : Read)
      → with_open blocks label instrs (after r (with_item (piece.Label next))) ≡ with_open (blocks ++ record { label = label; instrs = instrs } ∷ []) next [] r
  regroup blocks label next instrs (Ok x) = rw (append_assoc blocks (record { label = label; instrs = instrs } ∷ []) (blocks_of next [] x.0)) refl
  regroup blocks label next instrs (Err d) = refl

  regrown : (blocks : List Block) (label : ℕ) (instrs : List Instr) (i : Instr) (r : Read)
      → with_open blocks label instrs (after r (with_item (piece.Instr i))) ≡ with_open blocks label (instrs ++ i ∷ []) r
  regrown blocks label instrs i (Ok x) = refl
  regrown blocks label instrs i (Err d) = refl

  pub open_label : (blocks : List Block) (label next : ℕ) (instrs : List Instr) (s t : Locals) (tokens aft : List Token) (o : Option Piece) (total : Total) → (a_piece text instr).read s tokens ≡ Ok (o, t, aft) → o ≡ Some (piece.Label next)
      → with_open blocks label instrs (repeat_all (a_piece text instr) s tokens) ≡ total → with_open (blocks ++ record { label = label; instrs = instrs } ∷ []) next [] (repeat_all (a_piece text instr) t aft) ≡ total
  open_label blocks label next instrs s t tokens aft o total e is so_far =
      let one : with_open blocks label instrs (repeat_all (a_piece text instr) s tokens) ≡ with_open (blocks ++ record { label = label; instrs = instrs } ∷ []) next [] (repeat_all (a_piece text instr) t aft) =
      rw (repeats.repeat_is av (a_piece text instr) piece_good piece_solid s tokens, e, is) (regroup blocks label next instrs (repeat_all (a_piece text instr) t aft)) in
      sym one ∙ so_far

  pub open_instr : (blocks : List Block) (label : ℕ) (instrs : List Instr) (i : Instr) (s t : Locals) (tokens aft : List Token) (o : Option Piece) (total : Total) → (a_piece text instr).read s tokens ≡ Ok (o, t, aft) → o ≡ Some (piece.Instr i)
      → with_open blocks label instrs (repeat_all (a_piece text instr) s tokens) ≡ total → with_open blocks label (instrs ++ i ∷ []) (repeat_all (a_piece text instr) t aft) ≡ total
  open_instr blocks label instrs i s t tokens aft o total e is so_far =
      let one : with_open blocks label instrs (repeat_all (a_piece text instr) s tokens) ≡ with_open blocks label (instrs ++ i ∷ []) (repeat_all (a_piece text instr) t aft) =
      rw (repeats.repeat_is av (a_piece text instr) piece_good piece_solid s tokens, e, is) (regrown blocks label instrs i (repeat_all (a_piece text instr) t aft)) in
      sym one ∙ so_far

  pub open_fails : (e : Stop) (blocks : List Block) (label : ℕ) (instrs : List Instr) (s : Locals) (tokens : List Token) (total : Total) → Fails e ((a_piece text instr).read s tokens)
      → with_open blocks label instrs (repeat_all (a_piece text instr) s tokens) ≡ total → Fails e total
  open_fails stop.NoMemory blocks label instrs s tokens total f so_far = tt
  open_fails (stop.Fault d) blocks label instrs s tokens total f so_far = sym so_far ∙ (rw (repeats.repeat_is av (a_piece text instr) piece_good piece_solid s tokens, f) refl)

  pub open_stops : (blocks : List Block) (label : ℕ) (instrs : List Instr) (s t : Locals) (tokens rest : List Token) (o : Option Piece) (total : Total) → (a_piece text instr).read s tokens ≡ Ok (o, t, rest) → o ≡ None
      → with_open blocks label instrs (repeat_all (a_piece text instr) s tokens) ≡ total → total ≡ Ok (blocks ++ record { label = label; instrs = instrs } ∷ [], t, rest)
  open_stops blocks label instrs s t tokens rest o total e is so_far = sym so_far ∙ (rw (repeats.repeat_is av (a_piece text instr) piece_good piece_solid s tokens, e, is) refl)

  pub open_falls : (s t : Locals) (tokens rest : List Token) (o : Option Piece) → (a_piece text instr).read s tokens ≡ Ok (o, t, rest) → length rest < length tokens
  open_falls s t tokens rest o e = repeats.shorter av (a_piece text instr) piece_good piece_solid s t tokens rest o e
