-- What stands before the blocks of a function is read again.
use Rattle.std.proofs.Common.{◌≡◌, ℕ, Bool, true, false, ◌&&◌, ◌==◌, List, [], ◌++◌, codes, bytes_eq, Option, inl, inr, refl, sym, ap, subst, ◌∙◌, append_assoc}
use Rattle.std.proofs.lemmas.Slice.Eq.{bytes_eq-Decides}
use Rattle.no_ir.specs.declared.function.Role.{Role}
use Rattle.no_ir.specs.declared.types.Ty.{Ty}
use Rattle.no_ir.specs.declared.types.Ty.TheVariants as ty
use Rattle.no_lex.specs.declared.token.Token.{Token}
use Rattle.no_lex.specs.declared.token.TokenKind.{TokenKind}
use Rattle.no_lex.specs.declared.token.TokenKind.TheVariants as kind
use Rattle.no_read_rules.specs.Rules.{plain, done, ◌>>=◌, lift}
use Rattle.no_read_rules.specs.Scope.{Meaning}
use Rattle.no_read_rules.specs.Spelled.{spelled, kind_number, is_word, only_where, a_word}
use Rattle.no_read_rules.specs.Types.{a_type}
use Rattle.no_read_attributes.specs.Attributes.{begins_by, begins_attribute, attribute_marks}
use Rattle.no_read_attributes.specs.Symbols.{symbol_name}
use Rattle.no_read_functions.specs.declared.heads.Head.{Head}
use Rattle.no_read_functions.specs.Heads.{params, result_type, words_type, head_marks, a_head}
use Rattle.no_read_registers.specs.declared.locals.Locals.{Locals}
use Rattle.no_print.specs.Constants.{Spelled, type_at}
use Rattle.no_print.specs.Modules.{bound_pieces, address_pieces}
use Rattle.no_print.specs.Names.{global_name}
use Rattle.no_print.specs.Pieces.{Piece, glued, spaced, word, sign, with_commas}
use Rattle.no_round_trip.specs.Spells.{AreBytes, Spells, over}
use Rattle.no_round_trip.proofs.RuleFrame.{then_spells, made_spells, lift_spells, yes_spells, no_spells}
use Rattle.no_round_trip.proofs.RuleListing.{word_spells}
use Rattle.no_round_trip.proofs.RuleOpening.{Opens, begins_alone, plain_opens, then_opens, if_next_opens}
use Rattle.no_round_trip.proofs.RuleStanding.{begins, word_tested}
use Rattle.no_round_trip.proofs.TypePieces.{void_pieces}
use Rattle.no_round_trip.proofs.BodyBeginnings.{OtherWord, type_no_word, type_no_attribute}
use Rattle.no_round_trip.proofs.TopMarks.{MayStand, AllSet, read_may, bound_marks, address_marks, marks_spell}
use Rattle.no_round_trip.proofs.TopParams.{ParamsAgain}
use Rattle.no_round_trip.proofs.TopSteps.{Twice, given_holds, symbol_spells, symbol_bytes}

-- ---- the word of no type

other_word : OtherWord (codes "void")
other_word = record { one = refl; byte = refl; short = refl; half = refl; full = refl; pointer = refl }

void_by : (k : TokenKind) (bytes : List ℕ) → ((kind_number k == 0) && bytes_eq bytes (codes "void")) ≡ true → begins_by k bytes ≡ false
void_by kind.Word bytes e = let is : bytes_eq bytes (codes "void") ≡ true = e in subst (λ b. begins_by kind.Word b ≡ false) (sym ((bytes_eq-Decides bytes (codes "void")).0 is)) refl
void_by kind.Sign bytes e = refl
void_by kind.Local bytes e = refl
void_by kind.Integer bytes e = refl
void_by kind.Global bytes e = refl
void_by kind.Meta bytes e = refl
void_by kind.CMark bytes e = refl
void_by kind.Label bytes e = refl
void_by kind.Group bytes e = absurd cc
void_by kind.Quoted bytes e = absurd cc

void_no_attribute : (text : List ℕ) (token : Token) → is_word text (codes "void") token ≡ true → begins_attribute text token ≡ false
void_no_attribute text token e = void_by token.kind (spelled text token) e

-- ---- heads

-- what stands behind the first word, with these attributes
abbrev pub rest_of : Spelled → (List ℕ → ℕ × Ty → List Piece) → Head → Bool → Option ℕ → List Piece
rest_of sp f h b o =
    type_at sp spaced h.result ++ (global_name spaced h.name ++ (sign glued (codes "(") ++ (with_commas f glued h.params ++ (sign glued (codes ")") ++ (bound_pieces b ++ address_pieces o)))))

abbrev pub again_head : Head → Bool → Option ℕ → Head
again_head h b o = record { name = h.name; result = h.result; params = h.params; marks = bound_marks b ++ address_marks o }

pub record HeadAgain (m : Meaning) (text : List ℕ) (sp : Spelled) (role : Role) (named : Bool) (Same : Locals → Locals → Type 0) (f : List ℕ → ℕ × Ty → List Piece) (h : Head) (z t : Locals) (b : Bool) (o : Option ℕ) : Type 0 where
  pub state : Locals
  pub like : Same t state
  pub spells : Spells text (a_head (over m text) role named) z (rest_of sp f h b o) (again_head h b o) state

module _ (m : Meaning) (text : List ℕ) (sp : Spelled) (role : Role) (bytes : AreBytes m.text) (typed : (gap : List ℕ) → Twice text (a_type m 64) (a_type (over m text) 64) (type_at sp gap)) where
  -- ---- the type of a result

  void_spells : (gap : List ℕ) → Spells text (result_type (over m text)) tt (word gap (codes "void")) ty.Void tt
  unfolding result_type
  void_spells gap =
      yes_spells text (is_word text (codes "void")) (a_word text (codes "void") >>= λ _. done ty.Void) (a_type (over m text) 64) tt (word gap (codes "void")) ty.Void tt
      (begins text (is_word text (codes "void")) true (word gap (codes "void")) (λ token h. word_tested text (codes "void") (record { gap = gap; kind = kind.Word; bytes = codes "void" }) token h))
      (made_spells text (a_word text (codes "void")) (λ _. ty.Void) tt tt (word gap (codes "void")) tt (word_spells text gap tt (codes "void") refl))

  result_again : (gap : List ℕ) → Twice text (result_type m) (result_type (over m text)) (type_at sp gap)
  unfolding result_type
  result_again gap tokens t (inl k) =
      subst (λ (t : Ty). Spells text (result_type (over m text)) tt (type_at sp gap t) t tt) (sym k.1.in_back.1)
      (subst (λ (l : List Piece). Spells text (result_type (over m text)) tt l ty.Void tt) (sym (void_pieces sp.named gap)) (void_spells gap))
  result_again gap tokens t (inr k) =
      let x = typed gap tokens t k.1 in
      no_spells text (is_word text (codes "void")) (a_word text (codes "void") >>= λ _. done ty.Void) (a_type (over m text) 64) tt (type_at sp gap t) t tt
      (begins_alone text (is_word text (codes "void")) false (a_type (over m text) 64) (type_no_word (over m text) 64 (codes "void") other_word) tt tt t (type_at sp gap t) x) x

  result_opens : Opens (begins_attribute text) false (result_type (over m text))
  unfolding result_type
  result_opens = if_next_opens (begins_attribute text) false (is_word text (codes "void")) (a_word text (codes "void") >>= λ _. done ty.Void) (a_type (over m text) 64)
      (then_opens (begins_attribute text) false (a_word text (codes "void")) (λ _. done ty.Void)
      (plain_opens (begins_attribute text) false (λ token. only_where (is_word text (codes "void") token)) (λ token a e. void_no_attribute text token (given_holds (is_word text (codes "void") token) tt a e))))
      (type_no_attribute (over m text) 64)

  words_again : (gap : List ℕ) → Twice text (words_type m) (words_type (over m text)) (type_at sp gap)
  unfolding words_type
  words_again gap tokens t k others stand =
      let x = result_again gap k.back t k.in_back in
      record {
        front = [];
        back = others;
        first = [];
        between = tt;
        parts = refl;
        in_front = inr (refl, (refl, refl, refl));
        apart = begins_alone text (begins_attribute text) false (result_type (over m text)) result_opens tt tt t (type_at sp gap t) x others stand;
        in_back = x others stand;
      }

  -- ---- heads

  head_spells : (named : Bool) (f : List ℕ → ℕ × Ty → List Piece) (h : Head) (b : Bool) (o : Option ℕ) (z u : Locals) → MayStand role o → AreBytes h.name
      → Spells text (words_type (over m text)) tt (type_at sp spaced h.result) h.result tt
      → Spells text (params (over m text) named) z (sign glued (codes "(") ++ (with_commas f glued h.params ++ sign glued (codes ")"))) h.params u
      → Spells text (a_head (over m text) role named) z (rest_of sp f h b o) (again_head h b o) u
  unfolding a_head head_marks
  head_spells named f h b o z u may name x y =
      let marks : List Piece = bound_pieces b ++ address_pieces o in
      then_spells text (lift (words_type (over m text))) _ z z u (type_at sp spaced h.result) _ h.result (again_head h b o) (lift_spells text (words_type (over m text)) z (type_at sp spaced h.result) h.result x)
      (then_spells text (lift (plain (symbol_name text))) _ z z u (global_name spaced h.name) _ h.name (again_head h b o)
      (lift_spells text (plain (symbol_name text)) z (global_name spaced h.name) h.name (symbol_spells text spaced h.name tt name))
      (subst (λ (l : List Piece). Spells text (params (over m text) named >>= λ all. lift (attribute_marks text role) >>= λ marks. done (record { name = h.name; result = h.result; params = all; marks = marks })) z l (again_head h b o) u)
      (ap (λ (l : List Piece). sign glued (codes "(") ++ l) (append_assoc (with_commas f glued h.params) (sign glued (codes ")")) marks))
      (then_spells text (params (over m text) named) _ z u u (sign glued (codes "(") ++ (with_commas f glued h.params ++ sign glued (codes ")"))) marks h.params (again_head h b o) y
      (made_spells text (lift (attribute_marks text role)) (λ marks. record { name = h.name; result = h.result; params = h.params; marks = marks }) u u marks (bound_marks b ++ address_marks o)
      (lift_spells text (attribute_marks text role) u marks (bound_marks b ++ address_marks o) (marks_spell text role b o may))))))

  pub head_again : (named : Bool) (Same : Locals → Locals → Type 0) (P : Locals → Type 0) (f : List ℕ → ℕ × Ty → List Piece) → ParamsAgain m text named Same P f
      → (s z t : Locals) (tokens : List Token) (h : Head) → Same s z → (a_head m role named).means s tokens h t → P t → (b : Bool) (o : Option ℕ) → MayStand role o → HeadAgain m text sp role named Same f h z t b o
  unfolding a_head
  head_again named Same P f again s z t tokens h like k p b o may =
      let n = k.in_back in
      let q = n.in_back in
      let r = q.in_back in
      let start : n.between ≡ s = n.in_front.1 ∙ k.in_front.1 in
      let state : t ≡ q.between = r.in_back.2 ∙ r.in_front.1 in
      let read : Head = record { name = n.first; result = k.first; params = q.first; marks = r.first } in
      let x = again n.between z q.between q.front q.first (subst (λ (v : Locals). Same v z) (sym start) like) q.in_front (subst P state p) in
      record {
        state = x.0;
        like = subst (λ (v : Locals). Same v x.0) (sym state) x.1;
        spells = subst (λ (h : Head). Spells text (a_head (over m text) role named) z (rest_of sp f h b o) (again_head h b o) x.0) (sym r.in_back.1)
            (head_spells named f read b o z x.0 may (symbol_bytes m.text tt tt n.front n.first bytes n.in_front.0) (words_again spaced k.front k.first k.in_front.0) x.2);
      }

-- what attributes of a function set
pub head_marks_may : (m : Meaning) (role : Role) (named : Bool) (s t : Locals) (tokens : List Token) (h : Head) → (a_head m role named).means s tokens h t → AllSet role h.marks
unfolding a_head head_marks
head_marks_may m role named s t tokens h k =
    let r = k.in_back.in_back.in_back in
    subst (λ (h : Head). AllSet role h.marks) (sym r.in_back.1) (read_may m.text role r.front r.first r.in_front.0)
